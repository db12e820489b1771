-- Two settings of one choice, the second with more kinds ignored.
use Rattle.std.proofs.Common.{◌≡◌, ◌++◌, ◌∙◌, Bool, true, false, List, [], ◌∷◌, Contains, append-nil, bytes_eq, map, refl, inl, inr, string_bytes, subst, sym}
use Rattle.std.proofs.lemmas.List.Elements.{Contains-append_cases, Contains-append_left, Contains-append_right}
use Rattle.std.proofs.lemmas.Slice.Eq.{bytes_eq-Decides}
use Rattle.std.specs.List.{AllZip}
use Rattle.std.specs.Prelude.{◌⊎◌}
use Rattle.krates_answers.specs.Builds.{AlsoIgnores, AreOfOneDocument, IsGraphWithout}
use Rattle.krates_answers.specs.declared.three_graphs.ThreeGraphs.{ThreeGraphs}
use Rattle.krates_cm.specs.Document.{MetadataModel, Text}
use Rattle.krates_cm.specs.declared.package.Package.{Package}
use Rattle.krates_drawing.specs.declared.edge.Edge.{Edge}
use Rattle.krates_queries.specs.Kept.{KeptCrates}
use Rattle.krates_rules.specs.Kind.{ignores}
use Rattle.krates_rules.specs.Setting.{IsManifestOf, SettingModel}
use Rattle.krates_rules.specs.declared.kind.DepKind.{DepKind}
use Rattle.krates_rules.specs.declared.kind.DepKind.TheVariants.{Build, Dev}
use Rattle.krates_report.specs.Builds.{IsBuildOf}
use Rattle.krates_words.specs.Choice.{IsSettingOf}
use Rattle.krates_words.specs.declared.choice.Choice.{Choice}

-- texts that can't differ are equal
equal : (x y : Text) (r : Bool) → bytes_eq x y ≡ r → ((x ≡ y → ⊥) → ⊥) → x ≡ y
equal x y true is never = (bytes_eq-Decides x y).0 is
equal x y false is never = absurd (never (λ same. let clash : true ≡ false = sym ((bytes_eq-Decides x y).1 same) ∙ is in cc))

-- a path means one manifest
one_manifest : (path x y : Text) → IsManifestOf path x → IsManifestOf path y → x ≡ y
one_manifest path x y a b = equal x y (bytes_eq x y) refl (λ apart.
    apart (a.within (λ ends. apart (a.itself ends ∙ sym (b.itself ends))) ∙ sym (b.within (λ ends. apart (a.itself ends ∙ sym (b.itself ends))))))

same_manifests : (paths xs ys : List Text) → AllZip IsManifestOf paths xs → AllZip IsManifestOf paths ys → xs ≡ ys
same_manifests [] [] [] a b = refl
same_manifests [] (x ∷ xs) ys a b = absurd a
same_manifests [] [] (y ∷ ys) a b = absurd b
same_manifests (path ∷ paths) [] ys a b = absurd a
same_manifests (path ∷ paths) (x ∷ xs) [] a b = absurd b
same_manifests (path ∷ paths) (x ∷ xs) (y ∷ ys) a b = λ i. one_manifest path x y a.0 b.0 i ∷ same_manifests paths xs ys a.1 b.1 i

module _ (c : Choice) (kinds : List DepKind) (s t : SettingModel) (a : IsSettingOf c [] s) (b : IsSettingOf c kinds t) where
  -- a kind that is chosen, or one of those
  chosen_or : (kind : DepKind) (is_member : Bool) → Contains c.ignored.items kind ⊎ Contains kinds kind → (ignores s.ignored kind is_member ≡ true) ⊎ Contains kinds kind
  chosen_or kind is_member (inl among) = inl ((a.ignored kind is_member).1 (Contains-append_left c.ignored.items [] kind among))
  chosen_or kind is_member (inr also) = inr also

  ignored_or : (kind : DepKind) (is_member : Bool) → (ignores s.ignored kind is_member ≡ true) ⊎ Contains kinds kind → Contains (c.ignored.items ++ kinds) kind
  ignored_or kind is_member (inl is) =
      Contains-append_left c.ignored.items kinds kind (subst (λ (ks : List DepKind). Contains ks kind) (append-nil c.ignored.items) ((a.ignored kind is_member).0 is))
  ignored_or kind is_member (inr also) = Contains-append_right c.ignored.items kinds kind also

  also_ignores : AlsoIgnores s kinds t
  also_ignores = record {
    exactly = λ kind is_member. (
      λ is. chosen_or kind is_member (Contains-append_cases c.ignored.items kinds kind ((b.ignored kind is_member).0 is)),
      λ either. (b.ignored kind is_member).1 (ignored_or kind is_member either),
    );
    rest =
        let manifests = same_manifests (map string_bytes c.packages.items) t.manifests s.manifests b.manifests a.manifests in
        λ i. record {
          targets = (b.targets ∙ sym a.targets) i;
          manifests = manifests i;
          exclusions = (b.exclusions ∙ sym a.exclusions) i;
          ignored = t.ignored;
          workspace = (b.workspace ∙ sym a.workspace) i;
          all_named = (b.all_named ∙ sym a.all_named) i;
        };
  }

-- so a build with more kinds ignored is that of the setting with these ignored too
pub without : (m : MetadataModel) (c : Choice) (kinds : List DepKind) (all k : KeptCrates Package Edge) (wide : IsBuildOf m c [] all) → IsBuildOf m c kinds k → IsGraphWithout m wide.setting kinds k
without m c kinds all k wide narrow = record {
  narrower = narrow.setting;
  ignored = also_ignores c kinds wide.setting narrow.setting wide.chosen narrow.chosen;
  graph = narrow.graph;
}

-- and three builds are of one document under one setting
pub of_one_document : (m : MetadataModel) (c : Choice) (b : ThreeGraphs) → IsBuildOf m c [] b.all → IsBuildOf m c (Dev ∷ []) b.without_dev → IsBuildOf m c (Dev ∷ Build ∷ []) b.shipped → AreOfOneDocument b
of_one_document m c b all without_dev shipped = record {
  document = m;
  setting = all.setting;
  all = all.graph;
  without_dev = without m c (Dev ∷ []) b.all b.without_dev all without_dev;
  shipped = without m c (Dev ∷ Build ∷ []) b.all b.shipped all shipped;
}
