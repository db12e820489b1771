-- A build without an index is that of the document as it is given.
use Rattle.std.proofs.Common.{◌≡◌, List, [], ◌∷◌, Contains, Option, None, Some, inl, inr, refl, subst, sym}
use Rattle.std.specs.List.{AllZip, FoldsTo}
use Rattle.krates.specs.Build.{DropsCrate, IsBuilt}
use Rattle.krates.specs.Indexed.{Answering, Sees}
use Rattle.krates.proofs.SeenLemmas.{as_given}
use Rattle.krates_answers.specs.Builds.{IsGraphUnder, IsPackageWithId}
use Rattle.krates_cm.specs.Document.{MetadataModel, id_view, metadata_view, package_view}
use Rattle.krates_cm.specs.declared.metadata.Metadata.{Metadata}
use Rattle.krates_cm.specs.declared.package.Package.{Package}
use Rattle.krates_drawing.specs.Listed.{AreThosePackages}
use Rattle.krates_drawing.specs.declared.edge.Edge.{Edge}
use Rattle.krates_ids.specs.Identity.{Identity, Reads}
use Rattle.krates_queries.specs.Kept.{KeptCrates, ids_of, values_of}
use Rattle.krates_rules.proofs.Elements.{contains_image}
use Rattle.krates_rules.proofs.Members.{Member, contains_of}
use Rattle.krates_rules.specs.Setting.{SettingModel}
use Rattle.krates_rules.specs.declared.kind.DepKind.{DepKind}
use Rattle.krates_report.specs.Builds.{IsBuildOf, IsDivisionOf}
use Rattle.krates_words.specs.Choice.{IsSettingOf}
use Rattle.krates_words.specs.declared.choice.Choice.{Choice}

-- what is held for a package is the package
abbrev IsItself : Package → Package → Type 0
IsItself pkg held = held ≡ pkg

-- what an edge carries is the edge
abbrev IsSameEdge : Edge → Edge → Type 0
IsSameEdge edge held = held ≡ edge

-- packages that are read as these ids, among those of a document
held : (m : MetadataModel) (packages values : List Package) (ids : List Identity) → ((pkg : Package) → Member packages pkg → Contains m.packages (package_view pkg))
    → AllZip (λ pkg i. Reads (id_view pkg.id) i) packages ids → AllZip IsItself packages values → AllZip (IsPackageWithId m) values ids
held m [] [] [] among read same = tt
held m [] (value ∷ values) ids among read same = absurd same
held m [] [] (id ∷ ids) among read same = absurd read
held m (pkg ∷ packages) values [] among read same = absurd read
held m (pkg ∷ packages) [] (id ∷ ids) among read same = absurd same
held m (pkg ∷ packages) (value ∷ values) (id ∷ ids) among read same = (
  subst (λ (p : Package). IsPackageWithId m p id) (sym same.0) (record { among = among pkg (inl refl); reads = read.0 }),
  held m packages values ids (λ p member. among p (inr member)) read.1 same.1,
)

-- without an index nothing else is seen
unindexed : {S : Type 0} (may_answer : Answering S) (m : Metadata) (P : Metadata → Type 0) (index : Option S) → index ≡ None → Sees may_answer index m P → P m
unindexed may_answer m P index none sees = as_given may_answer m P (subst (λ (i : Option _). Sees may_answer i m P) none sees)

module _ {F : Type 0} (filters : F → Package → F → Type 0) where
  graph_of : (m : Metadata) (s : SettingModel) (before after : F) (k : KeptCrates Package Edge) → IsBuilt filters IsItself IsSameEdge m s before after k → IsGraphUnder (metadata_view m) s k
  graph_of m s before after k built =
      let packages = built.values.packages in record {
        kept = built.kept;
        packages = held (metadata_view m) packages (values_of k) (ids_of k)
            (λ pkg member. contains_image package_view m.packages.items pkg ((built.values.those.exactly pkg).0 (contains_of packages pkg member)).0) built.values.those.read built.values.made_of;
        enabled = built.enabled;
        drawn = built.drawn;
        agree = built.agree;
        members = built.members;
        root = built.root;
        explained = built.explained;
      }

  module _ {S : Type 0} (may_answer : Answering S) (m : Metadata) (s : SettingModel) (before after : F) (k : KeptCrates Package Edge) where
    pub build_of : (index : Option S) (c : Choice) (also : List DepKind) (chosen : SettingModel) → index ≡ None → s ≡ chosen → IsSettingOf c also chosen
        → Sees may_answer index m (λ seen. IsBuilt filters IsItself IsSameEdge seen s before after k) → IsBuildOf (metadata_view m) c also k
    build_of index c also chosen none under is_chosen sees = record {
      setting = chosen;
      chosen = is_chosen;
      graph = subst (λ (t : SettingModel). IsGraphUnder (metadata_view m) t k) under (graph_of m s before after k (unindexed may_answer m (λ seen. IsBuilt filters IsItself IsSameEdge seen s before after k) index none sees));
    }

    -- where the filter's last state shows that it was called with these packages
    pub division_of : (index : Option S) (c : Choice) (chosen : SettingModel) (others : List Package) → index ≡ None → s ≡ chosen → IsSettingOf c [] chosen
        → ((called : List Package) → FoldsTo filters before called after → called ≡ others) → Sees may_answer index m (λ seen. IsBuilt filters IsItself IsSameEdge seen s before after k) → IsDivisionOf m c k others
    division_of index c chosen others none under is_chosen shows sees =
        let built = unindexed may_answer m (λ seen. IsBuilt filters IsItself IsSameEdge seen s before after k) index none sees in
        let reported = built.reported in record {
          setting = chosen;
          chosen = is_chosen;
          graph = subst (λ (t : SettingModel). IsGraphUnder (metadata_view m) t k) under (graph_of m s before after k built);
          ids = reported.ids;
          not_kept = subst (λ (t : SettingModel). AreThosePackages m.packages.items (DropsCrate (metadata_view m) t) reported.ids others) under
              (subst (AreThosePackages m.packages.items (DropsCrate (metadata_view m) s) reported.ids) (shows reported.others reported.run) reported.not_kept);
        }
