-- How a setting that leaves out more answers the rules.
use Rattle.std.proofs.Common.{◌≡◌, ◌⊎◌, inl, inr, [], Option, Some, None, true, false, Contains, refl, sym, ◌∙◌, subst}
use Rattle.krates_cm.specs.Document.{Text, PackageModel}
use Rattle.krates_ids.specs.declared.error.Error.{Error}
use Rattle.krates_ids.specs.declared.error.Error.TheVariants as errors
use Rattle.krates_text.specs.Passing.{TellsPassing}
use Rattle.krates_rules.specs.Facts.{Id, Edge, Fact}
use Rattle.krates_rules.specs.Kind.{kind_of, ignores}
use Rattle.krates_rules.specs.Naming.{IsNamedPart, naming}
use Rattle.krates_rules.specs.Narrowing.{IsNarrower, excludes_more, ignores_more, asks_targets, LosesNothing, IsNarrowing}
use Rattle.krates_rules.specs.Questions.{IsIncluded, questions}
use Rattle.krates_rules.specs.Referent.{IsReferent}
use Rattle.krates_rules.specs.Resolved.{Resolved}
use Rattle.krates_rules.specs.Roots.{AsksForWorkspace, AsksForMembers, by_setting, without_root, by_manifest, HasManifest, IsRoot, of_graph, of_workspace, of_manifests}
use Rattle.krates_rules.specs.SelectionRefusals.{SelectionRefusal, cause_of}
use Rattle.krates_rules.specs.Setting.{SettingModel, IsExcluded, IsIgnored, of_member, of_other, Passes}
use Rattle.krates_rules.proofs.AnyTarget.{passes_anywhere}
use Rattle.krates_rules.proofs.DerivationLaws.{Within, derivable_within}

-- ---- settings that select the same crates as roots have the same roots

workspace_same : (r : Resolved) (s z : SettingModel) → s.manifests ≡ z.manifests → AsksForWorkspace r s → AsksForWorkspace r z
workspace_same r s z same w = record {
  manifest = w.manifest;
  alone = sym same ∙ w.alone;
  parent = w.parent;
  is_parent = w.is_parent;
  is_root = w.is_root;
}

members_same : (r : Resolved) (s z : SettingModel) → s.manifests ≡ z.manifests → s.workspace ≡ z.workspace
    → AsksForMembers r s → AsksForMembers r z
members_same r s z same all (by_setting none on) = by_setting (sym same ∙ none) (sym all ∙ on)
members_same r s z same all (without_root none no_root) = without_root (sym same ∙ none) no_root
members_same r s z same all (by_manifest w) = by_manifest (workspace_same r s z same w)

manifest_same : (r : Resolved) (s z : SettingModel) (i : Id) → s.manifests ≡ z.manifests → HasManifest r s i → HasManifest r z i
manifest_same r s z i same h = record {
  pkg = h.pkg;
  has_package = h.has_package;
  manifest = h.manifest;
  among = subst (λ ms. Contains ms h.manifest) same h.among;
  same = h.same;
}

root_same : (r : Resolved) (s z : SettingModel) (i : Id) → s.manifests ≡ z.manifests → s.workspace ≡ z.workspace
    → IsRoot r s i → IsRoot r z i
root_same r s z i same all (of_graph {t} none off is reads) = of_graph {t = t} (sym same ∙ none) (sym all ∙ off) is reads
root_same r s z i same all (of_workspace asks member) = of_workspace (members_same r s z same all asks) member
root_same r s z i same all (of_manifests not member h) =
    of_manifests (λ w. not (workspace_same r z s (sym same) w)) member (manifest_same r s z i same h)

-- ---- settings that leave out more

-- the second selects the same crates as roots, and leaves out all that the first does
record LeavesOut (r : Resolved) (wide narrow : SettingModel) : Type 0 where
  manifests : narrow.manifests ≡ wide.manifests
  workspace : narrow.workspace ≡ wide.workspace
  excluded : (p : PackageModel) → IsExcluded wide p → IsExcluded narrow p
  ignored : (e : Edge) → IsIgnored r wide e → IsIgnored r narrow e
  passes : (cfg : Option Text) → Passes narrow cfg → Passes wide cfg
  means : (i : Id) (name : Text) (c : Id) → IsReferent r narrow.all_named i name c → IsReferent r wide.all_named i name c

included_wider : (r : Resolved) (wide narrow : SettingModel) (i : Id) → LeavesOut r wide narrow
    → IsIncluded r narrow i → IsIncluded r wide i
included_wider r wide narrow i w x = record {
  pkg = x.pkg;
  has_package = x.has_package;
  not_excluded = λ out. x.not_excluded (w.excluded x.pkg out);
}

narrow_within : (r : Resolved) (wide narrow : SettingModel) → LeavesOut r wide narrow
    → Within (questions r narrow) (questions r wide)
unfolding questions
narrow_within r wide narrow w = record {
  root = λ i x. root_same r narrow wide i w.manifests w.workspace x;
  stands = λ i x. record { included = included_wider r wide narrow i w x.included; node = x.node; has_node = x.has_node };
  no_package = λ i x. x;
  no_node = λ i x. record { included = included_wider r wide narrow i w x.included; no_node = x.no_node };
  lists = λ i f x. x;
  lacks = λ i f x. x;
  refers = λ i f reference x. x;
  referent = w.means;
  declared = λ e d x. x;
  wanted = λ e d x. record {
    place = x.place;
    declared = record {
      declares = x.declared.declares;
      not_ignored = λ out. x.declared.not_ignored (w.ignored e out);
    };
    passes = w.passes e.cfg x.passes;
  };
  loose = λ e x. record {
    dep = x.dep;
    lists = x.lists;
    not_ignored = λ out. x.not_ignored (w.ignored e out);
    undeclared = x.undeclared;
  };
}

-- ---- one step

ignored_alike : (r : Resolved) (s z : SettingModel) (e : Edge) → s.ignored ≡ z.ignored → IsIgnored r s e → IsIgnored r z e
ignored_alike r s z e same (of_member member told) =
    of_member member (subst (λ x. ignores x (kind_of e.kind) true ≡ true) same told)
ignored_alike r s z e same (of_other other told) =
    of_other other (subst (λ x. ignores x (kind_of e.kind) false ≡ true) same told)

passes_wider : (narrow wide : SettingModel) → wide.targets ≡ [] → (cfg : Option Text) → Passes narrow cfg → Passes wide cfg
passes_wider narrow wide none None h = tt
passes_wider narrow wide none (Some text) h =
    subst (λ targets. TellsPassing text targets true) (sym none) (passes_anywhere text narrow.targets h)

leaves_out : (r : Resolved) (wide narrow : SettingModel) → IsNarrower wide narrow → LeavesOut r wide narrow
leaves_out r wide _ (excludes_more exclusions more) = record {
  manifests = refl;
  workspace = refl;
  excluded = λ p x. record { spec = x.spec; among = more x.spec x.among; fits = x.fits };
  ignored = λ e x. ignored_alike r _ _ e refl x;
  passes = λ cfg x. x;
  means = λ i name c x. x;
}
leaves_out r wide _ (ignores_more ignored kind scope more) = record {
  manifests = refl;
  workspace = refl;
  excluded = λ p x. record { spec = x.spec; among = x.among; fits = x.fits };
  ignored = λ e x. ignored_more e x;
  passes = λ cfg x. x;
  means = λ i name c x. x;
}
  where
    ignored_more : (e : Edge) → IsIgnored r wide e → IsIgnored r (record wide { ignored = ignored }) e
    ignored_more e (of_member member told) = of_member member ((more (kind_of e.kind) true).1 (inl told))
    ignored_more e (of_other other told) = of_other other ((more (kind_of e.kind) false).1 (inl told))
leaves_out r wide _ (asks_targets targets none) = record {
  manifests = refl;
  workspace = refl;
  excluded = λ p x. record { spec = x.spec; among = x.among; fits = x.fits };
  ignored = λ e x. ignored_alike r _ _ e refl x;
  passes = λ cfg x. passes_wider (record wide { targets = targets }) wide none cfg x;
  means = λ i name c x. x;
}

-- a name that means only the least crate that matches it means no more than one that means them all
means_all : (r : Resolved) (i : Id) (name : Text) (c : Id) → IsReferent r false i name c → IsReferent r true i name c
means_all r i name c x = record { is_named = x.is_named; least = λ off. absurd cc }

means_more : (r : Resolved) (s : SettingModel) → LeavesOut r (naming s true) (naming s false)
means_more r s = record {
  manifests = refl;
  workspace = refl;
  excluded = λ p x. record { spec = x.spec; among = x.among; fits = x.fits };
  ignored = λ e x. ignored_alike r _ _ e refl x;
  passes = λ cfg x. x;
  means = means_all r;
}

-- ---- the laws

refused_narrower : (r : Resolved) (wide narrow : SettingModel) → Within (questions r narrow) (questions r wide)
    → LosesNothing (questions r wide) → (e : Error) → SelectionRefusal (questions r narrow) e
    → (e ≡ errors.NoRootKrates) ⊎ (e ≡ errors.Memory)
refused_narrower r wide narrow w none (errors.Lost what) d = absurd (none (cause_of what) (derivable_within w d))
refused_narrower r wide narrow w none errors.NoRootKrates h = inl refl
refused_narrower r wide narrow w none errors.Memory h = inr refl
refused_narrower r wide narrow w none errors.NoResolveGraph h = absurd h
refused_narrower r wide narrow w none (errors.Metadata x) h = absurd h
refused_narrower r wide narrow w none (errors.InvalidPkgSpec x) h = absurd h
refused_narrower r wide narrow w none (errors.InvalidId x) h = absurd h
refused_narrower r wide narrow w none (errors.Doubled x) h = absurd h
refused_narrower r wide narrow w none errors.TooMany h = absurd h

pub is_narrowing : IsNarrowing
is_narrowing r wide narrow n =
    let w = narrow_within r wide narrow (leaves_out r wide narrow n) in
    record { facts = λ f d. derivable_within w d; refusals = λ none e h. refused_narrower r wide narrow w none e h }

pub is_named_part : IsNamedPart
is_named_part r s f d = derivable_within (narrow_within r (naming s true) (naming s false) (means_more r s)) d
