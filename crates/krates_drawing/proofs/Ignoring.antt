-- A setting that ignores one more kind, for all crates.
use Rattle.std.proofs.Common.{◌≡◌, inl, inr, true, false, refl, sym, ◌∙◌}
use Rattle.krates_cm.specs.Document.{DependencyModel}
use Rattle.krates_rules.specs.Facts.{Id, Edge}
use Rattle.krates_rules.specs.Kind.{kind_of, ignores, IgnoresMore}
use Rattle.krates_rules.specs.Questions.{Stands, IsWanted}
use Rattle.krates_rules.specs.Resolved.{Resolved}
use Rattle.krates_rules.specs.Roots.{AsksForWorkspace, AsksForMembers, by_setting, without_root, by_manifest, IsRoot, of_graph, of_workspace, of_manifests}
use Rattle.krates_rules.specs.Setting.{SettingModel, IsIgnored, of_member, of_other}
use Rattle.krates_rules.specs.declared.kind.DepKind.{DepKind}
use Rattle.krates_rules.specs.declared.kind.IgnoredKinds.{IgnoredKinds}
use Rattle.krates_rules.specs.declared.kind.Scope.TheVariants as scopes

abbrev pub ignoring : SettingModel → IgnoredKinds → SettingModel
ignoring s ignored = record s { ignored = ignored }

-- ---- the same crates are asked for

workspace_alike : (r : Resolved) (s z : SettingModel) → s.manifests ≡ z.manifests → AsksForWorkspace r s → AsksForWorkspace r z
workspace_alike r s z e w = record { manifest = w.manifest; alone = sym e ∙ w.alone; parent = w.parent; is_parent = w.is_parent; is_root = w.is_root }

members_alike : (r : Resolved) (s : SettingModel) (g : IgnoredKinds) → AsksForMembers r s → AsksForMembers r (ignoring s g)
members_alike r s g (by_setting none on) = by_setting none on
members_alike r s g (without_root none no_root) = without_root none no_root
members_alike r s g (by_manifest w) = by_manifest (workspace_alike r s (ignoring s g) refl w)

pub root_alike : (r : Resolved) (s : SettingModel) (g : IgnoredKinds) (i : Id) → IsRoot r s i → IsRoot r (ignoring s g) i
root_alike r s g i (of_graph {t} none off is reads) = of_graph {t = t} none off is reads
root_alike r s g i (of_workspace asks member) = of_workspace (members_alike r s g asks) member
root_alike r s g i (of_manifests not member h) =
    of_manifests (λ w. not (workspace_alike r (ignoring s g) s refl w)) member (record { pkg = h.pkg; has_package = h.has_package; manifest = h.manifest; among = h.among; same = h.same })

pub stands_alike : (r : Resolved) (s : SettingModel) (g : IgnoredKinds) (i : Id) → Stands r s i → Stands r (ignoring s g) i
stands_alike r s g i w = record {
  included = record { pkg = w.included.pkg; has_package = w.included.has_package; not_excluded = λ x. w.included.not_excluded (record { spec = x.spec; among = x.among; fits = x.fits }) };
  node = w.node;
  has_node = w.has_node;
}

-- ---- the edges of the kind are ignored

-- an edge that isn't ignored is of another kind
pub other_kind : (r : Resolved) (s : SettingModel) (g : IgnoredKinds) (k : DepKind) (e : Edge) → IgnoresMore s.ignored g k scopes.All → (IsIgnored r (ignoring s g) e → ⊥) → kind_of e.kind ≡ k → ⊥
other_kind r s g k e more not same =
    let told : (b : _) → ignores g (kind_of e.kind) b ≡ true = λ b. (more (kind_of e.kind) b).1 (inr (same, tt)) in
    not (of_other (λ member. not (of_member member (told true))) (told false))

-- and an edge of another kind that wasn't ignored before still isn't
pub not_ignored : (r : Resolved) (s : SettingModel) (g : IgnoredKinds) (k : DepKind) (e : Edge) → IgnoresMore s.ignored g k scopes.All → (kind_of e.kind ≡ k → ⊥) → (IsIgnored r s e → ⊥) → IsIgnored r (ignoring s g) e → ⊥
not_ignored r s g k e more other not (of_member member told) = elim ((more (kind_of e.kind) true).0 told) [ inl before ↦ not (of_member member before) | inr now ↦ other now.0 ]
not_ignored r s g k e more other not (of_other other_crate told) = elim ((more (kind_of e.kind) false).0 told) [ inl before ↦ not (of_other other_crate before) | inr now ↦ other now.0 ]

pub wanted_alike : (r : Resolved) (s : SettingModel) (g : IgnoredKinds) (k : DepKind) (e : Edge) (d : DependencyModel) → IgnoresMore s.ignored g k scopes.All → (kind_of e.kind ≡ k → ⊥) → IsWanted r s e d → IsWanted r (ignoring s g) e d
wanted_alike r s g k e d more other w = record {
  place = w.place;
  declared = record {
    declares = w.declared.declares;
    not_ignored = not_ignored r s g k e more other w.declared.not_ignored;
  };
  passes = w.passes;
}
