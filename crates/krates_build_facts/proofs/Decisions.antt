-- Which tests of the rows decide which side conditions of the rules.
use Rattle.std.proofs.Common.{◌≡◌, ◌⊎◌, ◌↔◌, List, Some, None, Bool, true, false, if◌then◌else◌, IsTrue, bytes_eq, refl, sym, ap, subst, inl, inr}
use Rattle.krates_cm.specs.Document.{Text, DependencyModel, TargetModel}
use Rattle.krates_cm.specs.declared.dependency.DependencyKind.{DependencyKind}
use Rattle.krates_cm.specs.declared.dependency.DependencyKind.TheVariants.{Normal, Development, Build}
use Rattle.krates_text.specs.FeatureReference.{Reference, krate, weak, strong, simple}
use Rattle.krates_rules.specs.Facts.{Id, Edge}
use Rattle.krates_rules.specs.Resolved.{Resolved}
use Rattle.krates_units.specs.BuildFacts.{Platform}
use Rattle.krates_units.specs.BuildSetting.{BuildSettingModel, IsFirst, IsLater}
use Rattle.krates_units.specs.BuildTargets.{with_tests}
use Rattle.krates_units.specs.FeaturesNamed.{NamesFeatureOf}
use Rattle.krates_units.specs.Machines.{MachineModel, PassesOn}
use Rattle.krates_units.specs.Sides.{Counts, Leads, TakesKind, machine_of, as_one, to_host, to_targets, HasFeaturesOf, own, HasKind, always, for_tests}
use Rattle.krates_units.specs.declared.kinds.Mode.{Mode}
use Rattle.krates_units.specs.declared.kinds.Mode.TheVariants as modes
use Rattle.krates_units.specs.declared.setting.Resolver.{Resolver}
use Rattle.krates_units.specs.declared.setting.Resolver.TheVariants.{V1, V2, V3}
use Rattle.krates_units.specs.declared.sides.Meeting.{Meeting}
use Rattle.krates_units.specs.declared.sides.Meeting.TheVariants as meetings
use Rattle.krates_units.specs.declared.sides.Side.{Side}
use Rattle.krates_units.specs.declared.sides.Side.TheVariants as sides
use Rattle.krates_build_tables.specs.References.{feature_named, turns_on}
use Rattle.krates_build_tables.specs.TablesOf.{LinkSays, TargetSays}
use Rattle.krates_build_tables.specs.declared.tables.Link.{Link}
use Rattle.krates_build_tables.specs.declared.tables.Tables.{Tables}
use Rattle.krates_build_tables.specs.declared.tables.TargetEntry.{TargetEntry}
use Rattle.krates_build_facts.specs.Meanings.{PlatformMeans}
use Rattle.krates_build_facts.specs.Rows.{counts, features_side, has_kind, leads_from, passes, takes_kind}
use Rattle.krates_build_facts.specs.declared.facts.PlatformNumber.{PlatformNumber}
use Rattle.krates_build_facts.specs.declared.facts.PlatformNumber.TheVariants as platforms
use Rattle.krates_build_facts.proofs.Tests.{same_text, text_is}

-- ---- kinds

pub takes_means : (m : Meeting) (k : DependencyKind) → IsTrue (takes_kind m k) → TakesKind m k
takes_means meetings.Root k h = tt
takes_means meetings.Dependency Normal h = λ e. absurd cc
takes_means meetings.Dependency Development h = absurd cc
takes_means meetings.Dependency Build h = λ e. absurd cc

pub takes_tells : (m : Meeting) (k : DependencyKind) → TakesKind m k → IsTrue (takes_kind m k)
takes_tells meetings.Root k h = refl
takes_tells meetings.Dependency Normal h = refl
takes_tells meetings.Dependency Development h = absurd (h refl)
takes_tells meetings.Dependency Build h = refl

-- a target has dependencies of the kind
pub kind_means : (s : BuildSettingModel) (x : TargetEntry) (t : TargetModel) (mode : Mode) (kind : DependencyKind) → TargetSays s x t
    → IsTrue (has_kind x mode kind) → HasKind t mode kind
kind_means s x t mode Normal says is = always
kind_means s x t modes.Build Development says is = for_tests (says.dev.0 is)
kind_means s x t modes.Test Development says is = for_tests (with_tests refl)
kind_means s x t modes.Build Build says is = absurd cc
kind_means s x t modes.Test Build says is = absurd cc

pub kind_tells : (s : BuildSettingModel) (x : TargetEntry) (t : TargetModel) (mode : Mode) (kind : DependencyKind) → TargetSays s x t
    → HasKind t mode kind → IsTrue (has_kind x mode kind)
kind_tells s x t mode Normal says always = refl
kind_tells s x t modes.Build Development says (for_tests uses) = says.dev.1 uses
kind_tells s x t modes.Test Development says (for_tests uses) = refl
kind_tells s x t mode Build says has = elim has [ ]

-- ---- references

-- the text that is compared, if it is this
named_if : (d g name f : Text) (b : Bool) → (IsTrue b → d ≡ name) → (if b then Some g else None) ≡ Some f → (name ≡ d) × (f ≡ g)
named_if d g name f true same h = (sym (same refl), cc)
named_if d g name f false same h = absurd cc

pub named_means : (v : Reference) (name f : Text) → feature_named v name ≡ Some f → NamesFeatureOf v name f
named_means (krate d) name f h = absurd cc
named_means (weak d g) name f h = named_if d g name f (bytes_eq d name) (same_text d name) h
named_means (strong d g) name f h = named_if d g name f (bytes_eq d name) (same_text d name) h
named_means (simple g) name f h = absurd cc

if_named : (d g name f : Text) → (name ≡ d) × (f ≡ g) → (if bytes_eq d name then Some g else None) ≡ Some f
if_named d g name f (e, k) = rw (text_is d name (sym e)) (ap (λ (x : Text). Some x) (sym k))

pub named_tells : (v : Reference) (name f : Text) → NamesFeatureOf v name f → feature_named v name ≡ Some f
named_tells (krate d) name f h = absurd h
named_tells (weak d g) name f h = if_named d g name f h
named_tells (strong d g) name f h = if_named d g name f h
named_tells (simple g) name f h = absurd h

-- the reference turns the dependency on
pub turns_means : (v : Reference) (name : Text) → IsTrue (turns_on v name) → (g : Text) × (v ≡ strong name g)
turns_means (krate d) name h = absurd cc
turns_means (weak d g) name h = absurd cc
turns_means (strong d g) name h = (g, ap (λ (x : Text). strong x g) (same_text d name h))
turns_means (simple g) name h = absurd cc

pub turns_tells : (name known g : Text) → known ≡ name → IsTrue (turns_on (strong name g) known)
turns_tells name known g e = text_is name known (sym e)

-- ---- sides

later_or : (v : Resolver) → IsFirst v ⊎ IsLater v
later_or V1 = inl tt
later_or V2 = inr tt
later_or V3 = inr tt

not_both : (v : Resolver) → IsFirst v → IsLater v → ⊥
not_both V1 h k = k
not_both V2 h k = h
not_both V3 h k = h

-- whether the first resolver is asked for, as a table has it
first_or_later : (v : Resolver) (b : Bool) → IsTrue b ↔ IsFirst v → (IsTrue b × IsFirst v) ⊎ ((b ≡ false) × IsLater v)
first_or_later v true h = inl (refl, h.0 refl)
first_or_later v false h = elim (later_or v) [ inl first ↦ absurd (let x = h.1 first in cc) | inr later ↦ inr (refl, later) ]

module _ (r : Resolved) (s : BuildSettingModel) (ids : List Id) (ms : List MachineModel) (i : Id) (l : Link) (e : Edge)
    (d : DependencyModel) (says : LinkSays r s ids ms i l e d) where
  pub counts_means : (n : Side) → IsTrue (counts l n) → Counts r s n e
  counts_means sides.Targets h = says.counts_for_targets.0 h
  counts_means sides.Host h = says.counts_for_host.0 h

  pub counts_tells : (n : Side) → Counts r s n e → IsTrue (counts l n)
  counts_tells sides.Targets h = says.counts_for_targets.1 h
  counts_tells sides.Host h = says.counts_for_host.1 h

  module _ (t : Tables) (first : IsTrue t.is_first ↔ IsFirst s.resolver) where
    pub leads_means : (n : Side) → Leads r s n e (leads_from t l n)
    leads_means sides.Targets = (says.leads l.leads_to).1 refl
    leads_means sides.Host = elim (first_or_later s.resolver t.is_first first) [
      | inl w ↦ rw w.0 (as_one w.1)
      | inr w ↦ rw w.0 (to_host w.1 (inl refl))
    ]

    from_host : (m : Side) → Leads r s sides.Host e m → m ≡ (if t.is_first then sides.Targets else sides.Host)
    from_host m (as_one h) = elim (first_or_later s.resolver t.is_first first) [
      | inl w ↦ rw w.0 refl
      | inr w ↦ absurd (not_both s.resolver h w.1)
    ]
    from_host m (to_host h why) = elim (first_or_later s.resolver t.is_first first) [
      | inl w ↦ absurd (not_both s.resolver w.1 h)
      | inr w ↦ rw w.0 refl
    ]
    from_host m (to_targets h same kind macro) = absurd cc

    pub leads_tells : (n m : Side) → Leads r s n e m → m ≡ leads_from t l n
    leads_tells sides.Targets m h = (says.leads m).0 h
    leads_tells sides.Host m h = from_host m h

-- ---- features

-- the side whose features what is compiled for a side has
pub features_means : (s : BuildSettingModel) (t : Tables) (n : Side) → IsTrue t.is_first ↔ IsFirst s.resolver
    → HasFeaturesOf s n (features_side t n)
features_means s t n first = elim (first_or_later s.resolver t.is_first first) [
  | inl w ↦ rw w.0 (as_one w.1)
  | inr w ↦ rw w.0 (own w.1)
]

pub features_tells : (s : BuildSettingModel) (t : Tables) (n m : Side) → IsTrue t.is_first ↔ IsFirst s.resolver → HasFeaturesOf s n m
    → m ≡ features_side t n
features_tells s t n m first (as_one h) = elim (first_or_later s.resolver t.is_first first) [
  | inl w ↦ rw w.0 refl
  | inr w ↦ absurd (not_both s.resolver h w.1)
]
features_tells s t n m first (own h) = elim (first_or_later s.resolver t.is_first first) [
  | inl w ↦ absurd (not_both s.resolver w.1 h)
  | inr w ↦ rw w.0 refl
]

-- ---- target texts

pub passes_decides : (r : Resolved) (s : BuildSettingModel) (ids : List Id) (ms : List MachineModel) (i : Id) (l : Link) (e : Edge)
    (d : DependencyModel) (n : PlatformNumber) (k : Platform) → LinkSays r s ids ms i l e d
    → PlatformMeans ms n k → IsTrue (passes l n) ↔ PassesOn (machine_of s k) e.cfg
passes_decides r s ids ms i l e d platforms.Host k says is =
    subst (λ k. IsTrue l.passes_on_host ↔ PassesOn (machine_of s k) e.cfg) (sym is) says.host
passes_decides r s ids ms i l e d (platforms.Machine n) k says (m, at, is) =
    subst (λ k. IsTrue (passes l (platforms.Machine n)) ↔ PassesOn (machine_of s k) e.cfg) (sym is) (says.machines n m at)
