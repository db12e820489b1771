-- How a build that is asked for less answers the rules of what cargo builds.
use Rattle.std.proofs.Common.{◌≡◌, ◌⊎◌, ◌||◌, inl, inr, List, [], ◌∷◌, Option, Some, None, true, false, not, Contains, sym, subst}
use Rattle.std.proofs.lemmas.Bool.{not-true, not_from_false, or_cases, or_left, or_right, false_from_ne_true, both_ways}
use Rattle.krates_cm.specs.Document.{Text, TargetModel}
use Rattle.krates_cm.specs.declared.dependency.DependencyKind.{DependencyKind}
use Rattle.krates_cm.specs.declared.dependency.DependencyKind.TheVariants.{Normal, Development, Build}
use Rattle.krates_cm.specs.declared.target.TargetKind.TheVariants as kinds
use Rattle.krates_text.specs.FeatureReference.{Reference}
use Rattle.krates_rules.specs.Facts.{Id, Edge}
use Rattle.krates_rules.specs.Resolved.{Resolved}
use Rattle.krates_units.specs.BuildFacts.{Platform, host, machine, CompiledUnit}
use Rattle.krates_units.specs.BuildNarrowing.{asks_libraries, asks_programs, AsksForFewerKinds, AsksForLess, IsBuildNarrowing}
use Rattle.krates_units.specs.BuildRules.{IsAsked}
use Rattle.krates_units.specs.BuildSetting.{BuildSettingModel, IsFirst, IsLater, asks_kinds, asks_dev}
use Rattle.krates_units.specs.BuildTargets.{AsksFor, IsLibrary}
use Rattle.krates_units.specs.BuildTargets as targets
use Rattle.krates_units.specs.Built.{IsCompiled, as_unit, as_script}
use Rattle.krates_units.specs.Machines.{MachineModel, PassesOn}
use Rattle.krates_units.specs.Requests as requests
use Rattle.krates_units.specs.Requests.{AsksAlike, AsksDefaults, IsBuildRoot, IsBuildRootAs, IsGiven, IsRequested, IsSelectedMember, RootKind, Takes}
use Rattle.krates_units.specs.Sides as sides_of
use Rattle.krates_units.specs.Sides.{Counts, HasFeaturesOf, Leads, LooksOn, StartsOn, machine_of, machines_of}
use Rattle.krates_units.specs.declared.kinds.Mode.{Mode}
use Rattle.krates_units.specs.declared.kinds.Mode.TheVariants as modes
use Rattle.krates_units.specs.declared.setting.TargetFlags.{TargetFlags}
use Rattle.krates_units.specs.declared.sides.Side.{Side}
use Rattle.krates_units.specs.declared.sides.Side.TheVariants as sides
use Rattle.krates_units.proofs.AnsweredWithin.{AnsweredWithin, derivable_within}

-- ---- kinds of targets

-- by default, or by a flag
asked_libraries : (flags : TargetFlags) (t : TargetModel) → asks_libraries flags ≡ true → IsLibrary t → AsksFor flags t modes.Build
asked_libraries flags t asks is = elim (or_cases (not (asks_kinds flags)) (flags.lib || flags.all) asks) [
  | inl none ↦ targets.by_default (not-true (asks_kinds flags) none) (inl is)
  | inr some ↦ targets.as_library some is
]

asked_programs : (flags : TargetFlags) (t : TargetModel) → asks_programs flags ≡ true → Contains t.kind kinds.Bin → AsksFor flags t modes.Build
asked_programs flags t asks is = elim (or_cases (not (asks_kinds flags)) (flags.bins || flags.all) asks) [
  | inl none ↦ targets.by_default (not-true (asks_kinds flags) none) (inr is)
  | inr some ↦ targets.as_program some is
]

asks_wider : (narrow wide : TargetFlags) (t : TargetModel) (mode : Mode) → AsksForFewerKinds narrow wide → AsksFor narrow t mode → AsksFor wide t mode
asks_wider narrow wide t _ w (targets.by_default none (inl is)) =
    asked_libraries wide t (w.libraries (or_left (not (asks_kinds narrow)) _ (not_from_false (asks_kinds narrow) none))) is
asks_wider narrow wide t _ w (targets.by_default none (inr is)) =
    asked_programs wide t (w.programs (or_left (not (asks_kinds narrow)) _ (not_from_false (asks_kinds narrow) none))) is
asks_wider narrow wide t _ w (targets.as_library some is) = asked_libraries wide t (w.libraries (or_right (not (asks_kinds narrow)) _ some)) is
asks_wider narrow wide t _ w (targets.as_program some is) = asked_programs wide t (w.programs (or_right (not (asks_kinds narrow)) _ some)) is
asks_wider narrow wide t _ w (targets.as_example some is) = targets.as_example (w.examples some) is
asks_wider narrow wide t _ w (targets.as_test some is) = targets.as_test (w.tests some) is
asks_wider narrow wide t _ w (targets.as_benchmark some is) = targets.as_benchmark (w.benchmarks some) is

-- some of a few tests that are joined
pub dev_from_examples : (k : TargetFlags) → (k.examples || k.all) ≡ true → asks_dev k ≡ true
dev_from_examples k h = elim (or_cases k.examples k.all h) [
  | inl is ↦ or_left _ _ (or_left _ _ (or_left _ _ is))
  | inr is ↦ or_right _ _ is
]

pub dev_from_tests : (k : TargetFlags) → (k.tests || k.all) ≡ true → asks_dev k ≡ true
dev_from_tests k h = elim (or_cases k.tests k.all h) [
  | inl is ↦ or_left _ _ (or_left _ _ (or_right _ _ is))
  | inr is ↦ or_right _ _ is
]

pub dev_from_benches : (k : TargetFlags) → (k.benches || k.all) ≡ true → asks_dev k ≡ true
dev_from_benches k h = elim (or_cases k.benches k.all h) [
  | inl is ↦ or_left _ _ (or_right _ _ is)
  | inr is ↦ or_right _ _ is
]

dev_wider : (narrow wide : TargetFlags) → AsksForFewerKinds narrow wide → asks_dev narrow ≡ true → asks_dev wide ≡ true
dev_wider narrow wide w h = elim (or_cases _ _ h) [
  | inr all ↦ dev_from_examples wide (w.examples (or_right narrow.examples narrow.all all))
  | inl rest ↦ elim (or_cases _ _ rest) [
    | inr benches ↦ dev_from_benches wide (w.benchmarks (or_left narrow.benches narrow.all benches))
    | inl rest' ↦ elim (or_cases _ _ rest') [
      | inr tests ↦ dev_from_tests wide (w.tests (or_left narrow.tests narrow.all tests))
      | inl examples ↦ dev_from_examples wide (w.examples (or_left narrow.examples narrow.all examples))
    ]
  ]
]

-- ---- machines

pub passes_wider : (xs ys : List MachineModel) → ((m : MachineModel) → Contains xs m → Contains ys m) → (cfg : Option Text)
    → PassesOn xs cfg → PassesOn ys cfg
passes_wider xs ys more None h = h
passes_wider xs ys more (Some text) h = (h.0, more h.0 h.1, h.2)

machines_wider : (r : Resolved) (wide narrow : BuildSettingModel) → AsksForLess r wide narrow → (n : Side) (kind : DependencyKind)
    → (m : MachineModel) → Contains (machines_of narrow n kind) m → Contains (machines_of wide n kind) m
machines_wider r wide narrow w sides.Host kind m h = subst (λ x. Contains (x ∷ []) m) w.host h
machines_wider r wide narrow w sides.Targets Build m h = subst (λ x. Contains (x ∷ []) m) w.host h
machines_wider r wide narrow w sides.Targets Normal m h = w.machines m h
machines_wider r wide narrow w sides.Targets Development m h = w.machines m h

platform_wider : (r : Resolved) (wide narrow : BuildSettingModel) → AsksForLess r wide narrow → (k : Platform) (cfg : Option Text)
    → PassesOn (machine_of narrow k) cfg → PassesOn (machine_of wide k) cfg
platform_wider r wide narrow w host cfg h = subst (λ x. PassesOn (x ∷ []) cfg) w.host h
platform_wider r wide narrow w (machine target) cfg h = h

-- ---- the resolver

first_wider : (r : Resolved) (wide narrow : BuildSettingModel) → AsksForLess r wide narrow → IsFirst narrow.resolver → IsFirst wide.resolver
first_wider r wide narrow w h = subst IsFirst w.resolver h

later_wider : (r : Resolved) (wide narrow : BuildSettingModel) → AsksForLess r wide narrow → IsLater narrow.resolver → IsLater wide.resolver
later_wider r wide narrow w h = subst IsLater w.resolver h

later_narrower : (r : Resolved) (wide narrow : BuildSettingModel) → AsksForLess r wide narrow → IsLater wide.resolver → IsLater narrow.resolver
later_narrower r wide narrow w h = subst IsLater (sym w.resolver) h

-- ---- roots

alike_wider : (r : Resolved) (wide narrow : BuildSettingModel) → AsksForLess r wide narrow → AsksAlike r narrow → AsksAlike r wide
alike_wider r wide narrow w (inl later) = inl (later_wider r wide narrow w later)
alike_wider r wide narrow w (inr none) = inr none

alike_narrower : (r : Resolved) (wide narrow : BuildSettingModel) → AsksForLess r wide narrow → AsksAlike r wide → AsksAlike r narrow
alike_narrower r wide narrow w (inl later) = inl (later_narrower r wide narrow w later)
alike_narrower r wide narrow w (inr none) = inr none

unlike_wider : (r : Resolved) (wide narrow : BuildSettingModel) → AsksForLess r wide narrow → ¬ AsksAlike r narrow → ¬ AsksAlike r wide
unlike_wider r wide narrow w h alike = h (alike_narrower r wide narrow w alike)

member_wider : (r : Resolved) (wide narrow : BuildSettingModel) (i : Id) → AsksForLess r wide narrow
    → IsSelectedMember r narrow i → IsSelectedMember r wide i
member_wider r wide narrow i w x = (x.0, w.packages.selected i x.1)

root_as_wider : (r : Resolved) (wide narrow : BuildSettingModel) (i : Id) (kind : RootKind) → AsksForLess r wide narrow
    → IsBuildRootAs r narrow i kind → IsBuildRootAs r wide i kind
root_as_wider r wide narrow i requests.alike w x = (alike_wider r wide narrow w x.0, member_wider r wide narrow i w x.1)
root_as_wider r wide narrow i requests.unselected w x = (alike_wider r wide narrow w x.0, w.packages.members x.0 x.1, x.2)
root_as_wider r wide narrow i requests.current w x = (unlike_wider r wide narrow w x.0, x.1)
root_as_wider r wide narrow i requests.other w x = (unlike_wider r wide narrow w x.0, x.1, member_wider r wide narrow i w x.2)

root_wider : (r : Resolved) (wide narrow : BuildSettingModel) (i : Id) → AsksForLess r wide narrow → IsBuildRoot r narrow i → IsBuildRoot r wide i
root_wider r wide narrow i w x = (x.0, root_as_wider r wide narrow i x.0 w x.1)

-- ---- what is requested of them

unset_wider : (r : Resolved) (wide narrow : BuildSettingModel) → AsksForLess r wide narrow → narrow.no_default_features ≡ false
    → wide.no_default_features ≡ false
unset_wider r wide narrow w h =
    false_from_ne_true wide.no_default_features (λ on. both_ways narrow.no_default_features h (w.default_features on))

defaults_wider : (r : Resolved) (wide narrow : BuildSettingModel) (kind : RootKind) → AsksForLess r wide narrow
    → AsksDefaults narrow kind → AsksDefaults wide kind
defaults_wider r wide narrow requests.alike w h = unset_wider r wide narrow w h
defaults_wider r wide narrow requests.unselected w h = h
defaults_wider r wide narrow requests.current w h = unset_wider r wide narrow w h
defaults_wider r wide narrow requests.other w h = h

given_wider : (r : Resolved) (wide narrow : BuildSettingModel) (v : Reference) → AsksForLess r wide narrow → IsGiven narrow v → IsGiven wide v
given_wider r wide narrow v w x = record { text = x.text; among = w.features x.text x.among; is = x.is }

takes_wider : (r : Resolved) (wide narrow : BuildSettingModel) (i : Id) (kind : RootKind) (v u : Reference) → AsksForLess r wide narrow
    → IsGiven narrow v → IsBuildRootAs r narrow i kind → Takes r narrow i kind v u → Takes r wide i kind v u
takes_wider r wide narrow i requests.alike v u w given root x = x
takes_wider r wide narrow i requests.unselected v u w given root x = x
takes_wider r wide narrow i requests.current v u w given root x = (λ other. x.0 (w.packages.named root.0 v given other), x.1)
takes_wider r wide narrow i requests.other v u w given root x = x

requested_wider : (r : Resolved) (wide narrow : BuildSettingModel) (i : Id) (v : Reference) → AsksForLess r wide narrow
    → IsRequested r narrow i v → IsRequested r wide i v
requested_wider r wide narrow i _ w (requests.default kind root asks has) =
    requests.default kind (root_as_wider r wide narrow i kind w root) (defaults_wider r wide narrow kind w asks) has
requested_wider r wide narrow i _ w (requests.each {f} kind root known all has) =
    requests.each {f = f} kind (root_as_wider r wide narrow i kind w root) known (w.all_features all) has
requested_wider r wide narrow i v w (requests.taken {v = u} kind root given takes) =
    requests.taken {v = u} kind (root_as_wider r wide narrow i kind w root) (given_wider r wide narrow u w given)
    (takes_wider r wide narrow i kind u v w given root takes)

-- ---- sides

starts_wider : (r : Resolved) (wide narrow : BuildSettingModel) (i : Id) (n : Side) → AsksForLess r wide narrow
    → StartsOn r narrow i n → StartsOn r wide i n
starts_wider r wide narrow i _ w sides_of.on_targets = sides_of.on_targets
starts_wider r wide narrow i _ w (sides_of.on_host later has) = sides_of.on_host (later_wider r wide narrow w later) has

dev_counts_wider : (r : Resolved) (wide narrow : BuildSettingModel) → AsksForLess r wide narrow
    → IsFirst narrow.resolver ⊎ (asks_dev narrow.kinds ≡ true) → IsFirst wide.resolver ⊎ (asks_dev wide.kinds ≡ true)
dev_counts_wider r wide narrow w (inl first) = inl (first_wider r wide narrow w first)
dev_counts_wider r wide narrow w (inr asks) = inr (dev_wider narrow.kinds wide.kinds w.kinds asks)

counts_wider : (r : Resolved) (wide narrow : BuildSettingModel) (n : Side) (e : Edge) → AsksForLess r wide narrow
    → Counts r narrow n e → Counts r wide n e
counts_wider r wide narrow n e w x = record {
  of_root = λ dev. (root_wider r wide narrow e.parent w (x.of_root dev).0, dev_counts_wider r wide narrow w (x.of_root dev).1);
  passes = λ later. passes_wider (machines_of narrow n e.kind) (machines_of wide n e.kind) (machines_wider r wide narrow w n e.kind) e.cfg
      (x.passes (later_narrower r wide narrow w later));
}

leads_wider : (r : Resolved) (wide narrow : BuildSettingModel) (n : Side) (e : Edge) (m : Side) → AsksForLess r wide narrow
    → Leads r narrow n e m → Leads r wide n e m
leads_wider r wide narrow n e _ w (sides_of.as_one first) = sides_of.as_one (first_wider r wide narrow w first)
leads_wider r wide narrow n e _ w (sides_of.to_host later why) = sides_of.to_host (later_wider r wide narrow w later) why
leads_wider r wide narrow n e _ w (sides_of.to_targets later from kind none) =
    sides_of.to_targets (later_wider r wide narrow w later) from kind none

looks_wider : (r : Resolved) (wide narrow : BuildSettingModel) (e : Edge) (m : Side) → AsksForLess r wide narrow
    → LooksOn r narrow e m → LooksOn r wide e m
looks_wider r wide narrow e _ w (sides_of.as_one first) = sides_of.as_one (first_wider r wide narrow w first)
looks_wider r wide narrow e _ w (sides_of.on_host later why) = sides_of.on_host (later_wider r wide narrow w later) why
looks_wider r wide narrow e _ w (sides_of.on_targets later kind none) = sides_of.on_targets (later_wider r wide narrow w later) kind none

features_wider : (r : Resolved) (wide narrow : BuildSettingModel) (n m : Side) → AsksForLess r wide narrow
    → HasFeaturesOf narrow n m → HasFeaturesOf wide n m
features_wider r wide narrow n _ w (sides_of.as_one first) = sides_of.as_one (first_wider r wide narrow w first)
features_wider r wide narrow n _ w (sides_of.own later) = sides_of.own (later_wider r wide narrow w later)

-- ---- all questions of the rules

asked_wider : (r : Resolved) (wide narrow : BuildSettingModel) (u : CompiledUnit) → AsksForLess r wide narrow → IsAsked r narrow u → IsAsked r wide u
asked_wider r wide narrow u w x = record {
  selected = w.packages.selected u.krate x.selected;
  has = x.has;
  no_script = x.no_script;
  asked = asks_wider narrow.kinds wide.kinds u.target u.mode w.kinds x.asked;
  target = x.target;
  among = w.machines x.target x.among;
  goes = x.goes;
}

narrow_within : (r : Resolved) (wide narrow : BuildSettingModel) → AsksForLess r wide narrow → AnsweredWithin r narrow r wide
narrow_within r wide narrow w = record {
  root = λ i x. root_wider r wide narrow i w x;
  requested = λ i v x. requested_wider r wide narrow i v w x;
  reference = λ i f v x. x;
  feature = λ i f x. x;
  optional = λ i name x. x;
  resolves = λ e d x. x;
  lacks = λ i d x. x;
  starts = λ i n x. starts_wider r wide narrow i n w x;
  counts = λ n e x. counts_wider r wide narrow n e w x;
  leads = λ n e m x. leads_wider r wide narrow n e m w x;
  looks = λ e m x. looks_wider r wide narrow e m w x;
  asked = λ u x. asked_wider r wide narrow u w x;
  target = λ i l x. x;
  native = λ i x. x;
  passes = λ k cfg x. platform_wider r wide narrow w k cfg x;
  features_of = λ n m x. features_wider r wide narrow n m w x;
}

-- ---- the law

compiled_wider : (r : Resolved) (wide narrow : BuildSettingModel) → AsksForLess r wide narrow → (i : Id) (k : Platform) (n : Side)
    → IsCompiled r narrow i k n → IsCompiled r wide i k n
compiled_wider r wide narrow w i _ _ (as_unit u of d) = as_unit u of (derivable_within r narrow r wide (narrow_within r wide narrow w) d)
compiled_wider r wide narrow w i _ _ (as_script {n} d) = as_script {n = n} (derivable_within r narrow r wide (narrow_within r wide narrow w) d)

pub is_build_narrowing : IsBuildNarrowing
is_build_narrowing r wide narrow w =
    let within = narrow_within r wide narrow w in
    record {
      facts = λ f d. derivable_within r narrow r wide within d;
      built = λ i k x. (x.0, compiled_wider r wide narrow w i k x.0 x.1);
      features = λ i k f x. (
        x.0,
        x.1,
        compiled_wider r wide narrow w i k x.0 x.2,
        features_wider r wide narrow x.0 x.1 w x.3,
        derivable_within r narrow r wide within x.4,
      );
      complete = λ all i d x. all i d (derivable_within r narrow r wide within x);
    }
