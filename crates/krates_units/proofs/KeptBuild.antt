-- The seven rules keep what cargo builds, where their setting leaves out nothing that counts for it.
use Rattle.std.proofs.Common.{◌≡◌, ◌⊎◌, inl, inr, ℕ, zero, suc, List, [], ◌∷◌, Some, slice_get, cond, true, false, Contains, refl, sym, ap, subst}
use Rattle.std.specs.Prelude.{⊤, ◌≢◌}
use Rattle.std.proofs.lemmas.Bool.{cases_Bool}
use Rattle.std.proofs.lemmas.Option.{same_Some}
use Rattle.krates_cm.specs.Document.{Text, TargetModel, DependencyModel}
use Rattle.krates_text.specs.FeatureReference.{Reference, krate, weak, strong, simple}
use Rattle.krates_rules.specs.DeclaredDependency.{declared_name}
use Rattle.krates_rules.specs.Demands.{Demands}
use Rattle.krates_rules.specs.Facts.{Id, Edge, Crate, Feature, Kept}
use Rattle.krates_rules.specs.Facts.{Fact as SevenFact}
use Rattle.krates_rules.specs.Derivation.{Derivable}
use Rattle.krates_rules.specs.Features.{HasReference, ListsFeature}
use Rattle.krates_rules.specs.Questions.{questions}
use Rattle.krates_rules.specs.Resolved.{Resolved}
use Rattle.krates_rules.specs.Setting.{SettingModel}
use Rattle.krates_rules.proofs.OnlyOne.{place_in}
use Rattle.krates_rules.proofs.Standings.{contains_at}
use Rattle.krates_units.specs.BuildFacts.{Fact, CompiledUnit, Placement, Platform, host, machine}
use Rattle.krates_units.specs.BuildFacts as means
use Rattle.krates_units.specs.BuildRules.{Rule, IsAsked, if_optional}
use Rattle.krates_units.specs.BuildRules as rules
use Rattle.krates_units.specs.BuildSetting.{BuildSettingModel, IsFirst, IsLater, asks_dev, machines}
use Rattle.krates_units.specs.BuildTargets.{AsksFor, HasTarget, IsLibrary, IsLinkable, IsMacro, IsMacroCrate, UsesDev, is_library_kind, is_linkable_kind}
use Rattle.krates_units.specs.BuildTargets as targets
use Rattle.krates_units.specs.Built.{IsDerivable, IsPremise, follows, IsCompiled, as_unit, as_script}
use Rattle.krates_units.specs.FeaturesNamed.{NamesFeatureOf}
use Rattle.krates_units.specs.KeptBuild as beside
use Rattle.krates_units.specs.KeptBuild.{AllowsBuild, AllowsEdge, Extent, IncludesEdge, IncludesPlatform, IsNamedBeside, KeepsBuild, KeepsEachBuild, MayCount, MayUseDev, SuitsResolver}
use Rattle.krates_units.specs.Machines.{MachineModel, PassesOn}
use Rattle.krates_units.specs.Requests.{IsBuildRoot, IsRequested, IsSelected, GivesFeature, KnowsOptional}
use Rattle.krates_units.specs.Requests as requests
use Rattle.krates_units.specs.Resolves.{Resolves}
use Rattle.krates_units.specs.Sides as sides_of
use Rattle.krates_units.specs.Sides.{Counts, GoesTo, HasFeaturesOf, HasKind, Leads, machine_of, machines_of}
use Rattle.krates_units.specs.declared.kinds.Mode.{Mode}
use Rattle.krates_units.specs.declared.kinds.Mode.TheVariants as modes
use Rattle.krates_units.specs.declared.setting.Resolver.{Resolver}
use Rattle.krates_units.specs.declared.setting.Resolver.TheVariants.{V1, V2, V3}
use Rattle.krates_units.specs.declared.setting.TargetFlags.{TargetFlags}
use Rattle.krates_units.specs.declared.sides.Side.{Side}
use Rattle.krates_units.specs.declared.sides.Side.TheVariants as sides
use Rattle.krates_cm.specs.declared.dependency.DependencyKind.{DependencyKind}
use Rattle.krates_cm.specs.declared.dependency.DependencyKind.TheVariants as written
use Rattle.krates_cm.specs.declared.target.TargetKind.{TargetKind}
use Rattle.krates_cm.specs.declared.target.TargetKind.TheVariants as kinds
use Rattle.krates_units.proofs.BuildNarrowed.{dev_from_benches, dev_from_examples, dev_from_tests, passes_wider}
use Rattle.krates_units.proofs.KeptFacts as seven

-- ---- resolvers and machines

pub resolver_cases : (v : Resolver) → IsFirst v ⊎ IsLater v
resolver_cases V1 = inl tt
resolver_cases V2 = inr tt
resolver_cases V3 = inr tt

-- an element behind the first one
behind : {A : Type 0} (x : A) (xs : List A) (y : A) → Contains xs y → Contains (x ∷ xs) y
behind x xs y c = let at = place_in xs y c in contains_at (x ∷ xs) (suc at.0) y at.1

-- the only element of a list
one_there : {A : Type 0} (x y : A) (k : ℕ) → slice_get (x ∷ []) k ≡ Some y → x ≡ y
one_there x y zero h = same_Some x y h
one_there x y (suc k) h = absurd cc

pub only_one : {A : Type 0} (x y : A) → Contains (x ∷ []) y → x ≡ y
only_one x y c = let at = place_in (x ∷ []) y c in one_there x y at.0 at.1

-- it is the first of a longer one too
first_too : {A : Type 0} (x : A) (xs : List A) (y : A) → Contains (x ∷ []) y → Contains (x ∷ xs) y
first_too x xs y c = contains_at (x ∷ xs) 0 y (ap (λ z. Some z) (only_one x y c))

-- each machine on which something of a side has to pass is one of the build
side_machine : (s : BuildSettingModel) (n : Side) (kind : DependencyKind) (m : MachineModel) → Contains (machines_of s n kind) m
    → Contains (s.host ∷ machines s.host s.targets) m
side_machine s sides.Host kind m c = first_too s.host _ m c
side_machine s sides.Targets written.Build m c = first_too s.host _ m c
side_machine s sides.Targets written.Normal m c = behind s.host _ m c
side_machine s sides.Targets written.Development m c = behind s.host _ m c

-- what is compiled is placed on the host, or for the targets on a machine that the build is for
abbrev IsPlaced : BuildSettingModel → Platform → Side → Type 0
IsPlaced s host n = ⊤
IsPlaced s (machine m) n = Contains (machines s.host s.targets) m × (n ≡ sides.Targets)

platform_machine : (s : BuildSettingModel) (k : Platform) (n : Side) → IsPlaced s k n → (m : MachineModel) → Contains (machine_of s k) m
    → Contains (s.host ∷ machines s.host s.targets) m
platform_machine s host n is m c = first_too s.host _ m c
platform_machine s (machine one) n is m c =
    behind s.host _ m (subst (λ x. Contains (machines s.host s.targets) x) (only_one one m c) is.0)

goes_there : (s : BuildSettingModel) (l : TargetModel) (needed at : Placement) → IsPlaced s needed.platform needed.side → GoesTo l needed at
    → IsPlaced s at.platform at.side
goes_there s l needed _ is (sides_of.to_host is_macro) = tt
goes_there s l needed _ is (sides_of.along no_macro) = is

with_targets : (s : BuildSettingModel) (k : Platform) (n : Side) → IsPlaced s k n → IsPlaced s k sides.Targets
with_targets s host n is = tt
with_targets s (machine m) n is = (is.0, refl)

-- ---- what is meant

-- what has the features of the side is meant
abbrev IncludesSide : Extent → Side → Type 0
IncludesSide beside.everything n = ⊤
IncludesSide beside.for_targets sides.Targets = ⊤
IncludesSide beside.for_targets sides.Host = ⊥

targets_meant : (x : Extent) → IncludesSide x sides.Targets
targets_meant beside.everything = tt
targets_meant beside.for_targets = tt

-- where what is for the host is meant, everything is
any_side : (x : Extent) → IncludesSide x sides.Host → (n : Side) → IncludesSide x n
any_side beside.everything meant n = tt
any_side beside.for_targets meant n = absurd meant

any_edge : (r : Resolved) (x : Extent) (e : Edge) → IncludesSide x sides.Host → IncludesEdge r x e
any_edge r beside.everything e meant = tt
any_edge r beside.for_targets e meant = absurd meant

placed_meant : (s : BuildSettingModel) (x : Extent) (k : Platform) (n : Side) → IncludesPlatform x k → IsPlaced s k n → IncludesSide x n
placed_meant s beside.everything k n meant is = tt
placed_meant s beside.for_targets host n meant is = absurd meant
placed_meant s beside.for_targets (machine m) n meant is = subst (IncludesSide beside.for_targets) (sym is.1) tt

goes_from : (x : Extent) (l : TargetModel) (needed at : Placement) → GoesTo l needed at → IncludesSide x at.side → IncludesSide x needed.side
goes_from beside.everything l needed _ goes meant = tt
goes_from beside.for_targets l needed _ (sides_of.to_host is_macro) meant = absurd meant
goes_from beside.for_targets l needed _ (sides_of.along no_macro) meant = meant

not_both : (v : Resolver) → IsFirst v → IsLater v → ⊥
not_both V1 first later = later
not_both V2 first later = first
not_both V3 first later = first

-- an edge that leads to a side that is meant leads from one, and what it leads to is meant
leads_from : (r : Resolved) (s : BuildSettingModel) (x : Extent) (n : Side) (e : Edge) (m : Side) → SuitsResolver x s.resolver → Leads r s n e m
    → IncludesSide x m → IncludesSide x n × IncludesEdge r x e
leads_from r s beside.everything n e m suits leads meant = (tt, tt)
leads_from r s beside.for_targets n e _ suits (sides_of.as_one first) meant = absurd (not_both s.resolver first suits)
leads_from r s beside.for_targets n e _ suits (sides_of.to_host later why) meant = absurd meant
leads_from r s beside.for_targets n e _ suits (sides_of.to_targets later from kind none) meant =
    (subst (IncludesSide beside.for_targets) (sym from) tt, record { kind = kind; child = none })

-- the edge from a unit to a library that is meant is meant, since a crate with a procedural macro has no other library
library_edge : (r : Resolved) (x : Extent) (e : Edge) (l : TargetModel) (needed at : Placement) → e.kind ≢ written.Build
    → (IsMacroCrate r e.child → IsMacro l) → GoesTo l needed at → IncludesSide x at.side → IncludesEdge r x e
library_edge r beside.everything e l needed at kind only goes meant = tt
library_edge r beside.for_targets e l needed _ kind only (sides_of.to_host is_macro) meant = absurd meant
library_edge r beside.for_targets e l needed _ kind only (sides_of.along no_macro) meant =
    record { kind = kind; child = λ is. no_macro (only is) }

features_from : (s : BuildSettingModel) (x : Extent) (n m : Side) → HasFeaturesOf s n m → IncludesSide x n → IncludesSide x m
features_from s x n _ (sides_of.as_one first) meant = targets_meant x
features_from s x n _ (sides_of.own later) meant = meant

-- ---- kinds of dependencies and targets

kind_for_tests : (l : TargetModel) (mode : Mode) (kind : DependencyKind) → HasKind l mode kind → kind ≡ written.Development → UsesDev l mode
kind_for_tests l mode _ sides_of.always is = absurd cc
kind_for_tests l mode _ (sides_of.for_tests uses) is = uses

kind_no_build : (l : TargetModel) (mode : Mode) (kind : DependencyKind) → HasKind l mode kind → kind ≢ written.Build
kind_no_build l mode _ sides_of.always is = cc
kind_no_build l mode _ (sides_of.for_tests uses) is = cc

linkable_kind : (kind : TargetKind) → is_linkable_kind kind ≡ true → is_library_kind kind ≡ true
linkable_kind kinds.Bench h = absurd cc
linkable_kind kinds.Bin h = absurd cc
linkable_kind kinds.CustomBuild h = absurd cc
linkable_kind kinds.CDyLib h = absurd cc
linkable_kind kinds.DyLib h = refl
linkable_kind kinds.Example h = absurd cc
linkable_kind kinds.Lib h = refl
linkable_kind kinds.ProcMacro h = refl
linkable_kind kinds.RLib h = refl
linkable_kind kinds.StaticLib h = absurd cc
linkable_kind kinds.Test h = absurd cc

linkable_library : (l : TargetModel) → IsLinkable l → IsLibrary l
linkable_library l (k, kind, lt, at, is) = (k, kind, lt, at, linkable_kind kind is)

-- a target that is asked for as itself is a library, a program or an example
asked_kind : (flags : TargetFlags) (l : TargetModel) (mode : Mode) → AsksFor flags l mode
    → (IsLibrary l ⊎ Contains l.kind kinds.Bin) ⊎ (asks_dev flags ≡ true)
asked_kind flags l _ (targets.by_default none is) = inl is
asked_kind flags l _ (targets.as_library some is) = inl (inl is)
asked_kind flags l _ (targets.as_program some is) = inl (inr is)
asked_kind flags l _ (targets.as_example some is) = inr (dev_from_examples flags some)
asked_kind flags l _ (targets.as_test some is) = inr (dev_from_tests flags some)
asked_kind flags l _ (targets.as_benchmark some is) = inr (dev_from_benches flags some)

asked_tests : (flags : TargetFlags) (l : TargetModel) (mode : Mode) → AsksFor flags l mode → mode ≡ modes.Test → asks_dev flags ≡ true
asked_tests flags l _ (targets.by_default none is) test = absurd cc
asked_tests flags l _ (targets.as_library some is) test = absurd cc
asked_tests flags l _ (targets.as_program some is) test = absurd cc
asked_tests flags l _ (targets.as_example some is) test = absurd cc
asked_tests flags l _ (targets.as_test some is) test = dev_from_tests flags some
asked_tests flags l _ (targets.as_benchmark some is) test = dev_from_benches flags some

-- ---- what follows from what is built

module _ (r : Resolved) (s : BuildSettingModel) (t : SettingModel) (x : Extent) (a : AllowsBuild r s t x) where
  abbrev Holds : SevenFact → Type 0
  Holds f = Derivable (questions r t) f

  abbrev IsEnabled : Id → Text → Type 0
  IsEnabled i f = ListsFeature r i f × Holds (Feature i f)

  -- an enabled feature of the crate has a reference that requires its dependencies of this name
  abbrev IsDemanded : Id → Text → Type 0
  IsDemanded i c = (f : Text) × (v : Reference) × HasReference r i f v × Demands v c × IsEnabled i f

  -- an enabled feature of the crate has the reference
  abbrev IsFrom : Id → Reference → Type 0
  IsFrom i v = (f : Text) × HasReference r i f v × IsEnabled i f

  -- the name of an optional dependency that is demanded: the feature of that name has nothing else
  record IsImplied (i : Id) (f : Text) : Type 0 where
    demanded : IsDemanded i f
    optional : KnowsOptional r i f
    alone : (v : Reference) → HasReference r i f v → v ≡ krate f

  -- cargo activates the feature: it is enabled, or is but the name of a dependency
  abbrev IsActive : Id → Text → Type 0
  IsActive i f = IsEnabled i f ⊎ IsImplied i f

  -- the reference counts at the crate
  abbrev CountsAt : Id → Reference → Type 0
  CountsAt i (simple g) = IsActive i g
  CountsAt i (krate c) = IsDemanded i c
  CountsAt i (strong c g) = IsFrom i (strong c g)
  CountsAt i (weak c g) = IsFrom i (weak c g)

  -- the edge is kept, and the seven rules know its dependency
  record IsKeptUse (e : Edge) (d : DependencyModel) : Type 0 where
    allowed : AllowsEdge r t e d
    kept : Holds (Kept e)

  record IsKeptUnit (u : CompiledUnit) : Type 0 where
    placed : IsPlaced s u.placement.platform u.placement.side
    dev : UsesDev u.target u.mode → MayUseDev r s u.krate
    kept : IncludesSide x u.placement.side → Holds (Crate u.krate)

  record IsKeptNeed (e : Edge) (u : CompiledUnit) : Type 0 where
    child : e.child ≡ u.krate
    placed : IsPlaced s u.placement.platform u.placement.side
    no_dev : UsesDev u.target u.mode → ⊥
    kept : IncludesSide x u.placement.side → Holds (Kept e)

  -- what a derivable fact means for the seven rules, where it is of what is meant
  abbrev Claim : Fact → Type 0
  Claim (means.Met i w) = ⊤
  Claim (means.LinkedReference i w v) = ⊤
  Claim (means.LinkedFeature i w f) = ⊤
  Claim (means.LinkedName i w c) = ⊤
  Claim (means.Linked e d) = Resolves r e d
  Claim (means.Lost i d) = ⊤
  Claim (means.Activated i n) = IncludesSide x n → Holds (Crate i)
  Claim (means.ActivatedReference i n v) = IncludesSide x n → CountsAt i v
  Claim (means.ActivatedFeature i n f) = IncludesSide x n → IsActive i f
  Claim (means.ActivatedName i n c) = IncludesSide x n → IsDemanded i c
  Claim (means.Used e d n) = IncludesSide x n → IncludesEdge r x e → IsKeptUse e d
  Claim (means.Available i f) = ⊤
  Claim (means.Compiled u) = IsKeptUnit u
  Claim (means.Needed e d k u) = IsKeptNeed e u
  Claim (means.ScriptRun i at) = IncludesSide x at.side → Holds (Crate i)
  Claim (means.ScriptCompiled i n) = IncludesSide x n → Holds (Crate i)
  Claim (means.RunNeeded e d from run) = IsPlaced s run.platform run.side × (IncludesSide x run.side → Holds (Kept e))

  -- ---- roots

  requested_root : (i : Id) (v : Reference) → IsRequested r s i v → IsBuildRoot r s i
  requested_root i _ (requests.default kind root asks has) = (kind, root)
  requested_root i _ (requests.each kind root known all has) = (kind, root)
  requested_root i v (requests.taken kind root given takes) = (kind, root)

  begun_kept : (i : Id) → IsBuildRoot r s i ⊎ IsSelected r s i → Holds (Crate i)
  begun_kept i begun = let y = a.roots i begun in seven.root_kept r t a.none_doubled a.loses_nothing i y.0 y.1

  reference_active : (i : Id) (v : Reference) → IsRequested r s i v → CountsAt i v
  reference_active i v is =
      let y = a.roots i (inl (requested_root i v is)) in
      let listed = a.requested i v is in
      subst (CountsAt i) (sym listed.1) (inl (seven.root_enabled r t a.none_doubled a.loses_nothing i listed.0 y.0 y.1 listed.2))

  -- ---- targets

  -- a library or a program has no dev dependencies, as itself
  no_dev_alone : (i : Id) (l : TargetModel) → HasTarget r i l → IsLibrary l ⊎ Contains l.kind kinds.Bin → UsesDev l modes.Build → ⊥
  no_dev_alone i l has is (targets.with_tests test) = cc
  no_dev_alone i l has is (targets.test kind) = (a.targets i l has).no_test is (inl kind)
  no_dev_alone i l has is (targets.example kind) = (a.targets i l has).no_test is (inr kind)

  no_dev_library : (i : Id) (l : TargetModel) → HasTarget r i l → IsLibrary l → UsesDev l modes.Build → ⊥
  no_dev_library i l has is uses = no_dev_alone i l has (inl is) uses

  -- flags that ask for a target with dev dependencies ask for a kind that has some
  asked_dev : (u : CompiledUnit) → IsAsked r s u → UsesDev u.target u.mode → asks_dev s.kinds ≡ true
  asked_dev u is (targets.with_tests test) = asked_tests s.kinds u.target u.mode is.asked test
  asked_dev u is (targets.test kind) = elim (asked_kind s.kinds u.target u.mode is.asked) [
    | inl alone ↦ absurd ((a.targets u.krate u.target is.has).no_test alone (inl kind))
    | inr asks ↦ asks
  ]
  asked_dev u is (targets.example kind) = elim (asked_kind s.kinds u.target u.mode is.asked) [
    | inl alone ↦ absurd ((a.targets u.krate u.target is.has).no_test alone (inr kind))
    | inr asks ↦ asks
  ]

  unit_asked : (u : CompiledUnit) → IsAsked r s u → IsKeptUnit u
  unit_asked u is = record {
    placed = goes_there s u.target (rules.machine_placement is.target) u.placement (is.among, refl) is.goes;
    dev = λ uses. record { first = inr is.selected; counts = inr (asked_dev u is uses) };
    kept = λ meant. begun_kept u.krate (inr is.selected);
  }

  -- ---- features

  listed_reference : (i : Id) (f : Text) (v : Reference) → HasReference r i f v → IsEnabled i f → CountsAt i v
  listed_reference i f (simple g) refers is = inl (seven.named_enabled r t a.none_doubled a.loses_nothing i f g is refers)
  listed_reference i f (krate c) refers is = (f, krate c, refers, refl, is)
  listed_reference i f (strong c g) refers is = (f, refers, is)
  listed_reference i f (weak c g) refers is = (f, refers, is)

  active_reference : (i : Id) (f : Text) (v : Reference) → HasReference r i f v → IsActive i f → CountsAt i v
  active_reference i f v refers (inl is) = listed_reference i f v refers is
  active_reference i f v refers (inr is) = subst (CountsAt i) (sym (is.alone v refers)) is.demanded

  strongly_demanded : (i : Id) (c g : Text) → IsFrom i (strong c g) → IsDemanded i c
  strongly_demanded i c g is = (is.0, strong c g, is.1, refl, is.2)

  beside_active : (i : Id) (f c g : Text) → HasReference r i f (strong c g) → IsEnabled i f → KnowsOptional r i c → IsNamedBeside r i f c
      → IsActive i c
  beside_active i f c g refers is optional (beside.itself same) = subst (IsActive i) same (inl is)
  beside_active i f c g refers is optional (beside.listed named) =
      inl (seven.named_enabled r t a.none_doubled a.loses_nothing i f c is named)
  beside_active i f c g refers is optional (beside.alone alone) =
      inr (record { demanded = (f, strong c g, refers, refl, is); optional = optional; alone = alone })

  implied_active : (i : Id) (c g : Text) → KnowsOptional r i c → IsFrom i (strong c g) → IsActive i c
  implied_active i c g optional is = beside_active i is.0 c g is.1 is.2 optional (a.implied i is.0 c g is.1 optional)

  given_active : (e : Edge) (d : DependencyModel) (g : Text) → IsKeptUse e d → GivesFeature r d e.child g → IsActive e.child g
  given_active e d _ taken (requests.declared {feature} gives) =
      inl (seven.given_enabled r t a.none_doubled a.loses_nothing e d feature taken.allowed gives taken.kept)
  given_active e d _ taken (requests.by_default uses has) =
      inl (seven.default_enabled r t a.none_doubled a.loses_nothing e d taken.allowed uses has taken.kept)

  toggled_active : (e : Edge) (d : DependencyModel) (v : Reference) (g : Text) → NamesFeatureOf v (declared_name d) g → CountsAt e.parent v
      → IsKeptUse e d → IsActive e.child g
  toggled_active e d (simple f) g names from taken = absurd names
  toggled_active e d (krate c) g names from taken = absurd names
  toggled_active e d (strong c f) g names from taken =
      let refers = subst (λ (y : Text). HasReference r e.parent from.0 (strong y f)) (sym names.0) from.1 in
      subst (IsActive e.child) (sym names.1)
      (inl (seven.strongly_enabled r t a.none_doubled a.loses_nothing e d from.0 f taken.allowed refers from.2.1 taken.kept))
  toggled_active e d (weak c f) g names from taken =
      let refers = subst (λ (y : Text). HasReference r e.parent from.0 (weak y f)) (sym names.0) from.1 in
      subst (IsActive e.child) (sym names.1)
      (inl (seven.weakly_enabled r t a.none_doubled a.loses_nothing e d from.0 f taken.allowed refers from.2.1 taken.kept))

  -- ---- edges

  -- what an edge says that counts for the features of a side, or for a unit
  counting : (n : Side) (e : Edge) → Counts r s n e → IncludesEdge r x e → MayCount r s x e
  counting n e y meant = record {
    meant = meant;
    passes = elim (resolver_cases s.resolver) [
      | inl first ↦ inl first
      | inr later ↦ inr (passes_wider (machines_of s n e.kind) (s.host ∷ machines s.host s.targets) (side_machine s n e.kind) e.cfg
          (y.passes later))
    ];
    dev = λ dev. record { first = inl (y.of_root dev).0; counts = (y.of_root dev).1 };
  }

  passing : (k : Platform) (n : Side) (e : Edge) → IsPlaced s k n → PassesOn (machine_of s k) e.cfg
      → IsFirst s.resolver ⊎ PassesOn (s.host ∷ machines s.host s.targets) e.cfg
  passing k n e is passes = inr (passes_wider (machine_of s k) (s.host ∷ machines s.host s.targets) (platform_machine s k n is) e.cfg passes)

  demanded_kept : (e : Edge) (d : DependencyModel) → AllowsEdge r t e d → IsDemanded e.parent (declared_name d) → Holds (Kept e)
  demanded_kept e d allowed y = seven.asked_kept r t a.none_doubled a.loses_nothing e d y.0 y.1 allowed y.2 y.3 y.4.1

  used_kept : (e : Edge) (d : DependencyModel) (n : Side) → Resolves r e d → Counts r s n e → IncludesEdge r x e → d.optional ≡ false
      → Holds (Crate e.parent) → IsKeptUse e d
  used_kept e d n is counts meant required parent =
      let allowed = a.edges e d is (counting n e counts meant) in
      record { allowed = allowed; kept = seven.required_kept r t a.none_doubled a.loses_nothing e d allowed required parent }

  named_kept : (e : Edge) (d : DependencyModel) (n : Side) → Resolves r e d → Counts r s n e → IncludesEdge r x e
      → IsDemanded e.parent (declared_name d) → IsKeptUse e d
  named_kept e d n is counts meant demanded =
      let allowed = a.edges e d is (counting n e counts meant) in
      record { allowed = allowed; kept = demanded_kept e d allowed demanded }

  -- the fact that an optional dependency needs beside others is one of them
  name_needed : (d : DependencyModel) (y : Fact) → d.optional ≡ true → IsPremise y (if_optional d y)
  name_needed d y is = subst (λ b. IsPremise y (cond b (y ∷ []) [])) (sym is) (inl refl)

  -- the edge of a dependency that is needed is kept, optional or not
  needed_kept : (e : Edge) (d : DependencyModel) (y : Fact) → Resolves r e d → MayCount r s x e → Holds (Crate e.parent)
      → ((g : Fact) → IsPremise g (if_optional d y) → Claim g) → (Claim y → IsDemanded e.parent (declared_name d)) → Holds (Kept e)
  needed_kept e d y is may parent have demanded =
      let allowed = a.edges e d is may in
      elim (cases_Bool d.optional) [
        | inl optional ↦ demanded_kept e d allowed (demanded (have y (name_needed d y optional)))
        | inr required ↦ seven.required_kept r t a.none_doubled a.loses_nothing e d allowed required parent
      ]

  -- a unit that needs a library keeps the edge
  unit_kept : (u : CompiledUnit) (e : Edge) (d : DependencyModel) (l : TargetModel) (n : Side) (at : Placement) → e.parent ≡ u.krate
      → HasKind u.target u.mode e.kind → PassesOn (machine_of s u.placement.platform) e.cfg → HasTarget r e.child l → IsLibrary l
      → HasFeaturesOf s u.placement.side n → GoesTo l u.placement at → IsKeptUnit u → Resolves r e d
      → ((g : Fact) → IsPremise g (if_optional d (means.ActivatedName e.parent n (declared_name d))) → Claim g)
      → IncludesSide x at.side → Holds (Kept e)
  unit_kept u e d l n at parent kind passes has library of goes unit is have meant =
      let side = goes_from x l u.placement at goes meant in
      let may : MayCount r s x e = record {
        meant = library_edge r x e l u.placement at (kind_no_build u.target u.mode e.kind kind)
            ((a.targets e.child l has).only_macro library) goes meant;
        passes = passing u.placement.platform u.placement.side e unit.placed passes;
        dev = λ dev. subst (MayUseDev r s) (sym parent) (unit.dev (kind_for_tests u.target u.mode e.kind kind dev));
      } in
      needed_kept e d (means.ActivatedName e.parent n (declared_name d)) is may
      (subst (λ i. Holds (Crate i)) (sym parent) (unit.kept side)) have (λ named. named (features_from s x u.placement.side n of side))

  -- so does a build script that is meant
  script_kept : (e : Edge) (d : DependencyModel) (m n : Side) → e.kind ≡ written.Build → PassesOn (machine_of s host) e.cfg
      → (IncludesSide x m → Holds (Crate e.parent)) → Resolves r e d
      → ((g : Fact) → IsPremise g (if_optional d (means.ActivatedName e.parent n (declared_name d))) → Claim g)
      → IncludesSide x sides.Host → Holds (Kept e)
  script_kept e d m n kind passes parent is have meant =
      let may : MayCount r s x e = record {
        meant = any_edge r x e meant;
        passes = passing host sides.Host e tt passes;
        dev = λ dev. absurd cc;
      } in
      needed_kept e d (means.ActivatedName e.parent n (declared_name d)) is may (parent (any_side x meant m)) have
      (λ named. named (any_side x meant n))

  -- ---- each rule

  rule_kept : {ps : List Fact} {f : Fact} → Rule r s ps f → ((g : Fact) → IsPremise g ps → Claim g) → Claim f
  rule_kept (rules.root_met h) have = tt
  rule_kept (rules.root_linked h) have = tt
  rule_kept (rules.linked_reference h) have = tt
  rule_kept rules.linked_feature have = tt
  rule_kept (rules.linked_name h) have = tt
  rule_kept (rules.linked_implied h k) have = tt
  rule_kept (rules.linked_toggled h k l) have = tt
  rule_kept (rules.linked h k) have = h
  rule_kept rules.linked_met have = tt
  rule_kept (rules.linked_given h) have = tt
  rule_kept (rules.lost h k) have = tt
  rule_kept (rules.root_activated {p} {n} h k) have = λ meant. begun_kept p (inl h)
  rule_kept (rules.root_reference {p} {n} {v} h k) have = λ meant. reference_active p v h
  rule_kept (rules.reference {p} {n} {f} {v} h) have =
      λ meant. active_reference p f v h (have (means.ActivatedFeature p n f) (inl refl) meant)
  rule_kept (rules.feature {p} {n} {g}) have = have (means.ActivatedReference p n (simple g)) (inl refl)
  rule_kept (rules.name {p} {n} {c}) have = have (means.ActivatedReference p n (krate c)) (inl refl)
  rule_kept (rules.name_strongly {e} {d} {n} {g} h k) have = λ meant.
      strongly_demanded e.parent (declared_name d) g
      (have (means.ActivatedReference e.parent n (strong (declared_name d) g)) (inl refl) meant)
  rule_kept (rules.implied {e} {d} {n} {g} h k l) have = λ meant.
      let is = have (means.Linked e d) (inr (inl refl)) in
      implied_active e.parent (declared_name d) g (d, is.declared, refl, k)
      (have (means.ActivatedReference e.parent n (strong (declared_name d) g)) (inl refl) meant)
  rule_kept (rules.used {e} {d} {n} h k) have = λ side meant.
      used_kept e d n (have (means.Linked e d) (inr (inl refl))) h meant k (have (means.Activated e.parent n) (inl refl) side)
  rule_kept (rules.used_by_name {e} {d} {n} h) have = λ side meant.
      named_kept e d n (have (means.Linked e d) (inr (inl refl))) h meant
      (have (means.ActivatedName e.parent n (declared_name d)) (inl refl) side)
  rule_kept (rules.used_activated {e} {d} {n} {m} h) have = λ side.
      let from = leads_from r s x n e m a.resolver h side in
      seven.child_kept r t a.none_doubled a.loses_nothing e (have (means.Used e d n) (inl refl) from.0 from.1).kept
  rule_kept (rules.used_given {e} {d} {n} {m} {g} h k) have = λ side.
      let from = leads_from r s x n e m a.resolver k side in
      given_active e d g (have (means.Used e d n) (inl refl) from.0 from.1) h
  rule_kept (rules.toggled {e} {d} {n} {m} {v} {g} h k) have = λ side.
      let from = leads_from r s x n e m a.resolver k side in
      toggled_active e d v g h (have (means.ActivatedReference e.parent n v) (inl refl) from.0)
      (have (means.Used e d n) (inr (inl refl)) from.0 from.1)
  rule_kept rules.available have = tt
  rule_kept (rules.available_below h) have = tt
  rule_kept (rules.asked_library {u} h k) have = unit_asked u h
  rule_kept (rules.asked {u} h k) have = unit_asked u h
  rule_kept (rules.library_below {u} {e} {d} {l} {n} {at} h k b f g) have =
      let unit = have (means.Compiled u) (inl refl) in
      record {
        child = refl;
        placed = goes_there s l u.placement at unit.placed g;
        no_dev = no_dev_library e.child l b.has b.library;
        kept = unit_kept u e d l n at h k b.passes b.has b.library f g unit (have (means.Linked e d) (inr (inl refl)))
            (λ y among. have y (inr (inr among)));
      }
  rule_kept (rules.needed_library {e} {d} {k} {u}) have =
      let y = have (means.Needed e d k u) (inl refl) in
      record {
        placed = y.placed;
        dev = λ uses. absurd (y.no_dev uses);
        kept = λ side. subst (λ i. Holds (Crate i)) y.child (seven.child_kept r t a.none_doubled a.loses_nothing e (y.kept side));
      }
  rule_kept (rules.own_library {u} {l} {at} h k b g) have =
      let unit = have (means.Compiled u) (inl refl) in
      record {
        placed = goes_there s l u.placement at unit.placed g;
        dev = λ uses. absurd (no_dev_library u.krate l k (linkable_library l b) uses);
        kept = λ side. unit.kept (goes_from x l u.placement at g side);
      }
  rule_kept (rules.own_program {u} {b} h k l) have =
      let unit = have (means.Compiled u) (inl refl) in
      record {
        placed = with_targets s u.placement.platform u.placement.side unit.placed;
        dev = λ uses. absurd (no_dev_alone u.krate b k (inr l) uses);
        kept = λ side. begun_kept u.krate (unit.dev (targets.with_tests h.with_tests)).first;
      }
  rule_kept (rules.script_run {u} h) have = (have (means.Compiled u) (inl refl)).kept
  rule_kept (rules.script_compiled {p} {at}) have = have (means.ScriptRun p at) (inl refl)
  rule_kept (rules.script_below {e} {d} {l} {m} {n} h b f) have =
      record {
        child = refl;
        placed = tt;
        no_dev = no_dev_library e.child l b.has b.library;
        kept = script_kept e d m n h b.passes (have (means.ScriptCompiled e.parent m) (inl refl)) (have (means.Linked e d) (inr (inl refl)))
            (λ y among. have y (inr (inr among)));
      }
  rule_kept (rules.run_below {u} {e} {d} {l} {n} {at} h k q b f g) have =
      let unit = have (means.Compiled u) (inl refl) in
      let kind = subst (HasKind u.target u.mode) (sym k) sides_of.always in (
        goes_there s l u.placement at unit.placed g,
        unit_kept u e d l n at h kind b.passes b.has (linkable_library l b.linkable) f g unit (have (means.Linked e d) (inr (inl refl)))
            (λ y among. have y (inr (inr among))),
      )

  claimed : {f : Fact} → IsDerivable r s f → Claim f
  claimed (follows rule below) = rule_kept rule (λ g m. claimed (below g m))

  -- ---- the law

  crate_kept : (i : Id) (k : Platform) (n : Side) → IncludesPlatform x k → IsCompiled r s i k n → Holds (Crate i)
  crate_kept i _ _ meant (as_unit u of d) =
      let unit = claimed d in
      subst (λ y. Holds (Crate y)) of (unit.kept (placed_meant s x u.placement.platform u.placement.side meant unit.placed))
  crate_kept i _ _ meant (as_script {n} d) = claimed d (placed_meant s x host n meant tt)

  side_meant : (i : Id) (k : Platform) (n : Side) → IncludesPlatform x k → IsCompiled r s i k n → IncludesSide x n
  side_meant i _ _ meant (as_unit u of d) = placed_meant s x u.placement.platform u.placement.side meant (claimed d).placed
  side_meant i _ _ meant (as_script {n} d) = placed_meant s x host n meant tt

  feature_kept : (i : Id) (f : Text) → IsActive i f → ¬ KnowsOptional r i f → Holds (Feature i f)
  feature_kept i f (inl is) no_name = is.1
  feature_kept i f (inr is) no_name = absurd (no_name is.optional)

  need_kept : (e : Edge) (d : DependencyModel) (k l : Platform) (u : CompiledUnit) → IncludesPlatform x l → u.placement.platform ≡ l
      → IsDerivable r s (means.Needed e d k u) → Holds (Kept e)
  need_kept e d k l u meant at is =
      let y = claimed is in
      y.kept (placed_meant s x u.placement.platform u.placement.side (subst (IncludesPlatform x) (sym at) meant) y.placed)

  pub keeps_build : KeepsBuild r s t x
  keeps_build = record {
    crates = λ i k meant y. crate_kept i k y.0 meant y.1;
    edges = λ e k l meant y. need_kept e y.0 k l y.1 meant y.3 y.2;
    runs = λ e d from run meant is. let y = claimed is in y.1 (placed_meant s x run.platform run.side meant y.0);
    features = λ i k f meant y no_name.
        let side = features_from s x y.0 y.1 y.3 (side_meant i k y.0 meant y.2) in
        feature_kept i f (claimed y.4 side) no_name;
  }

pub keeps_each_build : KeepsEachBuild
keeps_each_build r s t x a = keeps_build r s t x a
