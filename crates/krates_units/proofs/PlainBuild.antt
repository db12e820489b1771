-- In a plain build cargo builds what the seven rules keep.
use Rattle.std.proofs.Common.{◌≡◌, ◌∙◌, ◌⊎◌, inl, inr, ℕ, List, [], ◌∷◌, map, slice_get, cond, true, false, Contains, refl, sym, ap, subst}
use Rattle.std.specs.Prelude.{⊤}
use Rattle.std.specs.List.{list_any}
use Rattle.std.proofs.lemmas.Bool.{both_ways, cases_Bool, cases_order}
use Rattle.std.proofs.lemmas.List.Folds.{Any-from_list_any, list_any-from_Any}
use Rattle.std.proofs.lemmas.Option.{same_Some}
use Rattle.krates_cm.specs.Document.{Text, TargetModel, DependencyModel, NodeDepModel}
use Rattle.krates_cm.specs.declared.dependency.DependencyKind.{DependencyKind}
use Rattle.krates_cm.specs.declared.dependency.DependencyKind.TheVariants as written
use Rattle.krates_text.specs.FeatureReference.{Reference, krate, weak, strong, simple}
use Rattle.krates_rules.specs.Admission.{NoneDoubled}
use Rattle.krates_rules.specs.DeclaredDependency.{FirstAt, IsDeclared, IsMeant, declared_name, dependency_entry}
use Rattle.krates_rules.specs.Demands.{Demands}
use Rattle.krates_rules.specs.Derivation.{Among, Derivable}
use Rattle.krates_rules.specs.Facts.{Id, Edge, Fact as KeptFact}
use Rattle.krates_rules.specs.Facts as facts
use Rattle.krates_rules.specs.Features.{HasReference}
use Rattle.krates_rules.specs.Questions.{IsDeclaredAs, IsWanted, Stands, kind_info_of, questions}
use Rattle.krates_rules.specs.Referent.{IsReferent}
use Rattle.krates_rules.specs.Resolved.{Resolved}
use Rattle.krates_rules.specs.Roots.{IsRoot}
use Rattle.krates_rules.specs.Rules as seven
use Rattle.krates_rules.specs.Setting.{SettingModel}
use Rattle.krates_rules.proofs.DerivationLaws.{closed_under}
use Rattle.krates_rules.proofs.OnlyOne.{one_package, one_dep}
use Rattle.krates_units.specs.BuildFacts.{Fact, CompiledUnit, Placement, machine}
use Rattle.krates_units.specs.BuildFacts as means
use Rattle.krates_units.specs.BuildRules.{IsAsked, if_optional}
use Rattle.krates_units.specs.BuildRules as rules
use Rattle.krates_units.specs.BuildSetting.{BuildSettingModel, machines}
use Rattle.krates_units.specs.BuildTargets.{HasTarget, IsLibrary, is_library_kind}
use Rattle.krates_units.specs.Built.{IsDerivable, IsPremise, follows, as_unit}
use Rattle.krates_units.specs.FeaturesNamed.{NamesDependency, NamesFeatureOf}
use Rattle.krates_units.specs.KeptBuild as asks
use Rattle.krates_units.specs.KeptBuild.{Extent, IncludesPlatform, IsAskedOf, IsPlainEdge, IsPlainLibrary, IsPlainBuild, BuildsKept, BuildsEachKept}
use Rattle.krates_units.specs.Machines.{MachineModel, PassesOn}
use Rattle.krates_units.specs.Requests.{GivesFeature, IsRequested}
use Rattle.krates_units.specs.Requests as requests
use Rattle.krates_units.specs.Sides as sides_of
use Rattle.krates_units.specs.Sides.{Counts, GoesTo, HasFeaturesOf, HasKind, Leads, TakesKind, machines_of}
use Rattle.krates_units.specs.declared.kinds.Mode.{Mode}
use Rattle.krates_units.specs.declared.kinds.Mode.TheVariants as modes
use Rattle.krates_units.specs.declared.sides.Meeting.{Meeting}
use Rattle.krates_units.specs.declared.sides.Meeting.TheVariants as meetings
use Rattle.krates_units.specs.declared.sides.Side.TheVariants as sides
use Rattle.krates_units.proofs.BuildNarrowed.{passes_wider}
use Rattle.krates_units.proofs.KeptBuild.{keeps_build, only_one, resolver_cases}

-- ---- lists

library_or_not : (l : TargetModel) → IsLibrary l ⊎ (IsLibrary l → ⊥)
library_or_not l = elim (cases_Bool (list_any is_library_kind l.kind)) [
  | inl there ↦ inl (Any-from_list_any is_library_kind l.kind there)
  | inr missing ↦ inr (λ some. both_ways (list_any is_library_kind l.kind) missing (list_any-from_Any is_library_kind l.kind some))
]

one_first : {A : Type 0} (P : A → Type 0) (xs : List A) (j k : ℕ) (x y : A) → FirstAt P xs j x → FirstAt P xs k y → x ≡ y
one_first P xs j k x y a b = elim (cases_order j k) [
  | inl e ↦ same_Some x y (sym a.here ∙ ap (λ n. slice_get xs n) e ∙ b.here)
  | inr r ↦ elim r [ inl lt ↦ absurd (b.before j x lt a.here a.holds) | inr lt ↦ absurd (a.before k y lt b.here b.holds) ]
]

-- an edge is declared as one dependency
one_declared : (r : Resolved) (e : Edge) (d c : DependencyModel) → NoneDoubled r.metadata r.graph → IsDeclaredAs r e d → IsDeclaredAs r e c → d ≡ c
one_declared r e d c none (j, x) (k, y) =
    let pkg = one_package r e.parent x.pkg y.pkg none x.has_package y.has_package in
    let dep = one_dep r e.parent e.child x.lists.node y.lists.node x.dep y.dep none x.lists.has_node y.lists.has_node
    x.lists.has_dep y.lists.has_dep in
    let here = subst (λ (ds : List DependencyModel). IsDeclared ds (dependency_entry e.child x.dep) (kind_info_of e) j d)
    (ap (λ p. p.dependencies) pkg) x.declared in
    let there = subst (λ (z : NodeDepModel). IsDeclared y.pkg.dependencies (dependency_entry e.child z) (kind_info_of e) j d) dep here in
    one_first (IsMeant y.pkg.dependencies (dependency_entry e.child y.dep) (kind_info_of e)) y.pkg.dependencies j k d c there y.declared

-- ---- premises

one_premise : (P : Fact → Type 0) (x : Fact) → P x → (g : Fact) → IsPremise g (x ∷ []) → P g
one_premise P x d g (inl e) = subst P (sym e) d
one_premise P x d g (inr none) = absurd none

more_premises : (P : Fact → Type 0) (x : Fact) (xs : List Fact) → P x → ((g : Fact) → IsPremise g xs → P g) → (g : Fact) → IsPremise g (x ∷ xs) → P g
more_premises P x xs d rest g (inl e) = subst P (sym e) d
more_premises P x xs d rest g (inr is) = rest g is

optional_premise : (P : Fact → Type 0) (d : DependencyModel) (x : Fact) → (d.optional ≡ true → P x) → (g : Fact) → IsPremise g (if_optional d x) → P g
optional_premise P d x have g is = elim (cases_Bool d.optional) [
  | inl optional ↦ one_premise P x (have optional) g (subst (λ b. IsPremise g (cond b (x ∷ []) [])) optional is)
  | inr required ↦ absurd (subst (λ b. IsPremise g (cond b (x ∷ []) [])) required is)
]

-- ---- kinds and names

machine_meant : (x : Extent) (m : MachineModel) → IncludesPlatform x (machine m)
machine_meant asks.everything m = tt
machine_meant asks.for_targets m = tt

takes_normal : (w : Meeting) (kind : DependencyKind) → kind ≡ written.Normal → TakesKind w kind
takes_normal meetings.Root kind normal = tt
takes_normal meetings.Dependency kind normal = λ dev. absurd cc

demands_name : (v : Reference) (c : Text) → Demands v c → NamesDependency v c
demands_name (simple f) c h = absurd h
demands_name (krate d) c h = h
demands_name (strong d f) c h = h
demands_name (weak d f) c h = absurd h

module _ (r : Resolved) (s : BuildSettingModel) (t : SettingModel) (m : MachineModel) (plain : IsPlainBuild r s t m) where
  abbrev Holds : Fact → Type 0
  Holds f = IsDerivable r s f

  abbrev here : Placement
  here = rules.machine_placement m

  -- ---- what is plain about it

  own_features : HasFeaturesOf s sides.Targets sides.Targets
  own_features = elim (resolver_cases s.resolver) [
    | inl first ↦ sides_of.as_one first
    | inr later ↦ sides_of.own later
  ]

  leads_here : (e : Edge) (d : DependencyModel) → IsPlainEdge r m e d → Leads r s sides.Targets e sides.Targets
  leads_here e d x = elim (resolver_cases s.resolver) [
    | inl first ↦ sides_of.as_one first
    | inr later ↦ sides_of.to_targets later refl (λ build. let normal = x.normal in absurd cc)
        (λ is. x.library.2.1 ((plain.allows.targets e.child x.library.0 x.library.1).only_macro x.library.2.0 is))
  ]

  counts_here : (e : Edge) (d : DependencyModel) → IsPlainEdge r m e d → Counts r s sides.Targets e
  counts_here e d x = record {
    of_root = λ dev. let normal = x.normal in absurd cc;
    passes = λ later. subst (λ kind. PassesOn (machines_of s sides.Targets kind) e.cfg) (sym x.normal)
        (passes_wider (m ∷ []) (machines s.host s.targets)
        (λ n c. subst (λ k. Contains (machines s.host s.targets) k) (only_one m n c) plain.among) e.cfg x.passes);
  }

  -- ---- what the facts of the seven rules mean for cargo

  -- the crate takes part, and a target of it is compiled for the machine
  record IsPart (i : Id) : Type 0 where
    meeting : Meeting
    met : Holds (means.Met i meeting)
    active : Holds (means.Activated i sides.Targets)
    target : TargetModel
    mode : Mode
    compiled : Holds (means.Compiled (rules.unit i target mode here))

  -- the crate takes part, and its feature is enabled
  record IsTurnedOn (i : Id) (f : Text) : Type 0 where
    meeting : Meeting
    met : Holds (means.Met i meeting)
    linked : Holds (means.LinkedFeature i meeting f)
    active : Holds (means.ActivatedFeature i sides.Targets f)
    part : IsPart i

  -- the dependency counts, and a library of the child is needed by it
  record IsUsed (e : Edge) : Type 0 where
    dep : DependencyModel
    declared : IsDeclaredAs r e dep
    is_plain : IsPlainEdge r m e dep
    linked : Holds (means.Linked e dep)
    used : Holds (means.Used e dep sides.Targets)
    library : TargetModel
    needed : Holds (means.Needed e dep (machine m) (rules.unit e.child library modes.Build here))

  abbrev Claim : KeptFact → Type 0
  Claim (facts.Crate i) = IsPart i
  Claim (facts.Feature i f) = IsTurnedOn i f
  Claim (facts.Kept e) = IsUsed e
  Claim (facts.Toggled b c g) = IsTurnedOn c g
  Claim (facts.Lost x) = ⊤

  -- ---- roots

  root_part : (i : Id) → IsRoot r t i → Stands r t i → IsPart i
  root_part i root stands =
      let x = plain.roots i root stands in
      let asked : IsAsked r s (rules.unit i x.target x.mode here) = record {
        selected = x.selected;
        has = x.has;
        no_script = x.no_script;
        asked = x.asked;
        target = m;
        among = plain.among;
        goes = sides_of.along x.no_macro;
      } in
      record {
        meeting = meetings.Root;
        met = follows (rules.root_met x.root) (λ g is. absurd is);
        active = follows (rules.root_activated x.root sides_of.on_targets) (λ g is. absurd is);
        target = x.target;
        mode = x.mode;
        compiled = elim (library_or_not x.target) [
          | inl library ↦ follows (rules.asked_library asked library) (λ g is. absurd is)
          | inr other ↦ follows (rules.asked asked other) (λ g is.
              absurd (subst (λ fs. IsPremise g (map (means.Available i) fs)) x.none_required is))
        ];
      }

  -- ---- references

  linked_from : (i : Id) (f : Text) (v : Reference) → (x : IsTurnedOn i f) → HasReference r i f v → Holds (means.LinkedReference i x.meeting v)
  linked_from i f v x refers =
      follows (rules.linked_reference {f = f} refers) (one_premise Holds (means.LinkedFeature i x.meeting f) x.linked)

  active_from : (i : Id) (f : Text) (v : Reference) → IsTurnedOn i f → HasReference r i f v → Holds (means.ActivatedReference i sides.Targets v)
  active_from i f v x refers =
      follows (rules.reference {f = f} refers) (one_premise Holds (means.ActivatedFeature i sides.Targets f) x.active)

  named_turned_on : (i : Id) (f g : Text) → IsTurnedOn i f → HasReference r i f (simple g) → IsTurnedOn i g
  named_turned_on i f g x refers = record {
    meeting = x.meeting;
    met = x.met;
    linked = follows rules.linked_feature
        (one_premise Holds (means.LinkedReference i x.meeting (simple g)) (linked_from i f (simple g) x refers));
    active = follows rules.feature
        (one_premise Holds (means.ActivatedReference i sides.Targets (simple g)) (active_from i f (simple g) x refers));
    part = x.part;
  }

  -- ---- features of roots

  request_turned_on : (i : Id) (f : Text) → IsRoot r t i → Stands r t i → IsRequested r s i (simple f) → IsTurnedOn i f
  request_turned_on i f root stands requested = record {
    meeting = meetings.Root;
    met = follows (rules.root_met (plain.roots i root stands).root) (λ g is. absurd is);
    linked = follows rules.linked_feature (one_premise Holds (means.LinkedReference i meetings.Root (simple f))
        (follows (rules.root_linked requested) (λ g is. absurd is)));
    active = follows rules.feature (one_premise Holds (means.ActivatedReference i sides.Targets (simple f))
        (follows (rules.root_reference requested sides_of.on_targets) (λ g is. absurd is)));
    part = root_part i root stands;
  }

  asked_turned_on : (i : Id) (f : Text) → IsRoot r t i → Stands r t i → IsAskedOf r s i f → IsTurnedOn i f
  asked_turned_on i _ root stands (asks.requested {f} is) = request_turned_on i f root stands is
  asked_turned_on i _ root stands (asks.enabled {f} {g} is refers) = named_turned_on i f g (asked_turned_on i f root stands is) refers

  -- ---- edges

  -- the dependency's name is turned on, where it is optional
  abbrev IsOn : Edge → DependencyModel → Type 0
  IsOn e d = d.optional ≡ true → Holds (means.ActivatedName e.parent sides.Targets (declared_name d))

  use_counts : (e : Edge) (d : DependencyModel) → IsPlainEdge r m e d → IsPart e.parent → Holds (means.Linked e d) → IsOn e d
      → Holds (means.Used e d sides.Targets)
  use_counts e d x part linked on = elim (cases_Bool d.optional) [
    | inl optional ↦ follows (rules.used_by_name {e = e} {d = d} {n = sides.Targets} (counts_here e d x))
        (more_premises Holds (means.ActivatedName e.parent sides.Targets (declared_name d)) (means.Linked e d ∷ []) (on optional)
        (one_premise Holds (means.Linked e d) linked))
    | inr required ↦ follows (rules.used {e = e} {d = d} {n = sides.Targets} (counts_here e d x) required)
        (more_premises Holds (means.Activated e.parent sides.Targets) (means.Linked e d ∷ []) part.active
        (one_premise Holds (means.Linked e d) linked))
  ]

  library_needed : (e : Edge) (d : DependencyModel) (l : TargetModel) → IsPlainEdge r m e d → HasTarget r e.child l → IsPlainLibrary l
      → IsPart e.parent → Holds (means.Linked e d) → IsOn e d
      → Holds (means.Needed e d (machine m) (rules.unit e.child l modes.Build here))
  library_needed e d l x has library part linked on =
      let u = rules.unit e.parent part.target part.mode here in
      let kind = subst (λ k. HasKind part.target part.mode k) (sym x.normal) sides_of.always in
      let name = means.ActivatedName e.parent sides.Targets (declared_name d) in
      follows (rules.library_below {u = u} {e = e} {d = d} {l = l} {n = sides.Targets} {at = here} refl kind
      (record { passes = x.passes; has = has; library = library.0 }) own_features (sides_of.along library.1))
      (more_premises Holds (means.Compiled u) (means.Linked e d ∷ if_optional d name) part.compiled
      (more_premises Holds (means.Linked e d) (if_optional d name) linked (optional_premise Holds d name on)))

  edge_used : (e : Edge) (d : DependencyModel) (w : Meeting) → IsWanted r t e d → Stands r t e.child → IsPart e.parent → Holds (means.Met e.parent w)
      → (d.optional ≡ true → Holds (means.LinkedName e.parent w (declared_name d)))
      → (Holds (means.Linked e d) → IsOn e d) → IsUsed e
  edge_used e d w wanted stands part met named on =
      let x = plain.edges e d wanted stands in
      let name = means.LinkedName e.parent w (declared_name d) in
      let linked = follows (rules.linked {e = e} {d = d} {w = w} x.resolves (takes_normal w e.kind x.normal))
      (more_premises Holds (means.Met e.parent w) (if_optional d name) met (optional_premise Holds d name named)) in
      record {
        dep = d;
        declared = (wanted.place, wanted.declared.declares);
        is_plain = x;
        linked = linked;
        used = use_counts e d x part linked (on linked);
        library = x.library.0;
        needed = library_needed e d x.library.0 x x.library.1 x.library.2 part linked (on linked);
      }

  -- the child of an edge that is used

  child_met : (e : Edge) → (x : IsUsed e) → Holds (means.Met e.child meetings.Dependency)
  child_met e x = follows (rules.linked_met {e = e} {d = x.dep}) (one_premise Holds (means.Linked e x.dep) x.linked)

  child_part : (e : Edge) → IsUsed e → IsPart e.child
  child_part e x =
      let u = rules.unit e.child x.library modes.Build here in
      record {
        meeting = meetings.Dependency;
        met = child_met e x;
        active = follows (rules.used_activated {e = e} {d = x.dep} {n = sides.Targets} {m = sides.Targets} (leads_here e x.dep x.is_plain))
            (one_premise Holds (means.Used e x.dep sides.Targets) x.used);
        target = x.library;
        mode = modes.Build;
        compiled = follows (rules.needed_library {e = e} {d = x.dep} {k = machine m} {u = u})
            (one_premise Holds (means.Needed e x.dep (machine m) u) x.needed);
      }

  -- a reference that requires the dependency turns its name on
  name_on : (e : Edge) (d : DependencyModel) (v : Reference) → IsPlainEdge r m e d → Demands v (declared_name d)
      → Holds (means.ActivatedReference e.parent sides.Targets v) → Holds (means.Linked e d) → IsOn e d
  name_on e d (simple f) x demands from linked optional = absurd demands
  name_on e d (krate c) x demands from linked optional =
      subst (λ name. Holds (means.ActivatedName e.parent sides.Targets name)) (sym demands)
      (follows rules.name (one_premise Holds (means.ActivatedReference e.parent sides.Targets (krate c)) from))
  name_on e d (strong c g) x demands from linked optional =
      let named = subst (λ (name : Text). Holds (means.ActivatedReference e.parent sides.Targets (strong name g))) (sym demands) from in
      follows (rules.name_strongly {e = e} {d = d} {n = sides.Targets} {g = g} (counts_here e d x) optional)
      (more_premises Holds (means.ActivatedReference e.parent sides.Targets (strong (declared_name d) g)) (means.Linked e d ∷ []) named
      (one_premise Holds (means.Linked e d) linked))
  name_on e d (weak c g) x demands from linked optional = absurd demands

  asked_used : (e : Edge) (d : DependencyModel) (f : Text) → seven.IsAskedFor (questions r t) f e → IsWanted r t e d → Stands r t e.child
      → IsTurnedOn e.parent f → IsUsed e
  unfolding questions
  asked_used e d f is wanted stands on =
      let x = plain.edges e d wanted stands in
      let v = is.reference in
      let name = plain.names e d f is.dep v x.resolves is.refers (demands_name v is.dep is.asks) is.referent in
      let demands = subst (Demands v) (sym name) is.asks in
      edge_used e d on.meeting wanted stands on.part on.met
      (λ optional. follows (rules.linked_name {v = v} (demands_name v (declared_name d) demands))
      (one_premise Holds (means.LinkedReference e.parent on.meeting v) (linked_from e.parent f v on is.refers)))
      (name_on e d v x demands (active_from e.parent f v on is.refers))

  required_used : (e : Edge) (d : DependencyModel) → IsWanted r t e d → Stands r t e.child → d.optional ≡ false → IsPart e.parent → IsUsed e
  required_used e d wanted stands required part =
      edge_used e d part.meeting wanted stands part part.met (λ optional. absurd (both_ways d.optional required optional))
      (λ linked optional. absurd (both_ways d.optional required optional))

  -- ---- features of a child

  given_turned_on : (e : Edge) (d : DependencyModel) (g : Text) → IsUsed e → IsDeclaredAs r e d → GivesFeature r d e.child g → IsTurnedOn e.child g
  given_turned_on e d g x declared given =
      let same = one_declared r e d x.dep plain.allows.none_doubled declared x.declared in
      let gives = subst (λ c. GivesFeature r c e.child g) same given in
      record {
        meeting = meetings.Dependency;
        met = child_met e x;
        linked = follows (rules.linked_given {e = e} {d = x.dep} gives) (one_premise Holds (means.Linked e x.dep) x.linked);
        active = follows (rules.used_given {e = e} {d = x.dep} {n = sides.Targets} {m = sides.Targets} gives (leads_here e x.dep x.is_plain))
            (one_premise Holds (means.Used e x.dep sides.Targets) x.used);
        part = child_part e x;
      }

  toggled_on : (e : Edge) (f c g : Text) (v : Reference) → IsTurnedOn e.parent f → IsUsed e → HasReference r e.parent f v → NamesFeatureOf v c g
      → NamesDependency v c → IsReferent r t.all_named e.parent c e.child → IsTurnedOn e.child g
  toggled_on e f c g v on x refers feature dependency referent =
      let resolves = x.is_plain.resolves in
      let name = plain.names e x.dep f c v resolves refers dependency referent in
      let names = subst (λ n. NamesFeatureOf v n g) (sym name) feature in
      let kind = takes_normal on.meeting e.kind x.is_plain.normal in
      record {
        meeting = meetings.Dependency;
        met = child_met e x;
        linked = follows (rules.linked_toggled {e = e} {d = x.dep} {w = on.meeting} {v = v} {g = g} resolves kind names)
            (one_premise Holds (means.LinkedReference e.parent on.meeting v) (linked_from e.parent f v on refers));
        active = follows (rules.toggled {e = e} {d = x.dep} {n = sides.Targets} {m = sides.Targets} {v = v} {g = g} names
            (leads_here e x.dep x.is_plain))
            (more_premises Holds (means.ActivatedReference e.parent sides.Targets v) (means.Used e x.dep sides.Targets ∷ [])
            (active_from e.parent f v on refers) (one_premise Holds (means.Used e x.dep sides.Targets) x.used));
        part = child_part e x;
      }

  -- ---- each rule

  rule_built : (number : ℕ) (ps : List KeptFact) (f : KeptFact) → seven.Rule (questions r t) number ps f
      → ((g : KeptFact) → Among g ps → Claim g) → Claim f
  unfolding questions
  rule_built _ _ _ (seven.root_crate {p = i} root stands) have = root_part i root stands
  rule_built _ _ _ (seven.root_feature {p = i} {f = f} root stands lists) have = asked_turned_on i f root stands (plain.asked i f root stands lists)
  rule_built _ _ _ (seven.lost_root_package root none) have = tt
  rule_built _ _ _ (seven.lost_root_node root none) have = tt
  rule_built _ _ _ (seven.feature_crate {p = i} {f = f}) have = (have (facts.Feature i f) (inl refl)).part
  rule_built _ _ _ (seven.named {p = i} {f = f} {g = g} refers lists) have = named_turned_on i f g (have (facts.Feature i f) (inl refl)) refers
  rule_built _ _ _ (seven.lost_named refers lacks) have = tt
  rule_built _ _ _ (seven.asked {e = e} {f = f} {d = d} is open_edge) have =
      asked_used e d f is open_edge.wanted open_edge.stands (have (facts.Feature e.parent f) (inl refl))
  rule_built _ _ _ (seven.toggled_strongly {e = e} {f = f} {g = g} {c = c} refers referent lists) have =
      toggled_on e f c g (strong c g) (have (facts.Feature e.parent f) (inl refl)) (have (facts.Kept e) (inr (inl refl))) refers
      (refl, refl) refl referent
  rule_built _ _ _ (seven.lost_asked_package {e = e} {f = f} {d = d} is wanted none) have = tt
  rule_built _ _ _ (seven.lost_asked_node {e = e} {f = f} {d = d} is wanted none) have = tt
  rule_built _ _ _ (seven.lost_toggled_strongly {e = e} {f = f} {g = g} {c = c} refers referent lacks) have = tt
  rule_built _ _ _ (seven.required {e = e} {d = d} open_edge required) have =
      required_used e d open_edge.wanted open_edge.stands required (have (facts.Crate e.parent) (inl refl))
  rule_built _ _ _ (seven.target {e = e}) have = child_part e (have (facts.Kept e) (inl refl))
  rule_built _ _ _ (seven.lost_undeclared {e = e} loose) have = tt
  rule_built _ _ _ (seven.lost_required_package {e = e} {d = d} wanted required none) have = tt
  rule_built _ _ _ (seven.lost_required_node {e = e} {d = d} wanted required none) have = tt
  rule_built _ _ _ (seven.declared {e = e} {d = d} {g = g} is given lists) have =
      given_turned_on e d g (have (facts.Kept e) (inl refl)) is (requests.declared {feature = g} given)
  rule_built _ _ _ (seven.by_default {e = e} {d = d} is uses lists) have =
      given_turned_on e d seven.default_name (have (facts.Kept e) (inl refl)) is
      (requests.by_default uses (plain.listed e.child seven.default_name lists))
  rule_built _ _ _ (seven.lost_declared {e = e} {d = d} {g = g} is given lacks) have = tt
  rule_built _ _ _ (seven.toggled_weakly {e = e} {f = f} {g = g} {c = c} refers referent lists) have =
      toggled_on e f c g (weak c g) (have (facts.Feature e.parent f) (inl refl)) (have (facts.Kept e) (inr (inl refl))) refers
      (refl, refl) refl referent
  rule_built _ _ _ (seven.toggled_feature {p = b} {c = c} {g = g}) have = have (facts.Toggled b c g) (inl refl)
  rule_built _ _ _ (seven.lost_toggled_weakly {e = e} {f = f} {g = g} {c = c} refers referent lacks) have = tt

  claimed : (f : KeptFact) → Derivable (questions r t) f → Claim f
  claimed f d = closed_under (questions r t) Claim rule_built d

  -- ---- the law

  pub builds_kept : BuildsKept r s t m
  builds_kept =
      let keeps = keeps_build r s t plain.extent plain.allows in
      let meant = machine_meant plain.extent m in
      record {
        crates = λ i. (
          λ x. keeps.crates i (machine m) meant x,
          λ d. let x = claimed (facts.Crate i) d in (sides.Targets, as_unit (rules.unit i x.target x.mode here) refl x.compiled),
        );
        edges = λ e. (
          λ x. keeps.edges e (machine m) (machine m) meant x,
          λ d. let x = claimed (facts.Kept e) d in (x.dep, rules.unit e.child x.library modes.Build here, x.needed, refl),
        );
        features = λ i f d.
            let x = claimed (facts.Feature i f) d in (
              sides.Targets,
              sides.Targets,
              as_unit (rules.unit i x.part.target x.part.mode here) refl x.part.compiled,
              own_features,
              x.active,
            );
      }

pub builds_each_kept : BuildsEachKept
builds_each_kept r s t m plain = builds_kept r s t m plain
