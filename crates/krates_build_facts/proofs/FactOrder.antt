-- The order of facts: two compare as equal exactly where they are the same.
use Rattle.std.proofs.Common.{◌≡◌, ◌↔◌, ◌==◌, ℕ, Bool, true, false, Less, Equal, Greater, Ordering, ap, eq-eqb, refl, subst}
use Rattle.std.proofs.lemmas.Cmp.{tied_itself, nat_cmp_total}
use Rattle.std.proofs.lemmas.Map.Lookups.{exact_unsigned}
use Rattle.std.specs.Bool.{⊤}
use Rattle.std.specs.Ordering.{nat_cmp, ordering_then}
use Rattle.krates_rules.proofs.KeyOrder.{equal_then, text_tells, then_equal}
use Rattle.krates_build_tables.specs.References.{reference_view}
use Rattle.krates_build_tables.specs.contracts.reference.FeatureReferenceOrd.TheImpl as reference_order
use Rattle.krates_build_tables.specs.contracts.tables.LinkPlaceOrd.TheImpl as link_order
use Rattle.krates_build_tables.specs.contracts.tables.TargetPlaceOrd.TheImpl as target_order
use Rattle.krates_build_tables.specs.declared.reference.FeatureReference.{FeatureReference}
use Rattle.krates_build_tables.specs.declared.reference.FeatureReference.TheVariants as references
use Rattle.krates_build_tables.specs.declared.tables.LinkPlace.{LinkPlace}
use Rattle.krates_build_tables.specs.declared.tables.TargetPlace.{TargetPlace}
use Rattle.krates_build_facts.specs.FactModels.{FactModel, Met, LinkedReference, LinkedFeature, LinkedName, Linked, Lost, Activated, ActivatedReference, ActivatedFeature, ActivatedName, Used, Available, Compiled, Needed, ScriptRun, ScriptCompiled, RunNeeded, fact_view}
use Rattle.krates_build_facts.specs.FactOrder.{fact_cmp}
use Rattle.krates_build_facts.specs.contracts.facts.PlacementNumberOrd.TheImpl as placement_order
use Rattle.krates_build_facts.specs.contracts.facts.PlatformNumberOrd.TheImpl as platform_order
use Rattle.krates_build_facts.specs.contracts.facts.UnitPlaceOrd.TheImpl as unit_order
use Rattle.krates_build_facts.specs.declared.facts.BuildFact.{BuildFact}
use Rattle.krates_build_facts.specs.declared.facts.BuildFact.TheVariants as facts
use Rattle.krates_build_facts.specs.declared.facts.PlacementNumber.{PlacementNumber}
use Rattle.krates_build_facts.specs.declared.facts.PlatformNumber.{PlatformNumber}
use Rattle.krates_build_facts.specs.declared.facts.PlatformNumber.TheVariants as platforms
use Rattle.krates_build_facts.specs.declared.facts.UnitPlace.{UnitPlace}
use Rattle.krates_units.specs.contracts.kinds.ModeOrd.TheImpl as mode_order
use Rattle.krates_units.specs.contracts.sides.MeetingOrd.TheImpl as meeting_order
use Rattle.krates_units.specs.contracts.sides.SideOrd.TheImpl as side_order
use Rattle.krates_units.specs.declared.kinds.Mode.{Mode}
use Rattle.krates_units.specs.declared.kinds.Mode.TheVariants as modes
use Rattle.krates_units.specs.declared.sides.Meeting.{Meeting}
use Rattle.krates_units.specs.declared.sides.Meeting.TheVariants as meetings
use Rattle.krates_units.specs.declared.sides.Side.{Side}
use Rattle.krates_units.specs.declared.sides.Side.TheVariants as sides

-- ---- parts

number_tells : (a b : ℕ) → (nat_cmp a b ≡ Equal) ↔ (a ≡ b)
number_tells a b = (λ h. exact_unsigned a b h, λ e. subst (λ c. nat_cmp a c ≡ Equal) e (tied_itself nat_cmp_total a))

-- two parts decide, one after the other
both_tell : {A B : Type 0} (x y : Ordering) (a b : A) (c d : B) → (x ≡ Equal) ↔ (a ≡ b) → (y ≡ Equal) ↔ (c ≡ d) → (ordering_then x y ≡ Equal) ↔ ((a ≡ b) × (c ≡ d))
both_tell x y a b c d one other = (
  λ h. (let w = then_equal x y h in (one.0 w.0, other.0 w.1)),
  λ w. equal_then x y (one.1 w.0) (other.1 w.1),
)

meeting_tells : (a b : Meeting) → ((meeting_order.ghosts).cmp a b ≡ Equal) ↔ (a ≡ b)
meeting_tells meetings.Root meetings.Root = (λ h. refl, λ e. refl)
meeting_tells meetings.Root meetings.Dependency = (λ h. absurd cc, λ e. absurd cc)
meeting_tells meetings.Dependency meetings.Root = (λ h. absurd cc, λ e. absurd cc)
meeting_tells meetings.Dependency meetings.Dependency = (λ h. refl, λ e. refl)

side_tells : (a b : Side) → ((side_order.ghosts).cmp a b ≡ Equal) ↔ (a ≡ b)
side_tells sides.Targets sides.Targets = (λ h. refl, λ e. refl)
side_tells sides.Targets sides.Host = (λ h. absurd cc, λ e. absurd cc)
side_tells sides.Host sides.Targets = (λ h. absurd cc, λ e. absurd cc)
side_tells sides.Host sides.Host = (λ h. refl, λ e. refl)

mode_tells : (a b : Mode) → ((mode_order.ghosts).cmp a b ≡ Equal) ↔ (a ≡ b)
mode_tells modes.Build modes.Build = (λ h. refl, λ e. refl)
mode_tells modes.Build modes.Test = (λ h. absurd cc, λ e. absurd cc)
mode_tells modes.Test modes.Build = (λ h. absurd cc, λ e. absurd cc)
mode_tells modes.Test modes.Test = (λ h. refl, λ e. refl)

link_tells : (a b : LinkPlace) → ((link_order.ghosts).cmp a b ≡ Equal) ↔ (a ≡ b)
link_tells a b =
    let w = both_tell _ _ a.krate b.krate a.index b.index (number_tells a.krate b.krate) (number_tells a.index b.index) in
    (λ h. (let v = w.0 h in rw (v.0, v.1) refl), λ e. w.1 (cc, cc))

target_tells : (a b : TargetPlace) → ((target_order.ghosts).cmp a b ≡ Equal) ↔ (a ≡ b)
target_tells a b =
    let w = both_tell _ _ a.krate b.krate a.index b.index (number_tells a.krate b.krate) (number_tells a.index b.index) in
    (λ h. (let v = w.0 h in rw (v.0, v.1) refl), λ e. w.1 (cc, cc))

platform_tells : (a b : PlatformNumber) → ((platform_order.ghosts).cmp a b ≡ Equal) ↔ (a ≡ b)
platform_tells platforms.Host platforms.Host = (λ h. refl, λ e. refl)
platform_tells platforms.Host (platforms.Machine k) = (λ h. absurd cc, λ e. absurd cc)
platform_tells (platforms.Machine j) platforms.Host = (λ h. absurd cc, λ e. absurd cc)
platform_tells (platforms.Machine j) (platforms.Machine k) = let n = number_tells j k in (λ h. rw (n.0 h) refl, λ e. n.1 cc)

placement_tells : (a b : PlacementNumber) → ((placement_order.ghosts).cmp a b ≡ Equal) ↔ (a ≡ b)
placement_tells a b =
    let w = both_tell _ _ a.platform b.platform a.side b.side (platform_tells a.platform b.platform) (side_tells a.side b.side) in
    (λ h. (let v = w.0 h in rw (v.0, v.1) refl), λ e. w.1 (cc, cc))

unit_tells : (a b : UnitPlace) → ((unit_order.ghosts).cmp a b ≡ Equal) ↔ (a ≡ b)
unit_tells a b =
    let t = target_tells a.target b.target in
    let m = mode_tells a.mode b.mode in
    let p = placement_tells a.placement b.placement in (
      λ h. (
          let u = then_equal _ _ h in
          let v = then_equal _ _ u.1 in
          rw (t.0 u.0, m.0 v.0, p.0 v.1) refl),
      λ e. equal_then _ _ (t.1 cc) (equal_then _ _ (m.1 cc) (p.1 cc)),
    )

reference_tells : (a b : FeatureReference) → ((reference_order.ghosts).cmp a b ≡ Equal) ↔ (reference_view a ≡ reference_view b)
reference_tells (references.Krate x) (references.Krate v) = let n = text_tells x.now v.now in (λ h. rw (n.0 h) refl, λ e. n.1 cc)
reference_tells (references.Krate x) (references.Weak v w) = (λ h. absurd cc, λ e. absurd cc)
reference_tells (references.Krate x) (references.Strong v w) = (λ h. absurd cc, λ e. absurd cc)
reference_tells (references.Krate x) (references.Simple v) = (λ h. absurd cc, λ e. absurd cc)
reference_tells (references.Weak x y) (references.Krate v) = (λ h. absurd cc, λ e. absurd cc)
reference_tells (references.Weak x y) (references.Weak v w) =
    let k = both_tell _ _ x.now v.now y.now w.now (text_tells x.now v.now) (text_tells y.now w.now) in
    (λ h. (let u = k.0 h in rw (u.0, u.1) refl), λ e. k.1 (cc, cc))
reference_tells (references.Weak x y) (references.Strong v w) = (λ h. absurd cc, λ e. absurd cc)
reference_tells (references.Weak x y) (references.Simple v) = (λ h. absurd cc, λ e. absurd cc)
reference_tells (references.Strong x y) (references.Krate v) = (λ h. absurd cc, λ e. absurd cc)
reference_tells (references.Strong x y) (references.Weak v w) = (λ h. absurd cc, λ e. absurd cc)
reference_tells (references.Strong x y) (references.Strong v w) =
    let k = both_tell _ _ x.now v.now y.now w.now (text_tells x.now v.now) (text_tells y.now w.now) in
    (λ h. (let u = k.0 h in rw (u.0, u.1) refl), λ e. k.1 (cc, cc))
reference_tells (references.Strong x y) (references.Simple v) = (λ h. absurd cc, λ e. absurd cc)
reference_tells (references.Simple x) (references.Krate v) = (λ h. absurd cc, λ e. absurd cc)
reference_tells (references.Simple x) (references.Weak v w) = (λ h. absurd cc, λ e. absurd cc)
reference_tells (references.Simple x) (references.Strong v w) = (λ h. absurd cc, λ e. absurd cc)
reference_tells (references.Simple x) (references.Simple v) = let n = text_tells x.now v.now in (λ h. rw (n.0 h) refl, λ e. n.1 cc)

-- ---- facts of two kinds

-- the answer isn't that they are equal
abbrev IsApart : Ordering → Type 0
IsApart Less = ⊤
IsApart Equal = ⊥
IsApart Greater = ⊤

-- the number of the kind of a fact
abbrev kind : FactModel → ℕ
kind (Met c m) = 0
kind (LinkedReference c m v) = 1
kind (LinkedFeature c m f) = 2
kind (LinkedName c m d) = 3
kind (Linked place) = 4
kind (Lost c index) = 5
kind (Activated c n) = 6
kind (ActivatedReference c n v) = 7
kind (ActivatedFeature c n f) = 8
kind (ActivatedName c n d) = 9
kind (Used place n) = 10
kind (Available c text) = 11
kind (Compiled u) = 12
kind (Needed place from u) = 13
kind (ScriptRun c at) = 14
kind (ScriptCompiled c n) = 15
kind (RunNeeded place from run) = 16

-- a test says no
abbrev IsNo : Bool → Type 0
IsNo true = ⊥
IsNo false = ⊤

apart : (o : Ordering) → IsApart o → o ≡ Equal → ⊥
apart o is e = subst IsApart e is

no_number : (n m : ℕ) → IsNo (n == m) → n ≡ m → ⊥
no_number n m unlike e = subst IsNo (eq-eqb n m e) unlike

-- two facts that don't compare as equal, and whose kinds have two numbers
differ : (a b : BuildFact) → IsApart (fact_cmp a b) → IsNo (kind (fact_view a) == kind (fact_view b))
    → (fact_cmp a b ≡ Equal) ↔ (fact_view a ≡ fact_view b)
differ a b apart_is unlike = (
  λ h. absurd (apart (fact_cmp a b) apart_is h),
  λ e. absurd (no_number (kind (fact_view a)) (kind (fact_view b)) unlike (ap kind e)),
)

-- ---- facts

-- facts compare as equal exactly where they are the same
pub fact_tells : (a b : BuildFact) → (fact_cmp a b ≡ Equal) ↔ (fact_view a ≡ fact_view b)
fact_tells (facts.Met a b) (facts.Met x y) =
    let t0 = number_tells a x in
    let t1 = meeting_tells b y in
    (λ h. (let u = then_equal _ _ h in rw (t0.0 u.0, t1.0 u.1) refl), λ e. equal_then _ _ (t0.1 cc) (t1.1 cc))
fact_tells (facts.Met a b) other = differ (facts.Met a b) other tt tt
fact_tells (facts.LinkedReference a b c) (facts.LinkedReference x y z) =
    let t0 = number_tells a x in
    let t1 = meeting_tells b y in
    let t2 = reference_tells c z in (
      λ h. (
          let u = then_equal _ _ h in
          let v = then_equal _ _ u.1 in
          rw (t0.0 u.0, t1.0 v.0, t2.0 v.1) refl),
      λ e. equal_then _ _ (t0.1 cc) (equal_then _ _ (t1.1 cc) (t2.1 cc)),
    )
fact_tells (facts.LinkedReference a b c) other = differ (facts.LinkedReference a b c) other tt tt
fact_tells (facts.LinkedFeature a b c) (facts.LinkedFeature x y z) =
    let t0 = number_tells a x in
    let t1 = meeting_tells b y in
    let t2 = text_tells c.now z.now in (
      λ h. (
          let u = then_equal _ _ h in
          let v = then_equal _ _ u.1 in
          rw (t0.0 u.0, t1.0 v.0, t2.0 v.1) refl),
      λ e. equal_then _ _ (t0.1 cc) (equal_then _ _ (t1.1 cc) (t2.1 cc)),
    )
fact_tells (facts.LinkedFeature a b c) other = differ (facts.LinkedFeature a b c) other tt tt
fact_tells (facts.LinkedName a b c) (facts.LinkedName x y z) =
    let t0 = number_tells a x in
    let t1 = meeting_tells b y in
    let t2 = text_tells c.now z.now in (
      λ h. (
          let u = then_equal _ _ h in
          let v = then_equal _ _ u.1 in
          rw (t0.0 u.0, t1.0 v.0, t2.0 v.1) refl),
      λ e. equal_then _ _ (t0.1 cc) (equal_then _ _ (t1.1 cc) (t2.1 cc)),
    )
fact_tells (facts.LinkedName a b c) other = differ (facts.LinkedName a b c) other tt tt
fact_tells (facts.Linked a) (facts.Linked x) =
    let t0 = link_tells a x in
    (λ h. rw (t0.0 h) refl, λ e. t0.1 cc)
fact_tells (facts.Linked a) other = differ (facts.Linked a) other tt tt
fact_tells (facts.Lost a b) (facts.Lost x y) =
    let t0 = number_tells a x in
    let t1 = number_tells b y in
    (λ h. (let u = then_equal _ _ h in rw (t0.0 u.0, t1.0 u.1) refl), λ e. equal_then _ _ (t0.1 cc) (t1.1 cc))
fact_tells (facts.Lost a b) other = differ (facts.Lost a b) other tt tt
fact_tells (facts.Activated a b) (facts.Activated x y) =
    let t0 = number_tells a x in
    let t1 = side_tells b y in
    (λ h. (let u = then_equal _ _ h in rw (t0.0 u.0, t1.0 u.1) refl), λ e. equal_then _ _ (t0.1 cc) (t1.1 cc))
fact_tells (facts.Activated a b) other = differ (facts.Activated a b) other tt tt
fact_tells (facts.ActivatedReference a b c) (facts.ActivatedReference x y z) =
    let t0 = number_tells a x in
    let t1 = side_tells b y in
    let t2 = reference_tells c z in (
      λ h. (
          let u = then_equal _ _ h in
          let v = then_equal _ _ u.1 in
          rw (t0.0 u.0, t1.0 v.0, t2.0 v.1) refl),
      λ e. equal_then _ _ (t0.1 cc) (equal_then _ _ (t1.1 cc) (t2.1 cc)),
    )
fact_tells (facts.ActivatedReference a b c) other = differ (facts.ActivatedReference a b c) other tt tt
fact_tells (facts.ActivatedFeature a b c) (facts.ActivatedFeature x y z) =
    let t0 = number_tells a x in
    let t1 = side_tells b y in
    let t2 = text_tells c.now z.now in (
      λ h. (
          let u = then_equal _ _ h in
          let v = then_equal _ _ u.1 in
          rw (t0.0 u.0, t1.0 v.0, t2.0 v.1) refl),
      λ e. equal_then _ _ (t0.1 cc) (equal_then _ _ (t1.1 cc) (t2.1 cc)),
    )
fact_tells (facts.ActivatedFeature a b c) other = differ (facts.ActivatedFeature a b c) other tt tt
fact_tells (facts.ActivatedName a b c) (facts.ActivatedName x y z) =
    let t0 = number_tells a x in
    let t1 = side_tells b y in
    let t2 = text_tells c.now z.now in (
      λ h. (
          let u = then_equal _ _ h in
          let v = then_equal _ _ u.1 in
          rw (t0.0 u.0, t1.0 v.0, t2.0 v.1) refl),
      λ e. equal_then _ _ (t0.1 cc) (equal_then _ _ (t1.1 cc) (t2.1 cc)),
    )
fact_tells (facts.ActivatedName a b c) other = differ (facts.ActivatedName a b c) other tt tt
fact_tells (facts.Used a b) (facts.Used x y) =
    let t0 = link_tells a x in
    let t1 = side_tells b y in
    (λ h. (let u = then_equal _ _ h in rw (t0.0 u.0, t1.0 u.1) refl), λ e. equal_then _ _ (t0.1 cc) (t1.1 cc))
fact_tells (facts.Used a b) other = differ (facts.Used a b) other tt tt
fact_tells (facts.Available a b) (facts.Available x y) =
    let t0 = number_tells a x in
    let t1 = text_tells b.now y.now in
    (λ h. (let u = then_equal _ _ h in rw (t0.0 u.0, t1.0 u.1) refl), λ e. equal_then _ _ (t0.1 cc) (t1.1 cc))
fact_tells (facts.Available a b) other = differ (facts.Available a b) other tt tt
fact_tells (facts.Compiled a) (facts.Compiled x) =
    let t0 = unit_tells a x in
    (λ h. rw (t0.0 h) refl, λ e. t0.1 cc)
fact_tells (facts.Compiled a) other = differ (facts.Compiled a) other tt tt
fact_tells (facts.Needed a b c) (facts.Needed x y z) =
    let t0 = link_tells a x in
    let t1 = platform_tells b y in
    let t2 = unit_tells c z in (
      λ h. (
          let u = then_equal _ _ h in
          let v = then_equal _ _ u.1 in
          rw (t0.0 u.0, t1.0 v.0, t2.0 v.1) refl),
      λ e. equal_then _ _ (t0.1 cc) (equal_then _ _ (t1.1 cc) (t2.1 cc)),
    )
fact_tells (facts.Needed a b c) other = differ (facts.Needed a b c) other tt tt
fact_tells (facts.ScriptRun a b) (facts.ScriptRun x y) =
    let t0 = number_tells a x in
    let t1 = placement_tells b y in
    (λ h. (let u = then_equal _ _ h in rw (t0.0 u.0, t1.0 u.1) refl), λ e. equal_then _ _ (t0.1 cc) (t1.1 cc))
fact_tells (facts.ScriptRun a b) other = differ (facts.ScriptRun a b) other tt tt
fact_tells (facts.ScriptCompiled a b) (facts.ScriptCompiled x y) =
    let t0 = number_tells a x in
    let t1 = side_tells b y in
    (λ h. (let u = then_equal _ _ h in rw (t0.0 u.0, t1.0 u.1) refl), λ e. equal_then _ _ (t0.1 cc) (t1.1 cc))
fact_tells (facts.ScriptCompiled a b) other = differ (facts.ScriptCompiled a b) other tt tt
fact_tells (facts.RunNeeded a b c) (facts.RunNeeded x y z) =
    let t0 = link_tells a x in
    let t1 = placement_tells b y in
    let t2 = placement_tells c z in (
      λ h. (
          let u = then_equal _ _ h in
          let v = then_equal _ _ u.1 in
          rw (t0.0 u.0, t1.0 v.0, t2.0 v.1) refl),
      λ e. equal_then _ _ (t0.1 cc) (equal_then _ _ (t1.1 cc) (t2.1 cc)),
    )
fact_tells (facts.RunNeeded a b c) other = differ (facts.RunNeeded a b c) other tt tt
