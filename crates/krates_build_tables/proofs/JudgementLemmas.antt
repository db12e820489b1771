-- Lemmas of machines, and of where a dependency passes.
use Rattle.std.proofs.Common.{◌≡◌, ◌↔◌, ◌||◌, ℕ, List, [], ◌∷◌, ◌++◌, get_or, take, ◌<◌, Bool, true, false, IsTrue, Option, Some, None, Contains, Bor, not, option_map, is_some, refl, sym, ◌∙◌, subst, inl, inr, arith}
use Rattle.std.proofs.lemmas.Bool.{or_cases, or_left, or_right}
use Rattle.std.proofs.lemmas.List.Elements.{Contains-append_left, Contains-push, Contains-push_cases}
use Rattle.std.proofs.lemmas.Option.{get_or_from_slice_get, slice_get_within}
use Rattle.std.specs.List.{slice_get}
use Rattle.krates_cm.specs.Document.{Text}
use Rattle.krates_rules.proofs.OnlyOne.{place_in}
use Rattle.krates_rules.proofs.Readings.{left_of, right_of}
use Rattle.krates_rules.proofs.Standings.{contains_at}
use Rattle.krates_units.specs.BuildSetting.{machines}
use Rattle.krates_units.specs.Machines.{HoldsAt, HoldsOnSome, MachineModel, PassesOn}
use Rattle.krates_build_tables.specs.Judgements.{AreJudged, IsJudged}
use Rattle.krates_build_tables.specs.TablesOf.{ComeInOrder, HasEachOnce}
use Rattle.krates_build_tables.proofs.Entries.{push_cases}

only : {A : Type 0} (x y : A) → Contains (x ∷ []) y → x ≡ y
only x y h = elim (Contains-push_cases [] x y h) [ inl none ↦ absurd (omega (arith, none.1)) | inr e ↦ e ]

-- ---- lists without repeats

pub once_none : {A : Type 0} → HasEachOnce {A = A} []
once_none j k x h g = absurd cc

pub once_one : {A : Type 0} (y : A) → HasEachOnce (y ∷ [])
once_one y j k x h g =
    let p = slice_get_within (y ∷ []) j x h in
    let q = slice_get_within (y ∷ []) k x g in
    omega (arith, p, q)

-- one more that isn't there
pub once_more : {A : Type 0} (xs : List A) (y : A) → (Contains xs y → ⊥) → HasEachOnce xs → HasEachOnce (xs ++ y ∷ [])
once_more xs y new once j k x h g = elim (push_cases xs y j x h) [
  | inl a ↦ elim (push_cases xs y k x g) [
    | inl b ↦ once j k x a b
    | inr b ↦ absurd (new (subst (Contains xs) b.1 (contains_at xs j x a)))
  ]
  | inr a ↦ elim (push_cases xs y k x g) [
    | inl b ↦ absurd (new (subst (Contains xs) a.1 (contains_at xs k x b)))
    | inr b ↦ a.0 ∙ sym b.0
  ]
]

-- ---- lists in the order of another

pub order_none : {A : Type 0} (all : List A) → ComeInOrder all []
order_none all j k x y at_j at_k lt = absurd cc

pub order_one : {A : Type 0} (all : List A) (z : A) → ComeInOrder all (z ∷ [])
order_one all z j k x y at_j at_k lt =
    let p = slice_get_within (z ∷ []) k y at_k in
    absurd (omega (arith, p, lt))

-- one more, that isn't yet up to a place where the others are
pub order_more : {A : Type 0} (all ys : List A) (n : ℕ) (y : A) → ((x : A) → Contains ys x → Contains (take n all) x) → (Contains (take n all) y → ⊥)
    → ComeInOrder all ys → ComeInOrder all (ys ++ y ∷ [])
order_more all ys n y seen new ordered j k x z at_j at_k lt = elim (push_cases ys y k z at_k) [
  | inl e ↦ elim (push_cases ys y j x at_j) [
    | inl d ↦ ordered j k x z d e lt
    | inr d ↦ (let within = slice_get_within ys k z e in absurd (omega (arith, within, d.0, lt)))
  ]
  | inr e ↦ elim (push_cases ys y j x at_j) [
    | inl d ↦ (n, seen x (contains_at ys j x d), subst (λ w. Contains (take n all) w → ⊥) (sym e.1) new)
    | inr d ↦ absurd (omega (arith, d.0, e.0, lt))
  ]
]

-- ---- the same members

-- both lists have one more
pub same_more : {A : Type 0} (xs ys : List A) (a : A) → ((m : A) → Contains xs m ↔ Contains ys m) → (m : A) → Contains (xs ++ a ∷ []) m ↔ Contains (ys ++ a ∷ []) m
same_more xs ys a same m = (
  λ h. elim (Contains-push_cases xs a m h) [ inl x ↦ Contains-append_left ys (a ∷ []) m ((same m).0 x) | inr e ↦ subst (Contains (ys ++ a ∷ [])) e (Contains-push ys a) ],
  λ h. elim (Contains-push_cases ys a m h) [ inl x ↦ Contains-append_left xs (a ∷ []) m ((same m).1 x) | inr e ↦ subst (Contains (xs ++ a ∷ [])) e (Contains-push xs a) ],
)

-- the first has one more that both have
pub same_kept : {A : Type 0} (xs ys : List A) (a : A) → Contains ys a → ((m : A) → Contains xs m ↔ Contains ys m) → (m : A) → Contains (xs ++ a ∷ []) m ↔ Contains ys m
same_kept xs ys a there same m = (
  λ h. elim (Contains-push_cases xs a m h) [ inl x ↦ (same m).0 x | inr e ↦ subst (Contains ys) e there ],
  λ h. Contains-append_left xs (a ∷ []) m ((same m).1 h),
)

-- ---- on one machine

pub holds_here : (m : MachineModel) (text : Text) (b : Bool) → (IsTrue b ↔ HoldsAt text m) → IsTrue b ↔ HoldsOnSome (m ∷ []) text
holds_here m text b told = (
  λ t. (m, Contains-push [] m, told.0 t),
  λ h. told.1 (subst (HoldsAt text) (sym (only m h.0 h.1)) h.2),
)

-- ---- on some of several

-- where each answer is told, a text passes on some machine where an answer is yes
some_from : (ms all : List MachineModel) (text : Text) (passes : List Bool) → ((m : MachineModel) → Contains all m ↔ Contains ms m) → AreJudged ms (Some text) passes → Contains passes true → HoldsOnSome all text
some_from ms all text passes same judged h =
    let at = place_in passes true h in
    let w = left_of (IsJudged (Some text)) ms passes at.0 true judged at.1 in
    let on = w.2.0 refl in
    let here = only w.0 on.0 on.1 in
    (w.0, (same w.0).1 (contains_at ms at.0 w.0 w.1), subst (HoldsAt text) (sym here) on.2)

some_to : (ms all : List MachineModel) (text : Text) (passes : List Bool) → ((m : MachineModel) → Contains all m ↔ Contains ms m) → AreJudged ms (Some text) passes → HoldsOnSome all text → Contains passes true
some_to ms all text passes same judged h =
    let at = place_in ms h.0 ((same h.0).0 h.1) in
    let w = right_of (IsJudged (Some text)) ms passes at.0 h.0 judged at.1 in
    subst (Contains passes) (w.2.1 (h.0, Contains-push [] h.0, h.2)) (contains_at passes at.0 w.0 w.1)

abbrev not_some : {A : Type 0} → Option A → Bool
not_some None = true
not_some (Some x) = false

pub targets_told : (ms all : List MachineModel) (cfg : Option Text) (passes : List Bool) (none some : Bool) → ((m : MachineModel) → Contains all m ↔ Contains ms m) → AreJudged ms cfg passes
    → none ≡ not_some cfg → (IsTrue some ↔ Contains passes true) → IsTrue (none || some) ↔ PassesOn all cfg
targets_told ms all None passes none some same judged is told = (λ t. tt, λ h. or_left none some is)
targets_told ms all (Some text) passes none some same judged is told = (
  λ t. elim (or_cases none some t) [ inl x ↦ absurd (let e = sym x ∙ is in cc) | inr y ↦ some_from ms all text passes same judged (told.0 y) ],
  λ h. or_right none some (told.1 (some_to ms all text passes same judged h)),
)

pub none_told : (o : Option (Bor Text)) (b : Bool) → is_some o ≡ not b → b ≡ not_some {A = Text} (option_map (λ (t : Bor Text). t.now) o)
none_told None true h = refl
none_told None false h = absurd cc
none_told (Some x) true h = absurd cc
none_told (Some x) false h = refl

-- ---- the machines that a build is for

pub some_machines : (host : MachineModel) (all : List MachineModel) → (all ≡ [] → ⊥) → machines host all ≡ all
some_machines host [] some = absurd (some refl)
some_machines host (m ∷ ms) some = refl

-- the answer under a machine's number
pub judged_at : (cfg : Option Text) (ms : List MachineModel) (passes : List Bool) → AreJudged ms cfg passes → (k : ℕ) (m : MachineModel) → slice_get ms k ≡ Some m → IsTrue (get_or passes k false) ↔ PassesOn (m ∷ []) cfg
judged_at cfg ms passes judged k m at =
    let w = right_of (IsJudged cfg) ms passes k m judged at in
    rw (get_or_from_slice_get passes k w.0 false w.1) w.2
