-- Lemmas of the kinds of targets, and of tests that are made of tests.
use Rattle.std.proofs.Common.{◌≡◌, ◌∙◌, ◌↔◌, ◌⊎◌, ◌||◌, Bool, true, IsTrue, List, Contains, get_or, refl, sym, ap, inl, inr, rules, tests}
use Rattle.std.specs.List.{Any, list_any}
use Rattle.std.proofs.lemmas.List.{get_or_default}
use Rattle.std.proofs.lemmas.List.Folds.{Any-from_list_any, list_any-from_Any, list_any_at}
use Rattle.std.proofs.lemmas.Bool.{and_from, and_parts, not-true, not_from_false, or_cases, or_left, or_right}
use Rattle.krates_cm.specs.contracts.target.CrateTypePartialEq.TheImpl.{ghosts as form_equality}
use Rattle.krates_cm.specs.declared.target.CrateType.{CrateType}
use Rattle.krates_cm.specs.declared.target.CrateType.TheVariants as types
use Rattle.krates_cm.specs.declared.target.TargetKind.TheVariants as kinds
use Rattle.krates_cm.specs.Document.{TargetModel}
use Rattle.krates_units.specs.AskedKinds.{ask_to_build, ask_to_test}
use Rattle.krates_units.specs.BuildTargets.{AsksFor, by_default, as_library, as_program, as_example, as_test, as_benchmark, IsLibrary}
use Rattle.krates_units.specs.declared.kinds.Mode.TheVariants as modes
use Rattle.krates_units.specs.declared.setting.TargetFlags.{TargetFlags}

-- a test of each tells whether some element passes
pub any_told : {A : Type 0} (p : A → Bool) (all : List A) (b : Bool) → b ≡ list_any p all → IsTrue b ↔ Any (λ x. p x ≡ true) all
any_told p all b is = (λ t. Any-from_list_any p all (sym is ∙ t), λ some. is ∙ list_any-from_Any p all some)

form_same : (form : CrateType) → form_equality.eq form types.ProcMacro ≡ true → form ≡ types.ProcMacro
form_same form e = search (rules, tests)

-- the test of `contains` tells whether the form is there
pub macro_form_told : (all : List CrateType) (b : Bool) → b ≡ list_any (λ form. form_equality.eq form types.ProcMacro) all → IsTrue b ↔ Contains all types.ProcMacro
macro_form_told all b is = (
  λ t. (
      let w = Any-from_list_any (λ form. form_equality.eq form types.ProcMacro) all (sym is ∙ t) in
      (w.0, w.2, get_or_default all w.0 types.ProcMacro w.1 w.2 ∙ w.3 ∙ form_same w.1 w.4)),
  λ (k, lt, here). is ∙ list_any_at (λ form. form_equality.eq form types.ProcMacro) all k types.ProcMacro lt (ap (λ form. form_equality.eq form types.ProcMacro) here ∙ refl),
)

-- ---- what flags ask for

-- either of two tests
either : {P Q : Type 0} (p q : Bool) → (IsTrue p ↔ P) → (IsTrue q ↔ Q) → IsTrue (p || q) ↔ (P ⊎ Q)
either p q first second = (
  λ t. elim (or_cases p q t) [ inl x ↦ inl (first.0 x) | inr y ↦ inr (second.0 y) ],
  λ some. elim some [ inl x ↦ or_left p q (first.1 x) | inr y ↦ or_right p q (second.1 y) ],
)

build_from : (flags : TargetFlags) (t : TargetModel) (l p e : Bool) → (IsTrue l ↔ IsLibrary t) → (IsTrue p ↔ Contains t.kind kinds.Bin) → (IsTrue e ↔ Contains t.kind kinds.Example)
    → ask_to_build flags l p e ≡ true → AsksFor flags t modes.Build
build_from flags t l p e library program example asked = elim (or_cases _ _ asked) [
  | inr h ↦ (let both = and_parts _ _ h in as_example both.0 (example.0 both.1))
  | inl rest ↦ elim (or_cases _ _ rest) [
    | inr h ↦ (let both = and_parts _ _ h in as_program both.0 (program.0 both.1))
    | inl rest' ↦ elim (or_cases _ _ rest') [
      | inr h ↦ (let both = and_parts _ _ h in as_library both.0 (library.0 both.1))
      | inl h ↦ (let both = and_parts _ _ h in by_default (not-true _ both.0) ((either l p library program).0 both.1))
    ]
  ]
]

build_to : (flags : TargetFlags) (t : TargetModel) (l p e : Bool) → (IsTrue l ↔ IsLibrary t) → (IsTrue p ↔ Contains t.kind kinds.Bin) → (IsTrue e ↔ Contains t.kind kinds.Example)
    → AsksFor flags t modes.Build → ask_to_build flags l p e ≡ true
build_to flags t l p e library program example (by_default none some) =
    or_left _ _ (or_left _ _ (or_left _ _ (and_from _ _ (not_from_false _ none) ((either l p library program).1 some))))
build_to flags t l p e library program example (as_library asks is) = or_left _ _ (or_left _ _ (or_right _ _ (and_from _ _ asks (library.1 is))))
build_to flags t l p e library program example (as_program asks is) = or_left _ _ (or_right _ _ (and_from _ _ asks (program.1 is)))
build_to flags t l p e library program example (as_example asks is) = or_right _ _ (and_from _ _ asks (example.1 is))

-- the test tells whether the target is asked for as itself
pub build_told : (flags : TargetFlags) (t : TargetModel) (b l p e : Bool) → b ≡ ask_to_build flags l p e → (IsTrue l ↔ IsLibrary t) → (IsTrue p ↔ Contains t.kind kinds.Bin)
    → (IsTrue e ↔ Contains t.kind kinds.Example) → IsTrue b ↔ AsksFor flags t modes.Build
build_told flags t b l p e is library program example =
    (λ yes. build_from flags t l p e library program example (sym is ∙ yes), λ asks. is ∙ build_to flags t l p e library program example asks)

test_from : (flags : TargetFlags) (t : TargetModel) (l p m : Bool) → (IsTrue l ↔ IsLibrary t) → (IsTrue p ↔ Contains t.kind kinds.Bin) → (IsTrue m ↔ Contains t.kind kinds.Bench)
    → ask_to_test flags t.test l p m ≡ true → AsksFor flags t modes.Test
test_from flags t l p m library program benchmark asked = elim (or_cases _ _ asked) [
  | inl h ↦ (let both = and_parts _ _ h in as_test both.0 both.1)
  | inr h ↦ (
      let both = and_parts _ _ h in
      as_benchmark both.0 (elim (or_cases _ _ both.1) [
        | inr y ↦ inr (inr (benchmark.0 y))
        | inl x ↦ elim (or_cases _ _ x) [ inl z ↦ inl (library.0 z) | inr z ↦ inr (inl (program.0 z)) ]
      ]))
]

test_to : (flags : TargetFlags) (t : TargetModel) (l p m : Bool) → (IsTrue l ↔ IsLibrary t) → (IsTrue p ↔ Contains t.kind kinds.Bin) → (IsTrue m ↔ Contains t.kind kinds.Bench)
    → AsksFor flags t modes.Test → ask_to_test flags t.test l p m ≡ true
test_to flags t l p m library program benchmark (as_test asks is) = or_left _ _ (and_from _ _ asks is)
test_to flags t l p m library program benchmark (as_benchmark asks (inl x)) = or_right _ _ (and_from _ _ asks (or_left _ _ (or_left _ _ (library.1 x))))
test_to flags t l p m library program benchmark (as_benchmark asks (inr (inl y))) = or_right _ _ (and_from _ _ asks (or_left _ _ (or_right _ _ (program.1 y))))
test_to flags t l p m library program benchmark (as_benchmark asks (inr (inr z))) = or_right _ _ (and_from _ _ asks (or_right _ _ (benchmark.1 z)))

-- the test tells whether the target is asked for with its tests
pub test_told : (flags : TargetFlags) (t : TargetModel) (b l p m : Bool) → b ≡ ask_to_test flags t.test l p m → (IsTrue l ↔ IsLibrary t) → (IsTrue p ↔ Contains t.kind kinds.Bin)
    → (IsTrue m ↔ Contains t.kind kinds.Bench) → IsTrue b ↔ AsksFor flags t modes.Test
test_told flags t b l p m is library program benchmark =
    (λ yes. test_from flags t l p m library program benchmark (sym is ∙ yes), λ asks. is ∙ test_to flags t l p m library program benchmark asks)
