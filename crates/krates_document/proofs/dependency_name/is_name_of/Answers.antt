use Rattle.std.proofs.Common.{◌≡◌, ◌<◌, ◌↔◌, ℕ, zero, suc, Bool, true, false, List, [], ◌∷◌, length, zip, refl, arith, rules, tests, IsTrue, MatchBool, HoldsAt}
use Rattle.std.proofs.lemmas.Iterator.{cases_from_all, YieldsList-from_slice, YieldsList-from_zip}
use Rattle.std.proofs.lemmas.List.Elements.{length_all_zip}
use Rattle.std.specs.List.{AllZip, AllWithin}
use Rattle.krates_rules.specs.DependencyName.{IsByteOf}
use Rattle.krates_document.proofs.dependency_name.is_name_of.Goals as goal

abbrev PairFits : ℕ × ℕ → Type 0
PairFits p = IsByteOf p.0 p.1

abbrev PairFails : ℕ × ℕ → Type 0
PairFails p = IsByteOf p.0 p.1 → ⊥

all_fit : (xs ys : List ℕ) → length xs ≡ length ys → AllWithin PairFits (zip xs ys) 0 (length (zip xs ys)) → AllZip IsByteOf xs ys
all_fit [] [] same h = tt
all_fit [] (y ∷ ys) same h = absurd (omega arith)
all_fit (x ∷ xs) [] same h = absurd (omega arith)
all_fit (x ∷ xs) (y ∷ ys) same h =
    (h zero (x, y) (omega arith) (omega arith), all_fit xs ys (omega arith) (λ k d low high. h (suc k) d (omega arith) (omega arith)))

one_fails : (xs ys : List ℕ) (k : ℕ) → k < length (zip xs ys) → HoldsAt PairFails (zip xs ys) k → AllZip IsByteOf xs ys → ⊥
one_fails [] ys k lt h z = omega arith
one_fails (x ∷ xs) [] k lt h z = z
one_fails (x ∷ xs) (y ∷ ys) zero lt h z = h (x, y) z.0
one_fails (x ∷ xs) (y ∷ ys) (suc k) lt h z = one_fails xs ys k (omega arith) h z.1

answered : (r : Bool) (xs ys : List ℕ) → length xs ≡ length ys
    → MatchBool r (AllWithin PairFits (zip xs ys) 0 (length (zip xs ys))) ((k : ℕ) × (k < length (zip xs ys)) × HoldsAt PairFails (zip xs ys) k)
    → IsTrue r ↔ AllZip IsByteOf xs ys
answered true xs ys same h = (λ _. all_fit xs ys same h, λ _. refl)
answered false xs ys same h = (λ t. absurd cc, λ z. absurd (one_fails xs ys h.0 h.1 h.2 z))

pub returns-then-resolved-declared : goal.returns-then-resolved-declared
returns-then-resolved-declared c =
    let same : length c.args.resolved.now ≡ length c.args.declared.now = search rules in
    answered c.all.result c.args.resolved.now c.args.declared.now same
    (cases_from_all c.all.new.self _ c.all.result PairFits PairFails c.all.ensures.ran
    (YieldsList-from_zip (YieldsList-from_slice c.args.resolved.now (cc)) (YieldsList-from_slice c.args.declared.now (cc)))
    (λ x q k. search (rules, tests)) (λ x q k. search (rules, tests)))

pub returns-else-resolved-declared : goal.returns-else-resolved-declared
returns-else-resolved-declared c =
    let apart : length c.args.resolved.now ≡ length c.args.declared.now → ⊥ = search rules in
    (λ t. absurd (apart (search (rules, tests))), λ z. absurd (apart (length_all_zip IsByteOf c.args.resolved.now c.args.declared.now z)))
