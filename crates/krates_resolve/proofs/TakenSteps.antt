-- The step of a crate or a feature that was taken.
use Rattle.std.proofs.Common.{◌≡◌, ℕ, ◌<◌, List, Some, get_or, length, sym, ap, ◌∙◌, subst, arith}
use Rattle.std.proofs.lemmas.Option.{get_or_from_slice_get, slice_get_within}
use Rattle.std.specs.List.{AllZip, slice_get}
use Rattle.krates_rules.proofs.Readings.{right_of}

-- next to what was put at a place is the number of its step
pub taken_step : (R : ℕ → ℕ → Type 0) (put steps : List ℕ) (k t at n : ℕ) → AllZip R put steps → slice_get put k ≡ Some t → at ≡ k → n ≡ get_or steps at n → R t n
taken_step R put steps k t at n z here same is =
    let w = right_of R put steps k t z here in
    let read : n ≡ w.0 = is ∙ ap (λ (j : ℕ). get_or steps j n) same ∙ get_or_from_slice_get steps k w.0 n w.1 in
    subst (R t) (sym read) w.2

-- it has a step
pub taken_within : (R : ℕ → ℕ → Type 0) (put steps : List ℕ) (k t at : ℕ) → AllZip R put steps → slice_get put k ≡ Some t → at ≡ k → at < length steps
taken_within R put steps k t at z here same =
    let w = right_of R put steps k t z here in
    omega (arith, slice_get_within steps k w.0 w.1, same)
