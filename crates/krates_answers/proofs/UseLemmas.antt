-- Whether a crate is kept, by what a look-up of its number answers.
use Rattle.std.proofs.Common.{◌≡◌, ◌↔◌, ℕ, true, false, Option, Some, None, is_some, refl}
use Rattle.krates_queries.specs.Kept.{KeptCrates, IsNotKept, ids_of}
use Rattle.krates_rules.specs.Facts.{Id}
use Rattle.krates_rules.specs.Resolved.{StandsAt}
use Rattle.krates_answers.specs.CrateUses.{IsKept}

-- the answer is the number of the crate with the id
abbrev pub FindsNumber : {N E : Type 0} → KeptCrates N E → Id → Option ℕ → Type 0
FindsNumber k id found = (n : ℕ) → (found ≡ Some n) ↔ StandsAt (ids_of k) id n

pub kept_from_some : {N E : Type 0} (k : KeptCrates N E) (id : Id) (found : Option ℕ) → FindsNumber k id found → is_some found ≡ true → IsKept k id
kept_from_some k id None finds some = absurd cc
kept_from_some k id (Some n) finds some = record { number = n; stands = (finds n).0 refl }

pub not_kept_from_none : {N E : Type 0} (k : KeptCrates N E) (id : Id) (found : Option ℕ) → FindsNumber k id found → is_some found ≡ false → IsNotKept k id
not_kept_from_none k id None finds nothing n stands = let found : None ≡ Some n = (finds n).1 stands in absurd cc
not_kept_from_none k id (Some m) finds nothing n stands = absurd cc
