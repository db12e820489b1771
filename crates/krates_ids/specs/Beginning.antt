-- How a text begins, as one number.
use Rattle.std.specs.Prelude.{◌≡◌, ℕ, zero, suc, ◌+◌, ◌*◌, ◌<◌, get_or}
use Rattle.krates_cm.specs.Document.{Text}

-- the first bytes, as many as the number says, the first of them the most significant; past the end of the text they are zeros
abbrev pub beginning : ℕ → Text → ℕ
beginning zero t = 0
beginning (suc n) t = beginning n t * 256 + get_or t n 0

-- the number is that of the first eight bytes
pub record IsBeginning (t : Text) (number : ℕ) : Type 0 where
  pub is : number ≡ beginning 8 t
  pub bytes : (k : ℕ) → get_or t k 0 < 256
