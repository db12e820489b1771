-- What a text holds that is written without an error at each write.
use Rattle.std.specs.Prelude.{◌≡◌, ℕ, List, ◌++◌, ◌⊎◌, Bool, true, false, Option, Some, None, IfSome, string_bytes}
use Rattle.krates_text.specs.declared.text.Text.{Text}

-- these bytes, where nothing is missing
abbrev pub unless_missing : Bool → List ℕ → Option (List ℕ)
unless_missing true bytes = Some bytes
unless_missing false bytes = None

-- what it holds, whether or not something is missing
abbrev pub held : Text → List ℕ
held text = string_bytes text.written

-- what was written, if nothing of it is missing
abbrev pub written : Text → Option (List ℕ)
written text = unless_missing text.is_whole (held text)

-- bytes were added, these if it is known which, and something is missing only where it was before
pub record IsAdded (before : Text) (more : Option (List ℕ)) (after : Text) : Type 0 where
  pub bytes : List ℕ
  pub known : IfSome more (λ m. bytes ≡ m)
  pub added : held after ≡ held before ++ bytes
  pub mark : after.is_whole ≡ before.is_whole

-- nothing was added, which is marked
pub record IsMissed (before after : Text) : Type 0 where
  pub same : held after ≡ held before
  pub mark : after.is_whole ≡ false

-- what a write does: all of it is added, or nothing
abbrev pub Grows : Text → Option (List ℕ) → Text → Type 0
Grows before more after = IsAdded before more after ⊎ IsMissed before after
