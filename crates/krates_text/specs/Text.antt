-- What a text contains, and where.
use Rattle.std.specs.Prelude.{◌≡◌, ◌≢◌, ℕ, ◌≤◌, List, ◌++◌, length}

-- the text begins with these bytes
pub record BeginsWith (start text : List ℕ) : Type 0 where
  pub rest : List ℕ
  pub is : text ≡ start ++ rest

-- the separator is nowhere in the text
abbrev pub LacksText : List ℕ → List ℕ → Type 0
LacksText separator text = (before after : List ℕ) → text ≢ before ++ (separator ++ after)

-- the separator is in the text between these two parts, and nowhere earlier
pub record IsCutAtFirst (separator text before after : List ℕ) : Type 0 where
  pub is : text ≡ before ++ (separator ++ after)
  pub first : (earlier rest : List ℕ) → text ≡ earlier ++ (separator ++ rest) → length before ≤ length earlier
