-- What rustc says of a machine: the lines that `rustc --print cfg` prints, each a word, or a key with its string (Rust
-- Reference, "Conditional compilation").
use Rattle.std.specs.Prelude.{◌≡◌, ℕ, ◌+◌, List, [], ◌∷◌, ◌++◌, Some, slice_get, take, codes}
use Rattle.std.specs.Str.Lines.{lines}
use Rattle.krates_cm.specs.Document.{Text}
use Rattle.krates_text.specs.CfgGrammar.{IsWord}
use Rattle.krates_text.specs.Cuts.{Lacks}
use Rattle.krates_units.specs.Machines.{MachineModel}

-- the line is KEY="STRING": the key is a word, and the string has no quotation mark
pub record IsPair (line key string : Text) : Type 0 where
  pub is : line ≡ key ++ (codes "=\"" ++ (string ++ codes "\""))
  pub word : IsWord key
  pub plain : Lacks 34 string

-- the lines say these words and these pairs, in order, and nothing else
pub data LinesSay : List Text → List Text → List (Text × Text) → Type 0 where
  nothing : LinesSay [] [] []
  a_word : {line : Text} {lines words : List Text} {pairs : List (Text × Text)}
      → IsWord line → LinesSay lines words pairs → LinesSay (line ∷ lines) (line ∷ words) pairs
  a_pair : {line key string : Text} {lines words : List Text} {pairs : List (Text × Text)}
      → IsPair line key string → LinesSay lines words pairs → LinesSay (line ∷ lines) words ((key, string) ∷ pairs)

-- the line is neither a word nor a pair
pub record IsOther (line : Text) : Type 0 where
  pub no_word : ¬ IsWord line
  pub no_pair : (key string : Text) → ¬ IsPair line key string

-- the machine has this triple, and what rustc printed says its words and its pairs
pub record IsPrinted (triple printed : Text) (m : MachineModel) : Type 0 where
  pub named : m.triple ≡ triple
  pub said : LinesSay (lines printed) m.words m.pairs

-- the line of this number, counted from 1, is neither a word nor a pair, and no line before it is such
pub record IsFirstOther (printed : Text) (number : ℕ) : Type 0 where
  pub before : ℕ  -- how many lines there are before it
  pub counted : number ≡ before + 1
  pub line : Text
  pub here : slice_get (lines printed) before ≡ Some line
  pub other : IsOther line
  pub words : List Text
  pub pairs : List (Text × Text)
  pub said : LinesSay (take before (lines printed)) words pairs
