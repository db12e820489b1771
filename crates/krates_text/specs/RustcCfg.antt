-- A target as rustc describes it: the lines that `rustc --print cfg --target TRIPLE` prints.
use Rattle.std.specs.Prelude.{◌≡◌, ℕ, List, [], ◌∷◌, ◌++◌, codes}
use Rattle.std.specs.Str.Lines.{lines}
use Rattle.krates_text.specs.TargetTable.{Description}

-- the line gives this value to the key: KEY="VALUE"
abbrev pub GivesValue : (key value line : List ℕ) → Type 0
GivesValue key value line = line ≡ key ++ (codes "=\"" ++ (value ++ codes "\""))

-- the line gives the key no value
abbrev pub GivesNone : (key line : List ℕ) → Type 0
GivesNone key line = (value : List ℕ) → GivesValue key value line → ⊥

-- the values that these lines give to a key, in order; the other lines say nothing
pub data AreValuesIn (key : List ℕ) : List (List ℕ) → List (List ℕ) → Type 0 where
  no_line : AreValuesIn key [] []
  gives : {value line : List ℕ} {values rest : List (List ℕ)} → GivesValue key value line → AreValuesIn key rest values → AreValuesIn key (line ∷ rest) (value ∷ values)
  other : {line : List ℕ} {values rest : List (List ℕ)} → GivesNone key line → AreValuesIn key rest values → AreValuesIn key (line ∷ rest) values

-- the values that the lines of a text give to a key
abbrev pub AreValues : (text key : List ℕ) → List (List ℕ) → Type 0
AreValues text key values = AreValuesIn key (lines text) values

-- the last of these, or the empty text
abbrev pub last_or_empty : List (List ℕ) → List ℕ
last_or_empty [] = []
last_or_empty (value ∷ []) = value
last_or_empty (value ∷ next ∷ values) = last_or_empty (next ∷ values)

-- the value that the last line for a key gives it, or the empty text
pub record IsLastValue (text key value : List ℕ) : Type 0 where
  pub values : List (List ℕ)
  pub are : AreValues text key values
  pub last : value ≡ last_or_empty values

-- what the text says of the target whose triple was asked about, and which target features it says are enabled
pub record IsDescribedBy (asked text : List ℕ) (d : Description) (enabled : List (List ℕ)) : Type 0 where
  pub triple : d.triple ≡ asked
  pub arch : IsLastValue text (codes "target_arch") d.arch
  pub os : IsLastValue text (codes "target_os") d.os
  pub env : IsLastValue text (codes "target_env") d.env
  pub abi : IsLastValue text (codes "target_abi") d.abi
  pub vendor : IsLastValue text (codes "target_vendor") d.vendor
  pub pointer_width : IsLastValue text (codes "target_pointer_width") d.pointer_width
  pub endian : IsLastValue text (codes "target_endian") d.endian
  pub panic : IsLastValue text (codes "panic") d.panic
  pub families : AreValues text (codes "target_family") d.families
  pub atomics : AreValues text (codes "target_has_atomic") d.atomics
  pub features : AreValues text (codes "target_feature") enabled
