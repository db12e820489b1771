-- What a path is made of: texts with `/` as the separator, compared as they are written.
use Rattle.std.specs.Prelude.{◌≡◌, ◌≢◌, ◌⊎◌, ℕ, ◌==◌, if◌then◌else◌, List, [], ◌∷◌, ◌++◌, filter, slice_index}
use Rattle.std.specs.Str.{bytes_eq}
use Rattle.std.specs.Path.{slash, root_dir, cur_dir, first_piece, later_pieces, is_name}
use Rattle.krates_text.specs.Text.{BeginsWith}

-- the pieces between the slashes, the first of them before all slashes
abbrev pub pieces : List ℕ → List (List ℕ)
pieces text = first_piece text ∷ later_pieces text

-- the pieces that are neither empty nor `.`
abbrev pub names : List ℕ → List (List ℕ)
names text = filter is_name (pieces text)

-- `/` where the text begins with it, and a `.` that is the first piece
abbrev pub start : List ℕ → List (List ℕ)
start text = if slice_index text 0 == slash then root_dir ∷ [] else (if bytes_eq (first_piece text) cur_dir then cur_dir ∷ [] else [])

-- the components of a path
abbrev pub components : List ℕ → List (List ℕ)
components text = start text ++ names text

-- nothing follows the last component: the part before it has the components before it
pub record EndsWithComponent (text : List ℕ) : Type 0 where
  pub before : List ℕ
  pub last : List ℕ
  pub is : text ≡ before ++ last
  pub parts : components text ≡ components before ++ last ∷ []

-- a path without a component, or the root alone
abbrev pub HasNoParent : List ℕ → Type 0
HasNoParent text = (components text ≡ []) ⊎ (components text ≡ root_dir ∷ [])

-- The text up to the end of its second-last component: a beginning that has all components except the last, and
-- that nothing follows. It is empty where the last component is the only one.
pub record IsParent (text parent : List ℕ) : Type 0 where
  pub begins : BeginsWith parent text
  pub last : List ℕ
  pub not_root : last ≢ root_dir
  pub others : components text ≡ components parent ++ last ∷ []
  pub ends : (parent ≡ []) ⊎ EndsWithComponent parent

-- the components of the end are the last ones of the path
abbrev pub EndsWithPath : List ℕ → List ℕ → Type 0
EndsWithPath path end = (front : List (List ℕ)) × (components path ≡ front ++ components end)

-- the part before a last component that a slash precedes: the root where nothing is left
abbrev pub or_root : List ℕ → List ℕ
or_root [] = root_dir
or_root (byte ∷ rest) = byte ∷ rest

-- the text without what follows its last component, and the part before that component
pub record SplitsLast (text before whole : List ℕ) : Type 0 where
  pub begins : BeginsWith whole text
  pub front : BeginsWith before text
  pub same : components text ≡ components whole
  pub ends : (whole ≡ []) ⊎ EndsWithComponent whole
  pub named : whole ≢ [] → whole ≢ root_dir → (last : List ℕ) × (components whole ≡ components before ++ last ∷ []) × (last ≢ root_dir)
