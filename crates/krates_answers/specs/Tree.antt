-- A tree of crates as lines, each crate opened once.
use Rattle.std.specs.Prelude.{◌≡◌, ◌↔◌, ◌≤◌, ◌+◌, ℕ, true, false, List, [], ◌∷◌, ◌++◌, All, Contains, IsTrue, Option, Some, None, filter, length, map, nat_eq, nat_lt, slice_get, slice_index_or, take}
use Rattle.std.specs.List.Sorted.{IsStrictlyIncreasing}
use Rattle.std.specs.Option.{option_eq}
use Rattle.krates_drawing.specs.Paths.{Reaches}
use Rattle.krates_answers.specs.declared.tree.TreeLine.{TreeLine}

-- the crates of the lines
abbrev pub crates_in : List TreeLine → List ℕ
crates_in lines = map (λ line. line.krate) lines

-- the crates of the lines that have this parent, or none
abbrev pub crates_below : Option ℕ → List TreeLine → List ℕ
crates_below parent lines = crates_in (filter (λ line. option_eq nat_eq line.parent parent) lines)

-- One of these lines opens the crate p and is one less deep than this depth, and all lines after it are at least as deep.
pub record StandsBelow (before : List TreeLine) (p depth : ℕ) : Type 0 where
  pub front : List TreeLine
  pub above : TreeLine
  pub between : List TreeLine
  pub split : before ≡ front ++ above ∷ between
  pub is : above.krate ≡ p
  pub opens : above.is_opened ≡ true
  pub deeper : depth ≡ above.depth + 1
  pub inside : All (λ other. depth ≤ other.depth) between

-- after these lines, a line of this depth without a parent is at the margin, and one with a parent is below the line that opens it
abbrev pub IsInPlace : List TreeLine → ℕ → Option ℕ → Type 0
IsInPlace before depth None = depth ≡ 0
IsInPlace before depth (Some p) = StandsBelow before p depth

-- The lines are a tree below these roots. The lines without a parent are those of the roots. Below each crate that has a line are
-- the crates to which it leads, each once and ascending, and below no other. What has a line is what is reached from the roots. Of the lines of
-- a crate only the first is opened. Each line is in its place.
pub record IsTree (Leads : ℕ → ℕ → Type 0) (roots : List ℕ) (lines : List TreeLine) : Type 0 where
  pub top : crates_below None lines ≡ roots
  pub below : (p c : ℕ) → Contains (crates_below (Some p) lines) c ↔ (Contains (crates_in lines) p × Leads p c)
  pub ascending : (p : ℕ) → IsStrictlyIncreasing (crates_below (Some p) lines)
  pub reached : (n : ℕ) → Contains (crates_in lines) n ↔ Reaches Leads (Contains roots) n
  pub opened : (i : ℕ) (line : TreeLine) → slice_get lines i ≡ Some line
      → (IsTrue line.is_opened ↔ (Contains (crates_in (take i lines)) line.krate → ⊥))
  pub in_place : (i : ℕ) (line : TreeLine) → slice_get lines i ≡ Some line → IsInPlace (take i lines) line.depth line.parent

-- the roots that a crate has
abbrev pub roots_among : List (List ℕ) → List ℕ → List ℕ
roots_among lists roots = filter (λ n. nat_lt n (length lists)) roots

-- ---- steps

-- the list of a number, empty where there is none
abbrev pub list_of : List (List ℕ) → ℕ → List ℕ
list_of lists n = slice_index_or lists n []

-- the line of a root, before it is known whether it is opened
abbrev pub root_line : ℕ → TreeLine
root_line n = record { depth = 0; krate = n; parent = None; is_opened = false }

-- the line of a crate below another line, before it is known whether it is opened
abbrev pub line_below : TreeLine → ℕ → TreeLine
line_below line n = record { depth = line.depth + 1; krate = n; parent = Some line.krate; is_opened = false }
