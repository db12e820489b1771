-- A tree that is being written: what holds of the lines so far, of the marks of the crates that are opened, and of the lines that wait.
use Rattle.std.proofs.Common.{◌≡◌, ◌↔◌, ℕ, Bool, true, false, cond, List, [], ◌++◌, map, length, get_or, replicate, Option, Some, None, Contains, IsTrue, refl, sym, ap, ◌∙◌, inl, inr, arith}
use Rattle.std.proofs.lemmas.Bool.{cases_lt, false≢true}
use Rattle.std.proofs.lemmas.List.{get_or-replicate, get_or_past, length-replicate}
use Rattle.krates_rules.proofs.Members.{contains_of}
use Rattle.krates_drawing.specs.Paths.{Reaches, begins}
use Rattle.krates_answers.specs.DirectLinks.{IsListed}
use Rattle.krates_answers.specs.Tree.{IsInPlace, crates_below, crates_in, list_of, root_line}
use Rattle.krates_answers.specs.declared.tree.TreeLine.{TreeLine}
use Rattle.krates_answers.proofs.EachAfter.{EachAfter}
use Rattle.krates_answers.proofs.LinesBelow.{crates_below-all, crates_below-none}
use Rattle.krates_answers.proofs.TreeNumbers.{in_nothing}
use Rattle.krates_answers.proofs.WaitingLines.{AllWait, AllWait-roots}

-- whether the crate is opened
abbrev pub is_marked : List Bool → ℕ → Bool
is_marked marks n = get_or marks n false

-- all that has to be below a parent: the roots below none, what it leads to below a crate that is opened
abbrev pub whole_below : List (List ℕ) → List ℕ → List Bool → Option ℕ → List ℕ
whole_below lists roots marks None = roots
whole_below lists roots marks (Some p) = cond (is_marked marks p) (list_of lists p) []

-- the line is opened if it is the first of its crate, and is in its place
pub record IsWritten (before : List TreeLine) (line : TreeLine) : Type 0 where
  pub opened : IsTrue line.is_opened ↔ (Contains (crates_in before) line.krate → ⊥)
  pub in_place : IsInPlace before line.depth line.parent

-- what is reached
abbrev pub IsReached : List (List ℕ) → List ℕ → ℕ → Type 0
IsReached lists roots = Reaches (IsListed lists) (Contains roots)

-- The lines so far are written, and those that are left wait: together they have all that has to be below each parent, in its order.
-- The crates of the lines so far are those with a mark, and are reached.
pub record IsTreeSoFar (lists : List (List ℕ)) (roots : List ℕ) (marks : List Bool) (lines left : List TreeLine) : Type 0 where
  pub long : length marks ≡ length lists
  pub below : (o : Option ℕ) → crates_below o lines ++ crates_below o left ≡ whole_below lists roots marks o
  pub seen : (n : ℕ) → (is_marked marks n ≡ true) ↔ Contains (crates_in lines) n
  pub written : EachAfter IsWritten [] lines
  pub reached : (n : ℕ) → Contains (crates_in lines) n → IsReached lists roots n
  pub waits : AllWait (IsReached lists roots) lines (length lines) left

-- ---- at the start

none_marked : (count n : ℕ) → is_marked (replicate count false) n ≡ false
none_marked count n = elim (cases_lt n count) [
  | inl lt ↦ get_or-replicate count n false false lt
  | inr past ↦ get_or_past (replicate count false) n false (omega (arith, length-replicate count false))
]

roots_below : (lists : List (List ℕ)) (roots : List ℕ) (o : Option ℕ) → crates_below o (map root_line roots) ≡ whole_below lists roots (replicate (length lists) false) o
roots_below lists roots None = crates_below-all None root_line (λ c. refl) (λ c. refl) roots
roots_below lists roots (Some p) =
    crates_below-none (Some p) root_line (λ c. refl) roots ∙ sym (ap (λ (t : Bool). cond t (list_of lists p) []) (none_marked (length lists) p))

pub tree_begins : (lists : List (List ℕ)) (roots : List ℕ) → IsTreeSoFar lists roots (replicate (length lists) false) [] (map root_line roots)
tree_begins lists roots = record {
  long = length-replicate (length lists) false;
  below = roots_below lists roots;
  seen = λ n. (λ e. absurd (false≢true (sym (none_marked (length lists) n) ∙ e)), λ c. absurd (in_nothing n c));
  written = tt;
  reached = λ n c. absurd (in_nothing n c);
  waits = AllWait-roots (IsReached lists roots) 0 roots (λ c m. begins {n = c} (contains_of roots c m));
}
