-- Lines that wait to be written, the next one first. Each would be in its place after the lines so far, and none is deeper than the one
-- before it, so that it still is once that one is written.
use Rattle.std.proofs.Common.{◌≡◌, ℕ, ◌+◌, ◌≤◌, true, List, [], ◌∷◌, ◌++◌, map, Option, Some, None, append_assoc, refl, ap, ◌∙◌, inl, inr, arith}
use Rattle.std.proofs.lemmas.List.Elements.{All-nil, All-push}
use Rattle.std.specs.Bool.{⊤}
use Rattle.krates_rules.proofs.Members.{Member}
use Rattle.krates_answers.specs.Tree.{IsInPlace, StandsBelow, line_below, root_line}
use Rattle.krates_answers.specs.declared.tree.TreeLine.{TreeLine}

-- the line's crate is reached, and it would be in its place after the lines
pub record Waits (Reached : ℕ → Type 0) (lines : List TreeLine) (line : TreeLine) : Type 0 where
  pub reached : Reached line.krate
  pub in_place : IsInPlace lines line.depth line.parent

-- each of the lines does, none is deeper than the one before it, and the first not deeper than this
abbrev pub AllWait : (ℕ → Type 0) → List TreeLine → ℕ → List TreeLine → Type 0
AllWait Reached lines depth [] = ⊤
AllWait Reached lines depth (x ∷ xs) = (x.depth ≤ depth) × Waits Reached lines x × AllWait Reached lines x.depth xs

pub AllWait-deeper : (Reached : ℕ → Type 0) (lines : List TreeLine) (depth more : ℕ) (xs : List TreeLine) → depth ≤ more → AllWait Reached lines depth xs → AllWait Reached lines more xs
AllWait-deeper Reached lines depth more [] le h = tt
AllWait-deeper Reached lines depth more (x ∷ xs) le h = (omega (arith, h.0, le), h.1, h.2)

-- ---- a line at least as deep is written

in_place_more : (before : List TreeLine) (line : TreeLine) (depth : ℕ) (parent : Option ℕ) → depth ≤ line.depth → IsInPlace before depth parent → IsInPlace (before ++ line ∷ []) depth parent
in_place_more before line depth None le h = h
in_place_more before line depth (Some p) le h = record {
  front = h.front;
  above = h.above;
  between = h.between ++ line ∷ [];
  split = ap (λ (zs : List TreeLine). zs ++ line ∷ []) h.split ∙ append_assoc h.front (h.above ∷ h.between) (line ∷ []);
  is = h.is;
  opens = h.opens;
  deeper = h.deeper;
  inside = All-push (λ (other : TreeLine). depth ≤ other.depth) h.between line h.inside le;
}

pub AllWait-more : (Reached : ℕ → Type 0) (lines : List TreeLine) (line : TreeLine) (depth : ℕ) (xs : List TreeLine) → depth ≤ line.depth → AllWait Reached lines depth xs → AllWait Reached (lines ++ line ∷ []) depth xs
AllWait-more Reached lines line depth [] le h = tt
AllWait-more Reached lines line depth (x ∷ xs) le h = (
  h.0,
  record { reached = h.1.reached; in_place = in_place_more lines line x.depth x.parent (omega (arith, h.0, le)) h.1.in_place },
  AllWait-more Reached lines line x.depth xs (omega (arith, h.0, le)) h.2,
)

-- ---- new lines

stands_last : (lines : List TreeLine) (line : TreeLine) → line.is_opened ≡ true → StandsBelow (lines ++ line ∷ []) line.krate (line.depth + 1)
stands_last lines line opened = record {
  front = lines;
  above = line;
  between = [];
  split = refl;
  is = refl;
  opens = opened;
  deeper = refl;
  inside = All-nil (λ (other : TreeLine). line.depth + 1 ≤ other.depth);
}

-- those below a line that was opened last wait before the others
pub AllWait-below : (Reached : ℕ → Type 0) (lines : List TreeLine) (line : TreeLine) → line.is_opened ≡ true → (cs : List ℕ) (depth : ℕ) (rest : List TreeLine) → line.depth + 1 ≤ depth → ((c : ℕ) → Member cs c → Reached c)
    → AllWait Reached (lines ++ line ∷ []) line.depth rest → AllWait Reached (lines ++ line ∷ []) depth (map (line_below line) cs ++ rest)
AllWait-below Reached lines line opened [] depth rest le reached h = AllWait-deeper Reached (lines ++ line ∷ []) line.depth depth rest (omega (arith, le)) h
AllWait-below Reached lines line opened (c ∷ cs) depth rest le reached h = (
  le,
  record { reached = reached c (inl refl); in_place = stands_last lines line opened },
  AllWait-below Reached lines line opened cs (line.depth + 1) rest (omega arith) (λ d m. reached d (inr m)) h,
)

pub AllWait-roots : (Reached : ℕ → Type 0) (depth : ℕ) (cs : List ℕ) → ((c : ℕ) → Member cs c → Reached c) → AllWait Reached [] depth (map root_line cs)
AllWait-roots Reached depth [] reached = tt
AllWait-roots Reached depth (c ∷ cs) reached =
    (omega arith, record { reached = reached c (inl refl); in_place = refl }, AllWait-roots Reached 0 cs (λ d m. reached d (inr m)))
