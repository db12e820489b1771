-- A tree of which no line is left to be written.
use Rattle.std.proofs.Common.{◌≡◌, ℕ, Bool, true, false, cond, List, [], length, All, Option, Some, None, Contains, append-nil, refl, sym, ap, ◌∙◌, subst, inl, inr, arith}
use Rattle.std.proofs.lemmas.Bool.{cases_lt}
use Rattle.std.proofs.lemmas.List.{get_or_past}
use Rattle.std.specs.List.Sorted.{IsStrictlyIncreasing}
use Rattle.krates_drawing.specs.Paths.{begins, goes_on}
use Rattle.krates_answers.specs.DirectLinks.{IsListed}
use Rattle.krates_answers.specs.Tree.{IsTree, crates_below, crates_in, list_of}
use Rattle.krates_answers.specs.declared.tree.TreeLine.{TreeLine}
use Rattle.krates_answers.proofs.EachAfter.{EachAfter-at}
use Rattle.krates_answers.proofs.LinesBelow.{crates_below-within}
use Rattle.krates_answers.proofs.TreeNumbers.{IsListed-from_among, among_listed, in_nothing}
use Rattle.krates_answers.proofs.TreeSoFar.{IsReached, IsTreeSoFar, IsWritten, is_marked, whole_below}

ascending_nothing : IsStrictlyIncreasing []
ascending_nothing k lt = absurd (omega (arith, lt))

list_ascends : (lists : List (List ℕ)) → All IsStrictlyIncreasing lists → (n : ℕ) → IsStrictlyIncreasing (list_of lists n)
list_ascends lists ascending n = elim (cases_lt n (length lists)) [
  | inl lt ↦ ascending n [] lt
  | inr past ↦ subst IsStrictlyIncreasing (sym (get_or_past lists n [] past)) ascending_nothing
]

whole_ascends : (list : List ℕ) (t : Bool) → IsStrictlyIncreasing list → IsStrictlyIncreasing (cond t list [])
whole_ascends list true h = h
whole_ascends list false h = ascending_nothing

-- what is below a crate, by its mark
among_whole : (lists : List (List ℕ)) (p c : ℕ) (t : Bool) → Contains (cond t (list_of lists p) []) c → (t ≡ true) × IsListed lists p c
among_whole lists p c true among = (refl, IsListed-from_among lists p c among)
among_whole lists p c false among = absurd (in_nothing c among)

-- what is reached is written, where the roots are, and all to which a written crate leads
all_written : (lists : List (List ℕ)) (roots : List ℕ) (lines : List TreeLine) → crates_below None lines ≡ roots → ((p c : ℕ) → Contains (crates_in lines) p → IsListed lists p c → Contains (crates_below (Some p) lines) c)
    → (n : ℕ) → IsReached lists roots n → Contains (crates_in lines) n
all_written lists roots lines top below _ (begins {n} start) = crates_below-within None lines n (subst (λ (ns : List ℕ). Contains ns n) (sym top) start)
all_written lists roots lines top below _ (goes_on {n} {m} before leads) = crates_below-within (Some n) lines m (below n m (all_written lists roots lines top below n before) leads)

pub tree_ends : (lists : List (List ℕ)) (roots : List ℕ) (marks : List Bool) (lines : List TreeLine) → All IsStrictlyIncreasing lists → IsTreeSoFar lists roots marks lines [] → IsTree (IsListed lists) roots lines
tree_ends lists roots marks lines ascending so =
    let whole : (o : Option ℕ) → crates_below o lines ≡ whole_below lists roots marks o = λ o. sym (append-nil (crates_below o lines)) ∙ so.below o in
    let stands : (p c : ℕ) → Contains (crates_in lines) p → IsListed lists p c → Contains (crates_below (Some p) lines) c = λ p c seen leads.
    subst (λ (ns : List ℕ). Contains ns c) (sym (whole (Some p) ∙ ap (λ (t : Bool). cond t (list_of lists p) []) ((so.seen p).1 seen))) (among_listed lists p c leads) in
    record {
      top = whole None;
      below = λ p c. (
        λ among.
            (let w = among_whole lists p c (is_marked marks p) (subst (λ (ns : List ℕ). Contains ns c) (whole (Some p)) among) in
            ((so.seen p).0 w.0, w.1)),
        λ h. stands p c h.0 h.1,
      );
      ascending = λ p. subst IsStrictlyIncreasing (sym (whole (Some p))) (whole_ascends (list_of lists p) (is_marked marks p) (list_ascends lists ascending p));
      reached = λ n. (so.reached n, all_written lists roots lines (whole None) stands n);
      opened = λ i line at. (EachAfter-at IsWritten [] lines i line so.written at).opened;
      in_place = λ i line at. (EachAfter-at IsWritten [] lines i line so.written at).in_place;
    }
