-- What an agenda is after one more number was put, and what its marks say.
use Rattle.std.proofs.Common.{◌≡◌, ◌≢◌, ℕ, zero, suc, ◌+◌, ◌<◌, ◌≤◌, ◌==◌, List, [], ◌∷◌, ◌++◌, Bool, true, false, cond, ◌||◌, length, get_or, set, replicate, refl, sym, ◌∙◌, inl, inr, arith, length-append}
use Rattle.std.specs.List.{Contains, count_by, list_any}
use Rattle.std.proofs.lemmas.Bool.{cases_lt, eqb-true}
use Rattle.std.proofs.lemmas.Bool.Decides.{eqb_tells}
use Rattle.std.proofs.lemmas.List.{get_or-replicate, get_or-set_same, get_or-set_other, get_or_past}
use Rattle.std.proofs.lemmas.List.Elements.{All-push, All-nil}
use Rattle.std.proofs.lemmas.List.Folds.{Any-from_list_any, list_any-append, list_any_at, sum_by-replicate}
use Rattle.std.proofs.lemmas.List.Quantifiers.{all_pairs_push}
use Rattle.std.proofs.lemmas.List.Sums.{count_by-le-length, sum_by-set}
use Rattle.std.proofs.Math.ListN.{length-set, length-replicate}
use Rattle.krates_graph.specs.Agenda.{IsMarked}

-- whether a number is among those that were put
abbrev is_among : List ℕ → ℕ → Bool
is_among put number = list_any (λ other. other == number) put

eqb_same : (n : ℕ) → (n == n) ≡ true
eqb_same n = elim (eqb_tells n n) [ inl w ↦ w.0 | inr w ↦ absurd (w.1 refl) ]

pub Contains-from_among : (put : List ℕ) (number : ℕ) → is_among put number ≡ true → Contains put number
Contains-from_among put number h =
    let found = Any-from_list_any (λ other. other == number) put h in
    let same : found.1 ≡ number = eqb-true found.1 number found.4 in
    (found.0, found.2, rw same at found.3)

pub not_Contains-from_among : (put : List ℕ) (number : ℕ) → is_among put number ≡ false → Contains put number → ⊥
not_Contains-from_among put number h w =
    let same : (get_or put w.0 number == number) ≡ true = rw w.2 (eqb_same number) in
    let found = list_any_at (λ other. other == number) put w.0 number w.1 same in
    cc

-- the marks after one more number was put
marked-push : (marks : List Bool) (put : List ℕ) (n : ℕ) → n < length marks
    → ((number : ℕ) → get_or marks number false ≡ is_among put number)
    → (number : ℕ) → get_or (set marks n true) number false ≡ is_among (put ++ n ∷ []) number
marked-push marks put n within h number =
    rw (list_any-append (λ other. other == number) put (n ∷ []))
    (elim (eqb_tells n number) [
      | inl w ↦ rw (w.0, ← w.1, get_or-set_same marks n true false within) (sym (or-true (is_among put n)))
      | inr w ↦
          let other : number ≢ n = λ same. w.1 (sym same) in
          rw (w.0, get_or-set_other marks n number true false other) (h number ∙ sym (or-false (is_among put number)))
    ])
  where
    or-true : (b : Bool) → (b || true) ≡ true
    or-true true = refl
    or-true false = refl

    or-false : (b : Bool) → (b || false) ≡ b
    or-false true = refl
    or-false false = refl

-- one more mark raises the count by one
count_by-mark : (marks : List Bool) (n : ℕ) → n < length marks → get_or marks n false ≡ false
    → count_by (λ mark. mark) (set marks n true) ≡ count_by (λ mark. mark) marks + 1
count_by-mark marks n within unmarked =
    let counts = sum_by-set (λ (mark : Bool). cond mark 1 0) marks n true false within in
    let before = rw unmarked at counts in
    omega (arith, before)

-- while a number has no mark there is room for it
pub room_for : (marks : List Bool) (put : List ℕ) (taken capacity n : ℕ) → IsMarked marks put taken capacity
    → n < length marks → get_or marks n false ≡ false → length put < capacity
room_for marks put taken capacity n h within unmarked =
    omega (arith, h.counted, h.room, count_by-mark marks n within unmarked, count_by-le-length (λ mark. mark) (set marks n true), length-set marks n true)

pub IsMarked-push : (marks : List Bool) (put : List ℕ) (taken capacity more n : ℕ) → IsMarked marks put taken capacity → capacity ≤ more
    → n < length marks → get_or marks n false ≡ false → IsMarked (set marks n true) (put ++ n ∷ []) taken more
IsMarked-push marks put taken capacity more n h grown within unmarked =
    let counts : length (put ++ n ∷ []) ≡ count_by (λ mark. mark) (set marks n true) =
    omega (arith, h.counted, count_by-mark marks n within unmarked, length-append put (n ∷ [])) in
    let size : length (set marks n true) ≡ length marks = length-set marks n true in
    let fresh : (k : ℕ) (d : ℕ) → k < length put → get_or put k d ≢ n = λ k d lt same.
    let found = list_any_at (λ other. other == n) put k d lt (rw same (eqb_same n)) in
    let mark = h.marked n in
    cc in
    record {
      room = omega (arith, h.room, size);
      counted = counts;
      marked = marked-push marks put n within h.marked;
      orderly = record {
        distinct = all_pairs_push (λ a b. a ≢ b) put n h.orderly.distinct fresh;
        below = rw size (All-push (λ number. number < length marks) put n h.orderly.below within);
        within = omega (arith, counts, count_by-le-length (λ mark. mark) (set marks n true));
        reached = omega (arith, h.orderly.reached, length-append put (n ∷ []));
      };
    }

-- the agenda after one more number was taken
pub IsMarked-take : (marks : List Bool) (put : List ℕ) (taken capacity : ℕ) → IsMarked marks put taken capacity
    → taken < length put → IsMarked marks put (taken + 1) capacity
IsMarked-take marks put taken capacity h more = record {
  room = h.room;
  counted = h.counted;
  marked = h.marked;
  orderly = record { distinct = h.orderly.distinct; below = h.orderly.below; within = h.orderly.within; reached = omega (arith, more) };
}

-- an agenda with no numbers
pub IsMarked-nil : (size capacity : ℕ) → size ≤ capacity → IsMarked (replicate size false) [] 0 capacity
IsMarked-nil size capacity fits =
    let len : length (replicate size false) ≡ size = length-replicate size false in
    record {
      room = omega (arith, len);
      counted = sym (sum_by-replicate (λ (mark : Bool). cond mark 1 0) size false ∙ omega arith);
      marked = λ number. elim (cases_lt number size) [
        | inl lt ↦ get_or-replicate size number false false lt
        | inr past ↦ get_or_past (replicate size false) number false (omega (arith, len))
      ];
      orderly = record { distinct = λ i j d before after. absurd (omega arith); below = All-nil (λ number. number < length (replicate size false)); within = omega arith; reached = omega arith };
    }

-- the mark that was read, whatever is returned past the marks
pub mark_read : (marks : List Bool) (n : ℕ) (mark : Bool) → n < length marks → mark ≡ get_or marks n mark → get_or marks n false ≡ mark
mark_read [] n mark within read = absurd (omega arith)
mark_read (x ∷ marks) zero mark within read = sym read
mark_read (x ∷ marks) (suc n) mark within read = mark_read marks n mark (omega arith) read

-- a number with a mark was put before
pub Contains-from_mark : (marks : List Bool) (put : List ℕ) (taken capacity n : ℕ) → IsMarked marks put taken capacity
    → get_or marks n false ≡ true → Contains put n
Contains-from_mark marks put taken capacity n h mark = Contains-from_among put n (sym (h.marked n) ∙ mark)
