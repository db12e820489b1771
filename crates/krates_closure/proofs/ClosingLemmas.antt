-- How what is kept fits together after one more turn, and what it says at the end.
use Rattle.std.proofs.Common.{◌≡◌, ◌≢◌, ℕ, ◌+◌, ◌-◌, ◌*◌, ◌<◌, ◌≤◌, List, [], ◌∷◌, ◌++◌, Some, Bool, true, false, cond, length, get_or, set, replicate, slice_index, sym, ◌∙◌, subst, inl, inr, arith, length-append}
use Rattle.std.specs.List.{All, Contains, count_by, slice_get}
use Rattle.std.proofs.lemmas.Bool.{cases_lt}
use Rattle.std.proofs.lemmas.Bool.Decides.{eqb_tells}
use Rattle.std.proofs.lemmas.List.{get_or-set_same, get_or-set_other, get_or-replicate, get_or_default, get_or_past}
use Rattle.std.proofs.lemmas.List.Elements.{All-contains, Contains-append_left, Contains-append_right, Contains-append_cases, Contains-push, Contains-push_cases}
use Rattle.std.proofs.lemmas.List.Folds.{sum_by-replicate}
use Rattle.std.proofs.lemmas.List.Sums.{count_by-le-length, sum_by-set}
use Rattle.std.proofs.lemmas.Option.{slice_get-get_or}
use Rattle.std.proofs.Math.ListN.{length-set, length-replicate}
use Rattle.krates_closure.specs.Clauses.{ClauseModel, NamesBelow}
use Rattle.krates_closure.specs.Closing.{FitsTogether, IsFound, IsInHand, done, to_look_at, waits_for, clause_at, waiting_for}
use Rattle.krates_closure.specs.Closure.{Derivable, by_clause, IsClosure, given_by}
use Rattle.krates_closure.specs.Marks.{AreMarks, HasMark, IsFirstWithout, IsMet, IsMetBefore, LacksMark}
use Rattle.krates_closure.proofs.ClosureLemmas.{Derivable-given, IsDerivation-push, given_by-push}

-- ---- marks

-- a mark stays
pub stays_marked : (marks : List Bool) (fact other : ℕ) → fact < length marks → HasMark marks other → HasMark (set marks fact true) other
stays_marked marks fact other inside h = elim (eqb_tells fact other) [
  | inl w ↦ rw (← w.1) (get_or-set_same marks fact true false inside)
  | inr w ↦ rw (get_or-set_other marks fact other true false (λ (same : other ≡ fact). w.1 (sym same))) h
]

-- one more mark raises the count by one
count_by-mark : (marks : List Bool) (n : ℕ) → n < length marks → LacksMark marks n
    → count_by (λ mark. mark) (set marks n true) ≡ count_by (λ mark. mark) marks + 1
count_by-mark marks n within unmarked =
    let counts = sum_by-set (λ (mark : Bool). cond mark 1 0) marks n true false within in
    let before = rw unmarked at counts in
    omega (arith, before)

replicated : {X : Type 0} → (n i : ℕ) (x : X) → get_or (replicate n x) i x ≡ x
replicated n i x = elim (cases_lt i n) [
  | inl lt ↦ get_or-replicate n i x x lt
  | inr past ↦ get_or_past (replicate n x) i x (omega (arith, length-replicate n x))
]

-- where all premises before a place past the end are marked
pub IsMet-past : (marks : List Bool) (premises : List ℕ) (place : ℕ) → length premises ≤ place → IsMetBefore marks premises place → IsMet marks premises
IsMet-past marks premises place past before premise h =
    let same : get_or premises h.0 0 ≡ premise = get_or_default premises h.0 0 premise h.1 ∙ h.2 in
    subst (λ n. HasMark marks n) same (before h.0 (omega (arith, h.1)) h.1)

-- ---- what is found

-- the clause with a number
pub slice_get-clause_at : (clauses : List ClauseModel) (number : ℕ) → number < length clauses → slice_get clauses number ≡ Some (clause_at clauses number)
slice_get-clause_at clauses number within = slice_get-get_or clauses number (record { premises = []; fact = 0 }) within

-- no more steps than facts
pub steps_within : (clauses : List ClauseModel) (marks : List Bool) (steps : List ℕ) → IsFound clauses marks steps → length steps ≤ length marks
steps_within clauses marks steps h = omega (arith, h.counted, count_by-le-length (λ mark. mark) marks)

IsFound-nil : (clauses : List ClauseModel) (size : ℕ) → IsFound clauses (replicate size false) []
IsFound-nil clauses size = record {
  counted = sym (sum_by-replicate (λ (mark : Bool). cond mark 1 0) size false ∙ omega arith);
  sound = λ fact h. let u = replicated {X = Bool} size fact false in absurd (cc);
  complete = λ fact h. absurd (omega (arith, h.1));
  derivation = λ place step at. absurd (cc);
}

-- one more step is found
IsFound-push : (clauses : List ClauseModel) (marks : List Bool) (steps : List ℕ) (number : ℕ) → IsFound clauses marks steps
    → number < length clauses → (clause_at clauses number).fact < length marks → LacksMark marks (clause_at clauses number).fact
    → IsMet marks (clause_at clauses number).premises
    → IsFound clauses (set marks (clause_at clauses number).fact true) (steps ++ number ∷ [])
IsFound-push clauses marks steps number h within inside unmarked met =
    let clause = clause_at clauses number in
    let fact = clause.fact in
    let at = slice_get-clause_at clauses number within in
    let pushed : given_by clauses (steps ++ number ∷ []) ≡ given_by clauses steps ++ fact ∷ [] = given_by-push clauses steps number clause at in
    record {
      counted = omega (arith, h.counted, count_by-mark marks fact inside unmarked, length-append steps (number ∷ []));
      sound = λ other m. rw pushed (elim (eqb_tells fact other) [
        | inl w ↦ rw (← w.1) (Contains-push (given_by clauses steps) fact)
        | inr w ↦
            let apart : other ≢ fact = λ same. w.1 (sym same) in
            Contains-append_left (given_by clauses steps) (fact ∷ []) other
            (h.sound other (rw (get_or-set_other marks fact other true false apart) at m))
      ]);
      complete = λ other m. elim (eqb_tells fact other) [
        | inl w ↦ rw (← w.1) (get_or-set_same marks fact true false inside)
        | inr w ↦
            let apart : other ≢ fact = λ same. w.1 (sym same) in
            rw (get_or-set_other marks fact other true false apart)
            (elim (Contains-push_cases (given_by clauses steps) fact other (rw pushed at m)) [
              | inl earlier ↦ h.complete other earlier
              | inr same ↦ absurd (w.1 same)
            ])
      ];
      derivation = IsDerivation-push clauses steps number h.derivation (record {
        clause = clause;
        at = at;
        premises = λ premise m. h.sound premise (met premise m);
        fresh = λ given. let marked = h.complete fact given in cc;
      });
    }

-- ---- one turn

-- a clause names only what has a mark
pub NamesBelow-at : (clauses : List ClauseModel) (marks : List Bool) (steps seen : List ℕ) (watchers : List (List ℕ)) (pending : List ℕ) (k : ℕ)
    → FitsTogether clauses marks steps seen watchers pending → k < length clauses → NamesBelow (length marks) (clause_at clauses k)
NamesBelow-at clauses marks steps seen watchers pending k h within = h.below k (record { premises = []; fact = 0 }) within

-- the clause that was read
pub clause_read : (clauses : List ClauseModel) (k index : ℕ) (clause : ClauseModel) → index ≡ k → k < length clauses
    → clause ≡ get_or clauses index clause → clause_at clauses k ≡ clause
clause_read clauses k index clause same within is = get_or_default clauses k (record { premises = []; fact = 0 }) clause within ∙ sym (rw same at is)

-- the mark that was read
pub mark_read : (marks : List Bool) (fact index : ℕ) (mark : Bool) → index ≡ fact → fact < length marks
    → mark ≡ get_or marks index mark → get_or marks fact false ≡ mark
mark_read marks fact index mark same within is = get_or_default marks fact false mark within ∙ sym (rw same at is)

-- the clause has given its fact already
pub FitsTogether-done : (clauses : List ClauseModel) (marks : List Bool) (steps seen : List ℕ) (watchers : List (List ℕ)) (pending : List ℕ) (k : ℕ)
    → FitsTogether clauses marks steps seen watchers (pending ++ k ∷ []) → HasMark marks (clause_at clauses k).fact
    → FitsTogether clauses marks steps seen watchers pending
FitsTogether-done clauses marks steps seen watchers pending k h marked = record {
  below = h.below;
  found = h.found;
  seen_sized = h.seen_sized;
  watchers_sized = h.watchers_sized;
  seen_marked = h.seen_marked;
  pending_below = λ number m. h.pending_below number (Contains-append_left pending (k ∷ []) number m);
  watchers_below = h.watchers_below;
  counted = omega (arith, h.counted, length-append pending (k ∷ []));
  in_hand = λ number within. go number (h.in_hand number within);
}
  where
    go : (number : ℕ) → IsInHand (clause_at clauses number) marks watchers (pending ++ k ∷ []) number
        → IsInHand (clause_at clauses number) marks watchers pending number
    go number (done m) = done m
    go number (to_look_at m) = elim (Contains-push_cases pending k number m) [
      | inl earlier ↦ to_look_at earlier
      | inr same ↦ done (rw (← same) marked)
    ]
    go number (waits_for p a b c) = waits_for p a b c

-- the clause waits for a premise
pub FitsTogether-wait : (clauses : List ClauseModel) (marks : List Bool) (steps seen : List ℕ) (watchers : List (List ℕ)) (pending : List ℕ) (k place p : ℕ)
    → FitsTogether clauses marks steps seen watchers (pending ++ k ∷ [])
    → IsFirstWithout marks (clause_at clauses k).premises place → slice_index (clause_at clauses k).premises place ≡ p
    → FitsTogether clauses marks steps (set seen k place) (set watchers p (waiting_for watchers p ++ k ∷ [])) pending
FitsTogether-wait clauses marks steps seen watchers pending k place p h first is =
    let premises = (clause_at clauses k).premises in
    let among : Contains premises p = (place, first.within, get_or_default premises place p 0 first.within ∙ is) in
    let unmarked : LacksMark marks p = rw is at first.unmarked in
    let named = NamesBelow-at clauses marks steps seen watchers (pending ++ k ∷ []) k h (h.pending_below k (Contains-push pending k)) in
    let below : p < length marks = All-contains (λ premise. premise < length marks) premises p named.premises among in
    let k_below : k < length clauses = h.pending_below k (Contains-push pending k) in
    let k_seen : k < length seen = omega (arith, h.seen_sized) in
    let p_in : p < length watchers = omega (arith, h.watchers_sized) in
    let list = waiting_for watchers p in
    let sums = sum_by-set (λ (l : List ℕ). length l) watchers p (list ++ k ∷ []) [] p_in in
    record {
      below = h.below;
      found = h.found;
      seen_sized = length-set seen k place ∙ h.seen_sized;
      watchers_sized = length-set watchers p (list ++ k ∷ []) ∙ h.watchers_sized;
      seen_marked = λ number within j lt inside. elim (eqb_tells k number) [
        | inl w ↦
            let at : get_or (set seen k place) k 0 ≡ place = get_or-set_same seen k place 0 k_seen in
            let lt_k : j < get_or (set seen k place) k 0 = subst (λ n. j < get_or (set seen k place) n 0) (sym w.1) lt in
            let inside_k : j < length (clause_at clauses k).premises = rw w.1 inside in
            rw (← w.1) (first.before j (omega (arith, at, lt_k)) inside_k)
        | inr w ↦ h.seen_marked number within j (rw (get_or-set_other seen k number place 0 (λ (same : number ≡ k). w.1 (sym same))) at lt) inside
      ];
      pending_below = λ number m. h.pending_below number (Contains-append_left pending (k ∷ []) number m);
      watchers_below = λ fact number m. elim (eqb_tells p fact) [
        | inl w ↦
            let m_p : Contains (waiting_for (set watchers p (list ++ k ∷ [])) p) number = subst (λ n. Contains (waiting_for (set watchers p (list ++ k ∷ [])) n) number) (sym w.1) m in
            elim (Contains-push_cases list k number (rw (get_or-set_same watchers p (list ++ k ∷ []) [] p_in) at m_p)) [
              | inl earlier ↦ h.watchers_below p number earlier
              | inr same ↦ rw (← same) k_below
            ]
        | inr w ↦ h.watchers_below fact number (rw (get_or-set_other watchers p fact (list ++ k ∷ []) [] (λ (same : fact ≡ p). w.1 (sym same))) at m)
      ];
      counted = omega (arith, h.counted, sums, length-append pending (k ∷ []), length-append list (k ∷ []));
      in_hand = λ number within. go among unmarked p_in number (h.in_hand number within);
    }
  where
    go : Contains (clause_at clauses k).premises p → LacksMark marks p → p < length watchers → (number : ℕ)
        → IsInHand (clause_at clauses number) marks watchers (pending ++ k ∷ []) number
        → IsInHand (clause_at clauses number) marks (set watchers p (waiting_for watchers p ++ k ∷ [])) pending number
    go among unmarked p_in number (done m) = done m
    go among unmarked p_in number (to_look_at m) = elim (Contains-push_cases pending k number m) [
      | inl earlier ↦ to_look_at earlier
      | inr same ↦ rw (← same) (waits_for p among unmarked (rw (get_or-set_same watchers p (waiting_for watchers p ++ k ∷ []) [] p_in) (Contains-push (waiting_for watchers p) k)))
    ]
    go among unmarked p_in number (waits_for q a b c) = elim (eqb_tells p q) [
      | inl w ↦
          let c_p : Contains (waiting_for watchers p) number = rw w.1 c in
          waits_for q a b (rw (← w.1, get_or-set_same watchers p (waiting_for watchers p ++ k ∷ []) [] p_in) (Contains-append_left (waiting_for watchers p) (k ∷ []) number c_p))
      | inr w ↦ waits_for q a b (rw (get_or-set_other watchers p q (waiting_for watchers p ++ k ∷ []) [] (λ (same : q ≡ p). w.1 (sym same))) c)
    ]

-- the clause gives its fact
pub FitsTogether-give : (clauses : List ClauseModel) (marks : List Bool) (steps seen : List ℕ) (watchers : List (List ℕ)) (pending : List ℕ) (k f : ℕ)
    → FitsTogether clauses marks steps seen watchers (pending ++ k ∷ []) → (clause_at clauses k).fact ≡ f → f < length marks
    → LacksMark marks f → IsMet marks (clause_at clauses k).premises
    → FitsTogether clauses (set marks f true) (steps ++ k ∷ []) seen (set watchers f []) (pending ++ waiting_for watchers f)
FitsTogether-give clauses marks steps seen watchers pending k f h is inside unmarked met =
    let k_below : k < length clauses = h.pending_below k (Contains-push pending k) in
    let f_in : f < length watchers = omega (arith, h.watchers_sized) in
    let size : length (set marks f true) ≡ length marks = length-set marks f true in
    let sums = sum_by-set (λ (l : List ℕ). length l) watchers f [] [] f_in in
    record {
      below = rw size h.below;
      found = subst (λ n. IsFound clauses (set marks n true) (steps ++ k ∷ [])) is
          (IsFound-push clauses marks steps k h.found k_below (rw is inside) (rw is unmarked) met);
      seen_sized = h.seen_sized;
      watchers_sized = length-set watchers f [] ∙ h.watchers_sized ∙ sym size;
      seen_marked = λ number within j lt in'.
          stays_marked marks f (get_or (clause_at clauses number).premises j 0) inside (h.seen_marked number within j lt in');
      pending_below = λ number m. elim (Contains-append_cases pending (waiting_for watchers f) number m) [
        | inl earlier ↦ h.pending_below number (Contains-append_left pending (k ∷ []) number earlier)
        | inr later ↦ h.watchers_below f number later
      ];
      watchers_below = λ fact number m. elim (eqb_tells f fact) [
        | inl w ↦
            let m_f : Contains (waiting_for (set watchers f []) f) number = subst (λ n. Contains (waiting_for (set watchers f []) n) number) (sym w.1) m in
            let none : Contains [] number = rw (get_or-set_same watchers f [] [] f_in) at m_f in
            absurd (omega (arith, none.1))
        | inr w ↦ h.watchers_below fact number (rw (get_or-set_other watchers f fact [] [] (λ (same : fact ≡ f). w.1 (sym same))) at m)
      ];
      counted = omega (arith, h.counted, sums, length-append pending (k ∷ []), length-append pending (waiting_for watchers f));
      in_hand = λ number within. go inside f_in number (h.in_hand number within);
    }
  where
    go : f < length marks → f < length watchers → (number : ℕ) → IsInHand (clause_at clauses number) marks watchers (pending ++ k ∷ []) number
        → IsInHand (clause_at clauses number) (set marks f true) (set watchers f []) (pending ++ waiting_for watchers f) number
    go inside f_in number (done m) = done (stays_marked marks f (clause_at clauses number).fact inside m)
    go inside f_in number (to_look_at m) = elim (Contains-push_cases pending k number m) [
      | inl earlier ↦ to_look_at (Contains-append_left pending (waiting_for watchers f) number earlier)
      | inr same ↦ rw (← same) (done (rw is (get_or-set_same marks f true false inside)))
    ]
    go inside f_in number (waits_for q a b c) = elim (eqb_tells f q) [
      | inl w ↦
          let c_f : Contains (waiting_for watchers f) number = rw w.1 c in
          to_look_at (Contains-append_right pending (waiting_for watchers f) number c_f)
      | inr w ↦
          let apart : q ≢ f = λ same. w.1 (sym same) in
          waits_for q a (rw (get_or-set_other marks f q true false apart) b) (rw (get_or-set_other watchers f q [] [] apart) c)
    ]

-- fewer turns are left
pub fewer_same : (x k : ℕ) (pending : List ℕ) → x + length pending < x + length (pending ++ k ∷ [])
fewer_same x k pending = omega (arith, length-append pending (k ∷ []))

fewer_numbers : (u v clauses a b : ℕ) → v ≡ u + 1 → a ≤ clauses → u * (clauses + 1) + a < v * (clauses + 1) + b
fewer_numbers u v clauses a b same within = rw same (grind arith)

pub fewer_give : (clauses : List ClauseModel) (marks : List Bool) (steps seen : List ℕ) (watchers : List (List ℕ)) (pending : List ℕ) (k size b : ℕ)
    → FitsTogether clauses marks (steps ++ k ∷ []) seen watchers pending → length marks ≡ size
    → (length marks - length (steps ++ k ∷ [])) * (length clauses + 1) + length pending < (size - length steps) * (length clauses + 1) + b
fewer_give clauses marks steps seen watchers pending k size b h sized =
    fewer_numbers (length marks - length (steps ++ k ∷ [])) (size - length steps) (length clauses) (length pending) b
    (omega (arith, sized, steps_within clauses marks (steps ++ k ∷ []) h.found, length-append steps (k ∷ []))) (omega (arith, h.counted))

-- ---- the start and the end

pub FitsTogether-begin : (clauses : List ClauseModel) (size : ℕ) (pending : List ℕ) → All (NamesBelow size) clauses → length pending ≡ length clauses
    → ((number : ℕ) → Contains pending number → number < length clauses) → ((number : ℕ) → number < length clauses → Contains pending number)
    → FitsTogether clauses (replicate size false) [] (replicate (length clauses) 0) (replicate size []) pending
FitsTogether-begin clauses size pending below len among all =
    let marks_len : length (replicate size false) ≡ size = length-replicate size false in
    record {
      below = rw marks_len below;
      found = IsFound-nil clauses size;
      seen_sized = length-replicate (length clauses) 0;
      watchers_sized = length-replicate size [] ∙ sym marks_len;
      seen_marked = λ number within j lt inside. absurd (omega (arith, replicated {X = ℕ} (length clauses) number 0, lt));
      pending_below = among;
      watchers_below = λ fact number m. let none : Contains [] number = rw (replicated {X = List ℕ} size fact []) at m in absurd (omega (arith, none.1));
      counted = omega (arith, len, sum_by-replicate (λ (l : List ℕ). length l) size []);
      in_hand = λ number within. to_look_at (all number within);
    }

-- where no clause is to be looked at, each derivable fact is marked
marked_derivable : (clauses : List ClauseModel) (marks : List Bool) (steps seen : List ℕ) (watchers : List (List ℕ))
    → FitsTogether clauses marks steps seen watchers [] → (fact : ℕ) → Derivable clauses fact → HasMark marks fact
marked_derivable clauses marks steps seen watchers h fact (by_clause clause m given) =
    let same : clause_at clauses m.0 ≡ clause = get_or_default clauses m.0 (record { premises = []; fact = 0 }) clause m.1 ∙ m.2 in
    go clause m.0 (rw same at (h.in_hand m.0 m.1)) (λ premise n. marked_derivable clauses marks steps seen watchers h premise (given premise n))
  where
    go : (c : ClauseModel) (number : ℕ) → IsInHand c marks watchers [] number → IsMet marks c.premises → HasMark marks c.fact
    go c number (done marked) met = marked
    go c number (to_look_at none) met = absurd (omega (arith, none.1))
    go c number (waits_for q a b n) met = let marked = met q a in absurd (cc)

pub IsClosure-end : (clauses : List ClauseModel) (marks : List Bool) (steps seen : List ℕ) (watchers : List (List ℕ))
    → FitsTogether clauses marks steps seen watchers [] → IsClosure clauses steps
IsClosure-end clauses marks steps seen watchers h = record {
  derivation = h.found.derivation;
  exactly = λ fact. (
    Derivable-given clauses steps h.found.derivation fact,
    λ d. h.found.sound fact (marked_derivable clauses marks steps seen watchers h fact d),
  );
}

pub AreMarks-end : (clauses : List ClauseModel) (marks : List Bool) (steps seen : List ℕ) (watchers : List (List ℕ))
    → FitsTogether clauses marks steps seen watchers [] → AreMarks clauses marks
AreMarks-end clauses marks steps seen watchers h fact = (
  λ m. Derivable-given clauses steps h.found.derivation fact (h.found.sound fact m),
  marked_derivable clauses marks steps seen watchers h fact,
)

-- ---- numbers

-- the numbers below one more
pub below_push : (numbers : List ℕ) (k : ℕ) → ((n : ℕ) → Contains numbers n → n < k) → (n : ℕ) → Contains (numbers ++ k ∷ []) n → n < k + 1
below_push numbers k below n m = elim (Contains-push_cases numbers k n m) [
  | inl earlier ↦ omega (arith, below n earlier)
  | inr same ↦ omega (arith, same)
]

pub all_push : (numbers : List ℕ) (k : ℕ) → ((n : ℕ) → n < k → Contains numbers n) → (n : ℕ) → n < k + 1 → Contains (numbers ++ k ∷ []) n
all_push numbers k all n lt = elim (cases_lt n k) [
  | inl earlier ↦ Contains-append_left numbers (k ∷ []) n (all n earlier)
  | inr late ↦ let same : n ≡ k = omega arith in rw same (Contains-push numbers k)
]
