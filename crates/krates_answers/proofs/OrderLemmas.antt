-- An order as far as it is made, and a path of crates that have none.
use Rattle.std.proofs.Common.{◌≡◌, ◌∙◌, ◌↔◌, ◌<◌, ◌≤◌, ◌+◌, ◌++◌, ◌∷◌, ◌⊎◌, [], ℕ, zero, suc, Bool, true, false, cond, All, Contains, IsTrue, List, Option, None, Some, get_or, length, length-set, replicate, set, slice_get, take, unwrap_or, refl, sym, ap, subst, inl, inr, arith, true≢false}
use Rattle.std.proofs.lemmas.Bool.{cases_eq, cases_lt}
use Rattle.std.proofs.lemmas.Bool.Decides.{nat_tests}
use Rattle.std.proofs.lemmas.List.{get_or-replicate, length-replicate, get_or-set_other, get_or-set_same, get_or_past}
use Rattle.std.proofs.lemmas.List.Elements.{All-contains, Contains-append_left, Contains-push, Contains-push_cases}
use Rattle.std.proofs.lemmas.Option.{get_or_from_slice_get, slice_get-get_or, slice_get_within, unwrap_or-slice_get}
use Rattle.std.specs.BTreeMap.{is_at}
use Rattle.std.specs.BTreeSet.{BTreeSet, contains}
use Rattle.std.specs.List.{list_any}
use Rattle.std.specs.Ordering.{is_gt, nat_cmp}
use Rattle.krates_answers.specs.DirectLinks.{AreInside, AreLinks, IsListed}
use Rattle.krates_answers.proofs.TakenLemmas.{one_taken}
use Rattle.krates_answers.specs.Order.{AreOrdered, AreReady, AreToldReady, CanFollow, HasNeedsMarked, IsCutAt, IsCycle, IsEnded, IsMarked, IsNext, IsUndone, IsUndoneNeed, LeadTo, first_or, none, one_more}
use Rattle.krates_answers.specs.Tree.{list_of}

-- ---- the list of a number

in_nothing : (n : ℕ) → Contains [] n → ⊥
in_nothing n c = omega (arith, c.1)

pub listed_of : (lists : List (List ℕ)) (n c : ℕ) → Contains (list_of lists n) c → IsListed lists n c
listed_of lists n c among = elim (cases_lt n (length lists)) [
  | inl lt ↦ record { list = list_of lists n; at = slice_get-get_or lists n [] lt; among = among }
  | inr past ↦ absurd (in_nothing c (subst (λ (ns : List ℕ). Contains ns c) (get_or_past lists n [] past) among))
]

pub among_of : (lists : List (List ℕ)) (n c : ℕ) → IsListed lists n c → Contains (list_of lists n) c
among_of lists n c w = subst (λ (ns : List ℕ). Contains ns c) (sym (get_or_from_slice_get lists n w.list [] w.at)) w.among

pub list_found : (lists : List (List ℕ)) (n : ℕ) (list : List ℕ) → Some list ≡ slice_get lists n → list ≡ list_of lists n
list_found lists n list is = sym (get_or_from_slice_get lists n list [] (sym is))

pub list_missing : (lists : List (List ℕ)) (n : ℕ) → None ≡ slice_get lists n → [] ≡ list_of lists n
list_missing lists n is = ap (λ (o : Option (List ℕ)). unwrap_or o []) is ∙ unwrap_or-slice_get lists n []

pub has_list : (lists : List (List ℕ)) (n c : ℕ) → IsListed lists n c → n < length lists
has_list lists n c w = slice_get_within lists n w.list w.at

pub listed_below : (lists : List (List ℕ)) → AreInside lists → (n c : ℕ) → IsListed lists n c → c < length lists
listed_below lists inside n c w = All-contains (λ j. j < length lists) (list_of lists n) c (inside n [] (has_list lists n c w)) (among_of lists n c w)

-- ---- whether a number is among numbers

behind : (ys : List ℕ) (y x : ℕ) → (y ≡ x → ⊥) → Contains (y ∷ ys) x → Contains ys x
behind ys y x other (zero, lt, is) = absurd (other is)
behind ys y x other (suc k, lt, is) = (k, omega (arith, lt), is)

has_or_lacks : (xs : List ℕ) (x : ℕ) → Contains xs x ⊎ (Contains xs x → ⊥)
has_or_lacks [] x = inr (in_nothing x)
has_or_lacks (y ∷ ys) x = elim (cases_eq y x) [
  | inl same ↦ inl (0, omega arith, same)
  | inr other ↦ elim (has_or_lacks ys x) [
    | inl (k, lt, is) ↦ inl (suc k, omega (arith, lt), is)
    | inr lacks ↦ inr (λ c. lacks (behind ys y x other c))
  ]
]

-- ---- the set of those that can come next

at_itself : (k q : ℕ) → k ≡ q → is_at (nat_cmp k) q ≡ true
at_itself k q e = grind (arith, nat_tests)

at_same : (k q : ℕ) → is_at (nat_cmp k) q ≡ true → k ≡ q
at_same k q t = grind (arith, nat_tests)

taken_case : (b c d : Bool) → c ≡ cond b false d → c ≡ true → (b ≡ true → ⊥) × (d ≡ true)
taken_case true c d e t = absurd (true≢false (sym t ∙ e))
taken_case false c d e t = ((λ h. true≢false (sym h)), sym e ∙ t)

kept_case : (b c d : Bool) → c ≡ cond b false d → (b ≡ true → ⊥) → d ≡ true → c ≡ true
kept_case true c d e other t = absurd (other refl)
kept_case false c d e other t = e ∙ t

-- one more is added
added_case : (b c d : Bool) → c ≡ cond b true d → (c ≡ true → (b ≡ true) ⊎ (d ≡ true)) × ((b ≡ true) ⊎ (d ≡ true) → c ≡ true)
added_case true c d e = ((λ t. inl refl), (λ h. e))
added_case false c d e = ((λ t. inr (sym e ∙ t)), (λ h. elim h [ inl t ↦ absurd (true≢false (sym t)) | inr t ↦ e ∙ t ]))

-- those of the numbers so far, and one more
module _ (lists : List (List ℕ)) (marks : List Bool) (numbers : List ℕ) (i k : ℕ) (old mid : BTreeSet ℕ) (told : AreToldReady lists (take i numbers) marks old mid) (lt : i < length numbers) (is : k ≡ get_or numbers i k) where
  in_front : (n : ℕ) → Contains (take i numbers) n → Contains (take (i + 1) numbers) n
  in_front n c = subst (λ (ns : List ℕ). Contains ns n) (sym (one_taken numbers i k lt is)) (Contains-append_left (take i numbers) (k ∷ []) n c)

  at_last : (n : ℕ) → k ≡ n → Contains (take (i + 1) numbers) n
  at_last n e = subst (λ (ns : List ℕ). Contains ns n) (sym (one_taken numbers i k lt is)) (subst (Contains (take i numbers ++ k ∷ [])) e (Contains-push (take i numbers) k))

  of_both : (n : ℕ) → Contains (take (i + 1) numbers) n → Contains (take i numbers) n ⊎ (k ≡ n)
  of_both n c = Contains-push_cases (take i numbers) k n (subst (λ (ns : List ℕ). Contains ns n) (one_taken numbers i k lt is) c)

  pub told_more : (new : BTreeSet ℕ) → HasNeedsMarked lists marks k → ((q : ℕ) → contains nat_cmp new q ≡ cond (is_at (nat_cmp k) q) true (contains nat_cmp mid q)) → AreToldReady lists (take (i + 1) numbers) marks old new
  told_more new has adds n =
      let case = added_case (is_at (nat_cmp k) n) (contains nat_cmp new n) (contains nat_cmp mid n) (adds n) in (
        λ t. elim (case.0 t) [
          | inl at ↦ (let e = at_same k n at in inr (at_last n e, subst (HasNeedsMarked lists marks) e has))
          | inr before ↦ elim ((told n).0 before) [ inl there ↦ inl there | inr (c, done) ↦ inr (in_front n c, done) ]
        ],
        λ h. elim h [
          | inl there ↦ case.1 (inr ((told n).1 (inl there)))
          | inr (c, done) ↦ elim (of_both n c) [ inl front ↦ case.1 (inr ((told n).1 (inr (front, done)))) | inr e ↦ case.1 (inl (at_itself k n e)) ]
        ],
      )

  pub told_same : (HasNeedsMarked lists marks k → ⊥) → AreToldReady lists (take (i + 1) numbers) marks old mid
  told_same lacks n = (
    λ t. elim ((told n).0 t) [ inl there ↦ inl there | inr (c, done) ↦ inr (in_front n c, done) ],
    λ h. elim h [
      | inl there ↦ (told n).1 (inl there)
      | inr (c, done) ↦ elim (of_both n c) [ inl front ↦ (told n).1 (inr (front, done)) | inr e ↦ absurd (lacks (subst (HasNeedsMarked lists marks) (sym e) done)) ]
    ],
  )

-- ---- those that can come first

-- those below a number
abbrev pub AreFirstBelow : List (List ℕ) → ℕ → BTreeSet ℕ → Type 0
AreFirstBelow lists count ready = (n : ℕ) → IsTrue (contains nat_cmp ready n) ↔ (n < count × CanFollow lists [] n)

can_begin : (lists : List (List ℕ)) (k : ℕ) → k < length lists → HasNeedsMarked lists [] k → CanFollow lists [] k
can_begin lists k lt has = record { below = lt; new = in_nothing k; needs = λ m need. absurd (true≢false (sym (has m need))) }

begins_unmarked : (lists : List (List ℕ)) (k : ℕ) → CanFollow lists [] k → HasNeedsMarked lists [] k
begins_unmarked lists k can m need = absurd (in_nothing m (can.needs m need))

module _ (lists : List (List ℕ)) (k : ℕ) (lt : k < length lists) (mid : BTreeSet ℕ) (first : AreFirstBelow lists k mid) where
  pub first_more_below : (new : BTreeSet ℕ) → HasNeedsMarked lists [] k → ((q : ℕ) → contains nat_cmp new q ≡ cond (is_at (nat_cmp k) q) true (contains nat_cmp mid q)) → AreFirstBelow lists (k + 1) new
  first_more_below new has adds n =
      let case = added_case (is_at (nat_cmp k) n) (contains nat_cmp new n) (contains nat_cmp mid n) (adds n) in (
        λ t. elim (case.0 t) [
          | inl at ↦ (let e = at_same k n at in (omega (arith, e), subst (CanFollow lists []) e (can_begin lists k lt has)))
          | inr before ↦ (let h = (first n).0 before in (omega (arith, h.0), h.1))
        ],
        λ h. elim (cases_eq k n) [ inl e ↦ case.1 (inl (at_itself k n e)) | inr other ↦ case.1 (inr ((first n).1 (omega (arith, h.0, other), h.1))) ],
      )

  pub first_same_below : (HasNeedsMarked lists [] k → ⊥) → AreFirstBelow lists (k + 1) mid
  first_same_below lacks n = (
    λ t. (let h = (first n).0 t in (omega (arith, h.0), h.1)),
    λ h. elim (cases_eq k n) [
      | inl e ↦ absurd (lacks (begins_unmarked lists k (subst (CanFollow lists []) (sym e) h.1)))
      | inr other ↦ (first n).1 (omega (arith, h.0, other), h.1)
    ],
  )

-- ---- marks

-- how many have no mark
abbrev pub unmarked : List Bool → ℕ
unmarked [] = 0
unmarked (mark ∷ marks) = cond mark 0 1 + unmarked marks

pub unmarked-set : (marks : List Bool) (n : ℕ) → n < length marks → get_or marks n false ≡ false → unmarked (set marks n true) + 1 ≡ unmarked marks
unmarked-set [] n lt e = absurd (omega arith)
unmarked-set (true ∷ marks) zero lt e = absurd (true≢false e)
unmarked-set (false ∷ marks) zero lt e = omega arith
unmarked-set (mark ∷ marks) (suc n) lt e = omega (arith, unmarked-set marks n (omega (arith, lt)) e)

-- as many without a mark
pub none_marked : (count : ℕ) (marks : List Bool) → marks ≡ replicate count false → (length marks ≡ count) × ((n : ℕ) → n < count → get_or marks n false ≡ false)
none_marked count marks is = (ap length is ∙ length-replicate count false, λ n lt. ap (λ ms. get_or ms n false) is ∙ get_or-replicate count n false false lt)

pub not_marked : (b : Bool) → (b ≡ true → ⊥) → b ≡ false
not_marked true h = absurd (h refl)
not_marked false h = refl

-- the numbers below this one that have marks are those that were put
abbrev pub HaveMarks : ℕ → List Bool → List ℕ → Type 0
HaveMarks count marks put = (n : ℕ) → n < count → IsMarked marks n ↔ Contains put n

pub one_mark_more : (count : ℕ) (marks : List Bool) (put : List ℕ) (next : ℕ) → length marks ≡ count → next < count → HaveMarks count marks put → HaveMarks count (set marks next true) (put ++ next ∷ [])
one_mark_more count marks put next long below marked n lt = (
  λ t. elim (cases_eq n next) [
    | inl same ↦ subst (Contains (put ++ next ∷ [])) (sym same) (Contains-push put next)
    | inr other ↦ Contains-append_left put (next ∷ []) n ((marked n lt).0 (sym (get_or-set_other marks next n true false other) ∙ t))
  ],
  λ c. elim (cases_eq n next) [
    | inl same ↦ subst (IsMarked (set marks next true)) (sym same) (get_or-set_same marks next true false (omega (arith, long, below)))
    | inr other ↦ elim (Contains-push_cases put next n c) [
      | inl before ↦ get_or-set_other marks next n true false other ∙ (marked n lt).1 before
      | inr is ↦ absurd (other (sym is))
    ]
  ],
)

-- ---- the order so far

pub record IsOrderSoFar (lists : List (List ℕ)) (order : List ℕ) (marks : List Bool) (ready : BTreeSet ℕ) : Type 0 where
  pub long : length marks ≡ length lists
  pub ordered : AreOrdered lists order
  pub marked : HaveMarks (length lists) marks order
  pub closed : (n m : ℕ) → Contains order n → IsListed lists n m → Contains order m
  pub nexts : AreReady lists order ready

module _ (lists : List (List ℕ)) (inside : AreInside lists) (order : List ℕ) (marks : List Bool) (ready popped added : BTreeSet ℕ) (dependents : List (List ℕ)) (next : ℕ)
    (so : IsOrderSoFar lists order marks ready) (member : IsTrue (contains nat_cmp ready next)) (least : (q : ℕ) → IsTrue (contains nat_cmp ready q) → next ≤ q)
    (pops : (q : ℕ) → contains nat_cmp popped q ≡ cond (is_at (nat_cmp next) q) false (contains nat_cmp ready q))
    (turned : AreLinks (length lists) (λ a b. IsListed lists b a) dependents)
    (adds : AreToldReady lists (list_of dependents next) (set marks next true) popped added) where
  can : CanFollow lists order next
  can = (so.nexts next).0 member

  now : List ℕ
  now = order ++ next ∷ []

  marked : HaveMarks (length lists) (set marks next true) (order ++ next ∷ [])
  marked = one_mark_more (length lists) marks order next so.long can.below so.marked

  -- what needs this one couldn't come before
  not_before : (n : ℕ) → IsListed lists n next → Contains (order ++ next ∷ []) n → ⊥
  not_before n leads c = elim (Contains-push_cases order next n c) [
    | inl before ↦ can.new (so.closed n next before leads)
    | inr is ↦ can.new (can.needs next (subst (λ (k : ℕ). IsListed lists k next) (sym is) leads))
  ]

  closed : (n m : ℕ) → Contains (order ++ next ∷ []) n → IsListed lists n m → Contains (order ++ next ∷ []) m
  closed n m c leads = elim (Contains-push_cases order next n c) [
    | inl before ↦ Contains-append_left order (next ∷ []) m (so.closed n m before leads)
    | inr is ↦ Contains-append_left order (next ∷ []) m (can.needs m (subst (λ (k : ℕ). IsListed lists k m) (sym is) leads))
  ]

  -- what could come before can still
  was_ready : (n : ℕ) → IsTrue (contains nat_cmp popped n) → CanFollow lists (order ++ next ∷ []) n
  was_ready n t =
      let (other, there) = taken_case (is_at (nat_cmp next) n) (contains nat_cmp popped n) (contains nat_cmp ready n) (pops n) t in
      let h = (so.nexts n).0 there in
      record {
        below = h.below;
        new = λ c. elim (Contains-push_cases order next n c) [ inl before ↦ h.new before | inr is ↦ other (at_itself next n is) ];
        needs = λ m leads. Contains-append_left order (next ∷ []) m (h.needs m leads);
      }

  -- what needs this one, and otherwise what is there
  is_ready : (n : ℕ) → Contains (list_of dependents next) n → HasNeedsMarked lists (set marks next true) n → CanFollow lists (order ++ next ∷ []) n
  is_ready n c done =
      let leads = (turned.exactly next n).0 (listed_of dependents next n c) in
      record {
        below = has_list lists n next leads;
        new = not_before n leads;
        needs = λ m need. (marked m (listed_below lists inside n m need)).0 (done m need);
      }

  to_ready : (n : ℕ) → CanFollow lists (order ++ next ∷ []) n → IsTrue (contains nat_cmp popped n) ⊎ (Contains (list_of dependents next) n × HasNeedsMarked lists (set marks next true) n)
  to_ready n h = elim (has_or_lacks (list_of lists n) next) [
    | inl c ↦ inr (
      among_of dependents next n ((turned.exactly next n).1 (listed_of lists n next c)),
      λ m need. (marked m (listed_below lists inside n m need)).1 (h.needs m need),
    )
    | inr lacks ↦
        (let before : CanFollow lists order n = record {
          below = h.below;
          new = λ c. h.new (Contains-append_left order (next ∷ []) n c);
          needs = λ m need. elim (Contains-push_cases order next m (h.needs m need)) [
            | inl c ↦ c
            | inr is ↦ absurd (lacks (among_of lists n next (subst (IsListed lists n) (sym is) need)))
          ];
        } in
        inl (kept_case (is_at (nat_cmp next) n) (contains nat_cmp popped n) (contains nat_cmp ready n) (pops n)
        (λ same. h.new (subst (Contains (order ++ next ∷ [])) (at_same next n same) (Contains-push order next))) ((so.nexts n).1 before)))
  ]

  pub order_step : IsOrderSoFar lists (order ++ next ∷ []) (set marks next true) added
  order_step = record {
    long = length-set marks next true ∙ so.long;
    ordered = one_more so.ordered (record { can = can; first = λ m h. least m ((so.nexts m).1 h) });
    marked = marked;
    closed = closed;
    nexts = λ n. (
      λ t. elim ((adds n).0 t) [ inl before ↦ was_ready n before | inr (c, done) ↦ is_ready n c done ],
      λ h. (adds n).1 (to_ready n h),
    );
  }

-- what comes next has no mark
pub next_unmarked : (lists : List (List ℕ)) (order : List ℕ) (marks : List Bool) (ready : BTreeSet ℕ) (next : ℕ) → IsOrderSoFar lists order marks ready → IsTrue (contains nat_cmp ready next) → IsUndone lists marks next
next_unmarked lists order marks ready next so member =
    let can = (so.nexts next).0 member in
    record { below = can.below; unmarked = not_marked (get_or marks next false) (λ t. can.new ((so.marked next can.below).0 t)) }

pub none_ready : (ready : BTreeSet ℕ) (n : ℕ) → ready.keys ≡ [] → IsTrue (contains nat_cmp ready n) → ⊥
none_ready ready n empty t = true≢false (sym t ∙ ap (list_any (is_at (nat_cmp n))) empty)

pub none_left : (keys : List ℕ) → (0 < length keys → ⊥) → keys ≡ []
none_left [] h = refl
none_left (k ∷ keys) h = absurd (h (omega arith))

pub least_of : (k q : ℕ) → is_gt (nat_cmp k q) ≡ false → k ≤ q
least_of k q e = grind (arith, nat_tests)

-- nothing is put yet
pub order_begins : (lists : List (List ℕ)) (order : List ℕ) (marks : List Bool) (ready : BTreeSet ℕ) → order ≡ [] → length marks ≡ length lists → ((n : ℕ) → n < length lists → get_or marks n false ≡ false) → AreReady lists [] ready
    → IsOrderSoFar lists order marks ready
order_begins lists order marks ready empty long none_marked first = rw empty (record {
  long = long;
  ordered = none;
  marked = λ n lt. ((λ t. absurd (true≢false (sym t ∙ none_marked n lt))), (λ c. absurd (in_nothing n c)));
  closed = λ n m c leads. absurd (in_nothing n c);
  nexts = first;
})

-- ---- its end

pub is_stuck : (lists : List (List ℕ)) (order : List ℕ) (marks : List Bool) → IsEnded lists order marks → (n : ℕ) → IsUndone lists marks n → HasNeedsMarked lists marks n → ⊥
is_stuck lists order marks w n undone done = w.ended n (record {
  below = undone.below;
  new = λ c. true≢false (sym ((w.marked n undone.below).1 c) ∙ undone.unmarked);
  needs = λ m need. (w.marked m (listed_below lists w.inside n m need)).0 (done m need);
})

-- ---- a path

first_more : (ps : List ℕ) (n end : ℕ) → first_or (ps ++ n ∷ []) end ≡ first_or ps n
first_more [] n end = refl
first_more (p ∷ ps) n end = refl

pub lead_more : (lists : List (List ℕ)) (ps : List ℕ) (n end : ℕ) → LeadTo lists ps n → IsListed lists n end → LeadTo lists (ps ++ n ∷ []) end
lead_more lists [] n end h leads = (leads, tt)
lead_more lists (p ∷ ps) n end h leads = (subst (IsListed lists p) (sym (first_more ps n end)) h.0, lead_more lists ps n end h.1 leads)

lead_back : (lists : List (List ℕ)) (front back : List ℕ) (end : ℕ) → LeadTo lists (front ++ back) end → LeadTo lists back end
lead_back lists [] back end h = h
lead_back lists (p ∷ front) back end h = lead_back lists front back end h.1

pub record IsPathSoFar (lists : List (List ℕ)) (done seen : List Bool) (path : List ℕ) (next : ℕ) : Type 0 where
  pub long : length seen ≡ length lists
  pub undone : IsUndone lists done next
  pub marked : HaveMarks (length lists) seen path
  pub along : LeadTo lists path next

-- the path with one more
pub path_step : (lists : List (List ℕ)) → AreInside lists → (done seen : List Bool) (path : List ℕ) (next need : ℕ) → IsPathSoFar lists done seen path next → IsUndoneNeed lists done next need
    → IsPathSoFar lists done (set seen next true) (path ++ next ∷ []) need
path_step lists inside done seen path next need so w = record {
  long = length-set seen next true ∙ so.long;
  undone = record { below = listed_below lists inside next need w.need; unmarked = w.unmarked };
  marked = one_mark_more (length lists) seen path next so.long so.undone.below so.marked;
  along = lead_more lists path next need so.along w.need;
}

pub path_begins : (lists : List (List ℕ)) (done seen : List Bool) (path : List ℕ) (start : ℕ) → path ≡ [] → length seen ≡ length lists → ((n : ℕ) → n < length lists → get_or seen n false ≡ false) → IsUndone lists done start
    → IsPathSoFar lists done seen path start
path_begins lists done seen path start empty long none_marked undone = rw empty (record {
  long = long;
  undone = undone;
  marked = λ n lt. ((λ t. absurd (true≢false (sym t ∙ none_marked n lt))), (λ c. absurd (in_nothing n c)));
  along = tt;
})

pub turns_round : (lists : List (List ℕ)) (path end : List ℕ) (next : ℕ) → LeadTo lists path next → IsCutAt path next end → IsCycle lists end
turns_round lists path end next along w = record {
  first = next;
  rest = w.rest;
  begins = w.is;
  turns = subst (λ (ns : List ℕ). LeadTo lists ns next) (sym w.is) (lead_back lists w.front (next ∷ w.rest) next (subst (λ (ns : List ℕ). LeadTo lists ns next) w.split along));
}
