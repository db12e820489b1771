-- A tree that is being written, once one more line is: its crate was opened before, or is opened now.
use Rattle.std.proofs.Common.{◌≡◌, ◌↔◌, ◌⊎◌, ℕ, ◌+◌, ◌<◌, ◌≤◌, Bool, true, false, cond, not, List, [], ◌∷◌, ◌++◌, map, length, set, Option, Some, None, Contains, IsTrue, append-nil, refl, sym, ap, ◌∙◌, subst, inl, inr, arith}
use Rattle.std.proofs.lemmas.Bool.{cases_eq, eq-eqb, false≢true, ne_eqb}
use Rattle.std.proofs.lemmas.List.{get_or-set_other, get_or-set_same, length-set, length_push, map_push}
use Rattle.std.proofs.lemmas.List.Elements.{Contains-append_left, Contains-push, Contains-push_cases}
use Rattle.krates_rules.proofs.Members.{contains_of}
use Rattle.krates_drawing.specs.Paths.{goes_on}
use Rattle.krates_answers.specs.Tree.{crates_below, crates_in, line_below, list_of}
use Rattle.krates_answers.specs.declared.tree.TreeLine.{TreeLine}
use Rattle.krates_answers.proofs.EachAfter.{EachAfter, EachAfter-push}
use Rattle.krates_answers.proofs.LinesBelow.{crates_below-all, crates_below-append, crates_below-moved, crates_below-none, marked}
use Rattle.krates_answers.proofs.TreeNumbers.{IsListed-from_among}
use Rattle.krates_answers.proofs.WaitingLines.{AllWait, AllWait-below, AllWait-deeper, AllWait-more}
use Rattle.krates_answers.proofs.TreeSoFar.{IsReached, IsTreeSoFar, IsWritten, is_marked, whole_below}

-- ---- one more line

crates_last : (lines : List TreeLine) (line : TreeLine) → Contains (crates_in (lines ++ line ∷ [])) line.krate
crates_last lines line = subst (λ (ns : List ℕ). Contains ns line.krate) (sym (map_push (λ (l : TreeLine). l.krate) lines line)) (Contains-push (crates_in lines) line.krate)

crates_kept : (lines : List TreeLine) (line : TreeLine) (n : ℕ) → Contains (crates_in lines) n → Contains (crates_in (lines ++ line ∷ [])) n
crates_kept lines line n c =
    subst (λ (ns : List ℕ). Contains ns n) (sym (map_push (λ (l : TreeLine). l.krate) lines line)) (Contains-append_left (crates_in lines) (line.krate ∷ []) n c)

crates_cases : (lines : List TreeLine) (line : TreeLine) (n : ℕ) → Contains (crates_in (lines ++ line ∷ [])) n → Contains (crates_in lines) n ⊎ (line.krate ≡ n)
crates_cases lines line n c = Contains-push_cases (crates_in lines) line.krate n (subst (λ (ns : List ℕ). Contains ns n) (map_push (λ (l : TreeLine). l.krate) lines line) c)

-- the mark of another number stays, and a mark that was set stays
mark_kept : (marks : List Bool) (k n : ℕ) → k < length marks → is_marked marks n ≡ true → is_marked (set marks k true) n ≡ true
mark_kept marks k n lt e = elim (cases_eq n k) [
  | inl same ↦ subst (λ (j : ℕ). is_marked (set marks k true) j ≡ true) (sym same) (get_or-set_same marks k true false lt)
  | inr other ↦ get_or-set_other marks k n true false other ∙ e
]

seen_more : (marks : List Bool) (lines : List TreeLine) (line : TreeLine) → line.krate < length marks → ((n : ℕ) → (is_marked marks n ≡ true) ↔ Contains (crates_in lines) n)
    → (n : ℕ) → (is_marked (set marks line.krate true) n ≡ true) ↔ Contains (crates_in (lines ++ line ∷ [])) n
seen_more marks lines line lt seen n = (
  λ e.
      elim (cases_eq n line.krate) [
        | inl same ↦ subst (Contains (crates_in (lines ++ line ∷ []))) (sym same) (crates_last lines line)
        | inr other ↦ crates_kept lines line n ((seen n).0 (sym (get_or-set_other marks line.krate n true false other) ∙ e))
      ],
  λ c.
      elim (crates_cases lines line n c) [
        | inl before ↦ mark_kept marks line.krate n lt ((seen n).1 before)
        | inr same ↦ subst (λ (j : ℕ). is_marked (set marks line.krate true) j ≡ true) same (get_or-set_same marks line.krate true false lt)
      ],
)

reached_more : (Reached : ℕ → Type 0) (lines : List TreeLine) (line : TreeLine) → Reached line.krate → ((n : ℕ) → Contains (crates_in lines) n → Reached n) → (n : ℕ) → Contains (crates_in (lines ++ line ∷ [])) n → Reached n
reached_more Reached lines line here before n c = elim (crates_cases lines line n c) [ inl earlier ↦ before n earlier | inr same ↦ subst Reached same here ]

-- a line is opened exactly if its crate has no mark, and then no earlier line has that crate
opened_first : (mark b : Bool) (P : Type 0) → mark ≡ b → ((mark ≡ true) ↔ P) → (IsTrue (not b) ↔ (P → ⊥))
opened_first mark true P e h = (λ f. absurd (false≢true f), λ none. absurd (none (h.0 e)))
opened_first mark false P e h = (λ _ p. false≢true (sym e ∙ h.1 p), λ _. refl)

-- what holds of the lines so far after one more
record OneMore (lists : List (List ℕ)) (roots : List ℕ) (marks : List Bool) (lines : List TreeLine) (next line : TreeLine) (rest : List TreeLine) : Type 0 where
  long : length (set marks next.krate true) ≡ length lists
  below : (o : Option ℕ) → crates_below o (lines ++ line ∷ []) ++ crates_below o rest ≡ whole_below lists roots marks o
  seen : (n : ℕ) → (is_marked (set marks next.krate true) n ≡ true) ↔ Contains (crates_in (lines ++ line ∷ [])) n
  written : EachAfter IsWritten [] (lines ++ line ∷ [])
  reached : (n : ℕ) → Contains (crates_in (lines ++ line ∷ [])) n → IsReached lists roots n
  waits : AllWait (IsReached lists roots) (lines ++ line ∷ []) next.depth rest
  room : next.depth + 1 ≤ length (lines ++ line ∷ [])

one_more : (lists : List (List ℕ)) (roots : List ℕ) (marks : List Bool) (lines rest : List TreeLine) (next : TreeLine) (b : Bool) → IsTreeSoFar lists roots marks lines (next ∷ rest) → next.krate < length marks → is_marked marks next.krate ≡ b
    → OneMore lists roots marks lines next (marked next (not b)) rest
one_more lists roots marks lines rest next b so lt e =
    let line = marked next (not b) in
    record {
      long = length-set marks next.krate true ∙ so.long;
      below = λ o. crates_below-moved o lines next (not b) rest ∙ so.below o;
      seen = seen_more marks lines line lt so.seen;
      written = EachAfter-push IsWritten [] lines line so.written (record { opened = opened_first (is_marked marks next.krate) b (Contains (crates_in lines) next.krate) e (so.seen next.krate); in_place = so.waits.1.in_place });
      reached = reached_more (IsReached lists roots) lines line so.waits.1.reached so.reached;
      waits = AllWait-more (IsReached lists roots) lines line next.depth rest (omega arith) so.waits.2;
      room = omega (arith, so.waits.0, length_push lines line);
    }

-- ---- a crate that is opened already

same_whole : (lists : List (List ℕ)) (roots : List ℕ) (marks : List Bool) (k : ℕ) → k < length marks → is_marked marks k ≡ true → (o : Option ℕ) → whole_below lists roots marks o ≡ whole_below lists roots (set marks k true) o
same_whole lists roots marks k lt e None = refl
same_whole lists roots marks k lt e (Some p) = ap (λ (t : Bool). cond t (list_of lists p) []) (sym (stays (cases_eq p k)))
  where
    stays : (p ≡ k) ⊎ (p ≡ k → ⊥) → is_marked (set marks k true) p ≡ is_marked marks p
    stays (inl same) = subst (λ (j : ℕ). is_marked (set marks k true) j ≡ is_marked marks j) (sym same) (get_or-set_same marks k true false lt ∙ sym e)
    stays (inr other) = get_or-set_other marks k p true false other

pub tree_repeats : (lists : List (List ℕ)) (roots : List ℕ) (marks : List Bool) (lines rest : List TreeLine) (next : TreeLine) → IsTreeSoFar lists roots marks lines (next ∷ rest) → next.krate < length marks → is_marked marks next.krate ≡ true
    → IsTreeSoFar lists roots (set marks next.krate true) (lines ++ marked next false ∷ []) rest
tree_repeats lists roots marks lines rest next so lt e =
    let line = marked next false in
    let more = one_more lists roots marks lines rest next true so lt e in
    record {
      long = more.long;
      below = λ o. more.below o ∙ same_whole lists roots marks next.krate lt e o;
      seen = more.seen;
      written = more.written;
      reached = more.reached;
      waits = AllWait-deeper (IsReached lists roots) (lines ++ line ∷ []) next.depth (length (lines ++ line ∷ [])) rest (omega (arith, more.room)) more.waits;
    }

-- ---- a crate that is opened now

-- what comes between two lists without an element
only_between : (before here after : List ℕ) → before ++ after ≡ [] → before ++ (here ++ after) ≡ here
only_between [] here [] e = append-nil here
only_between [] here (n ∷ after) e = absurd cc
only_between (n ∷ before) here after e = absurd cc

module _ (lists : List (List ℕ)) (roots : List ℕ) (marks : List Bool) (lines rest : List TreeLine) (line : TreeLine) where
  -- all that is written or waits below a parent, with what the crate of the line leads to
  abbrev opened_below : Option ℕ → List ℕ
  opened_below o = crates_below o (lines ++ line ∷ []) ++ crates_below o (map (line_below line) (list_of lists line.krate) ++ rest)

  -- below another parent nothing is new
  other_below : (o : Option ℕ) → crates_below o (map (line_below line) (list_of lists line.krate)) ≡ [] → opened_below o ≡ crates_below o (lines ++ line ∷ []) ++ crates_below o rest
  other_below o none =
      ap (λ (cs : List ℕ). crates_below o (lines ++ line ∷ []) ++ cs)
      (crates_below-append o (map (line_below line) (list_of lists line.krate)) rest ∙ ap (λ (cs : List ℕ). cs ++ crates_below o rest) none)

  -- below the line all is new
  own_below : crates_below (Some line.krate) (lines ++ line ∷ []) ++ crates_below (Some line.krate) rest ≡ [] → opened_below (Some line.krate) ≡ list_of lists line.krate
  own_below none =
      ap (λ (cs : List ℕ). crates_below (Some line.krate) (lines ++ line ∷ []) ++ cs)
      (crates_below-append (Some line.krate) (map (line_below line) (list_of lists line.krate)) rest
      ∙ ap (λ (cs : List ℕ). cs ++ crates_below (Some line.krate) rest)
      (crates_below-all (Some line.krate) (line_below line) (λ c. eq-eqb line.krate line.krate refl) (λ c. refl) (list_of lists line.krate)))
      ∙ only_between (crates_below (Some line.krate) (lines ++ line ∷ [])) (list_of lists line.krate) (crates_below (Some line.krate) rest) none

  opened_whole : line.krate < length marks → is_marked marks line.krate ≡ false → ((o : Option ℕ) → crates_below o (lines ++ line ∷ []) ++ crates_below o rest ≡ whole_below lists roots marks o)
      → (o : Option ℕ) → opened_below o ≡ whole_below lists roots (set marks line.krate true) o
  opened_whole lt e below None = other_below None (crates_below-none None (line_below line) (λ c. refl) (list_of lists line.krate)) ∙ below None
  opened_whole lt e below (Some p) = by (cases_eq p line.krate)
    where
      by : (p ≡ line.krate) ⊎ (p ≡ line.krate → ⊥) → opened_below (Some p) ≡ whole_below lists roots (set marks line.krate true) (Some p)
      by (inl same) =
          subst (λ (j : ℕ). opened_below (Some j) ≡ whole_below lists roots (set marks line.krate true) (Some j)) (sym same)
          (own_below (below (Some line.krate) ∙ ap (λ (t : Bool). cond t (list_of lists line.krate) []) e)
          ∙ sym (ap (λ (t : Bool). cond t (list_of lists line.krate) []) (get_or-set_same marks line.krate true false lt)))
      by (inr other) =
          other_below (Some p) (crates_below-none (Some p) (line_below line) (λ c. ne_eqb line.krate p (λ same. other (sym same))) (list_of lists line.krate))
          ∙ below (Some p) ∙ sym (ap (λ (t : Bool). cond t (list_of lists p) []) (get_or-set_other marks line.krate p true false other))

pub tree_opens : (lists : List (List ℕ)) (roots : List ℕ) (marks : List Bool) (lines rest : List TreeLine) (next : TreeLine) → IsTreeSoFar lists roots marks lines (next ∷ rest) → next.krate < length marks → is_marked marks next.krate ≡ false
    → IsTreeSoFar lists roots (set marks next.krate true) (lines ++ marked next true ∷ []) (map (line_below next) (list_of lists next.krate) ++ rest)
tree_opens lists roots marks lines rest next so lt e =
    let line = marked next true in
    let more = one_more lists roots marks lines rest next false so lt e in
    record {
      long = more.long;
      below = opened_whole lists roots marks lines rest line lt e more.below;
      seen = more.seen;
      written = more.written;
      reached = more.reached;
      waits = AllWait-below (IsReached lists roots) lines line refl (list_of lists next.krate) (length (lines ++ line ∷ [])) rest more.room
          (λ c m. goes_on {n = next.krate} {m = c} so.waits.1.reached (IsListed-from_among lists next.krate c (contains_of (list_of lists next.krate) c m))) more.waits;
    }
