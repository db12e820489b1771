-- Which steps the derivation of one fact needs: those that give a fact with a mark.
use Rattle.std.proofs.Common.{◌≡◌, ◌⊎◌, ◌↔◌, ℕ, zero, suc, ◌+◌, ◌<◌, ◌≤◌, List, [], ◌∷◌, ◌++◌, Some, Bool, true, false, cond, length, get_or, set, replicate, take, sym, ◌∙◌, ap, subst, inl, inr, arith}
use Rattle.std.specs.List.{All, Contains, filter, slice_get}
use Rattle.std.specs.Option.{option_map}
use Rattle.std.proofs.lemmas.Bool.{cases_lt}
use Rattle.std.proofs.lemmas.Bool.Decides.{eqb_tells}
use Rattle.std.proofs.lemmas.List.{append-nil, take_more, get_or-set_same, get_or-set_other, get_or-replicate, get_or_past}
use Rattle.std.proofs.lemmas.List.Elements.{Contains-append_left, Contains-push, Contains-push_cases, filter-append, filter_map-append, filter_more}
use Rattle.std.proofs.lemmas.Option.{get_or_from_slice_get, same_Some, slice_get-get_or, slice_get_within}
use Rattle.std.proofs.Math.ListN.{length-replicate}
use Rattle.std.proofs.Math.Seq.{take-length, take-suc}
use Rattle.krates_closure.specs.Clauses.{ClauseModel, NamesBelow}
use Rattle.krates_closure.specs.Closing.{clause_at}
use Rattle.krates_closure.specs.Closure.{Derivable, by_clause, IsDerivation, IsDerivationOf, MayFollow, given_by}
use Rattle.krates_closure.specs.Marks.{HasMark, IsMet}
use Rattle.krates_closure.specs.Needed.{AreNeeded, IsNeededAt, is_marked}
use Rattle.krates_closure.proofs.ClosingLemmas.{slice_get-clause_at, stays_marked}
use Rattle.krates_closure.proofs.ClosureLemmas.{Contains-slice_get, IsDerivation-push, given_by-push}

-- ---- what is derivable has a number below the size

pub below_size : (clauses : List ClauseModel) (size fact : ℕ) → All (NamesBelow size) clauses → Derivable clauses fact → fact < size
below_size clauses size fact below (by_clause clause m given) =
    let names : NamesBelow size (get_or clauses m.0 clause) = below m.0 clause m.1 in
    (rw m.2 at names).fact

-- a step of a derivation is the number of a clause
pub step_within : (clauses : List ClauseModel) (steps : List ℕ) (step : ℕ) → IsDerivation clauses steps → Contains steps step → step < length clauses
step_within clauses steps step derives m =
    let at : slice_get steps m.0 ≡ Some step = slice_get-get_or steps m.0 step m.1 ∙ ap Some m.2 in
    let next = derives m.0 step at in
    slice_get_within clauses step next.clause next.at

-- ---- the steps of which some are kept

-- of what the steps give, those that are kept give exactly what has a mark
record Kept (clauses : List ClauseModel) (marks : List Bool) (steps : List ℕ) : Type 0 where
  derivation : IsDerivation clauses (filter (is_marked clauses marks) steps)
  among : (fact : ℕ) → Contains (given_by clauses (filter (is_marked clauses marks) steps)) fact → Contains (given_by clauses steps) fact × HasMark marks fact
  kept : (fact : ℕ) → Contains (given_by clauses steps) fact → HasMark marks fact → Contains (given_by clauses (filter (is_marked clauses marks) steps)) fact
  steps_kept : (step : ℕ) → Contains steps step → is_marked clauses marks step ≡ true → Contains (filter (is_marked clauses marks) steps) step

-- one more step
kept_more : (clauses : List ClauseModel) (marks : List Bool) (steps : List ℕ) (step : ℕ) (next : MayFollow clauses steps step)
    → (HasMark marks next.clause.fact → IsMet marks next.clause.premises) → Kept clauses marks steps → Kept clauses marks (steps ++ step ∷ [])
kept_more clauses marks steps step next met h = go (is_marked clauses marks step) (λ i. is_marked clauses marks step)
  where
    p : ℕ → Bool
    p = is_marked clauses marks

    fact : ℕ
    fact = next.clause.fact

    clause_is : clause_at clauses step ≡ next.clause
    clause_is = get_or_from_slice_get clauses step next.clause (record { premises = []; fact = 0 }) next.at

    gives : given_by clauses (steps ++ step ∷ []) ≡ given_by clauses steps ++ fact ∷ []
    gives = given_by-push clauses steps step next.clause next.at

    go : (b : Bool) → is_marked clauses marks step ≡ b → Kept clauses marks (steps ++ step ∷ [])
    go true is =
        let same : filter p (steps ++ step ∷ []) ≡ filter p steps ++ step ∷ [] = filter-append p steps (step ∷ []) ∙ ap (λ (b : Bool). filter p steps ++ cond b (step ∷ []) []) is in
        let keeps : given_by clauses (filter p steps ++ step ∷ []) ≡ given_by clauses (filter p steps) ++ fact ∷ [] = given_by-push clauses (filter p steps) step next.clause next.at in
        let marked : HasMark marks fact = subst (λ (c : ClauseModel). HasMark marks c.fact) clause_is is in
        record {
          derivation = rw same (IsDerivation-push clauses (filter p steps) step h.derivation (record {
            clause = next.clause;
            at = next.at;
            premises = λ premise m. h.kept premise (next.premises premise m) (met marked premise m);
            fresh = λ given. next.fresh (h.among fact given).0;
          }));
          among = λ other m. rw gives (elim (Contains-push_cases (given_by clauses (filter p steps)) fact other (rw (same, keeps) at m)) [
            | inl earlier ↦ (let a = h.among other earlier in (Contains-append_left (given_by clauses steps) (fact ∷ []) other a.0, a.1))
            | inr is_it ↦ rw (← is_it) (Contains-push (given_by clauses steps) fact, marked)
          ]);
          kept = λ other m mark. rw (same, keeps) (elim (Contains-push_cases (given_by clauses steps) fact other (rw gives at m)) [
            | inl earlier ↦ Contains-append_left (given_by clauses (filter p steps)) (fact ∷ []) other (h.kept other earlier mark)
            | inr is_it ↦ rw (← is_it) (Contains-push (given_by clauses (filter p steps)) fact)
          ]);
          steps_kept = λ other m mark. rw same (elim (Contains-push_cases steps step other m) [
            | inl earlier ↦ Contains-append_left (filter p steps) (step ∷ []) other (h.steps_kept other earlier mark)
            | inr is_it ↦ rw (← is_it) (Contains-push (filter p steps) step)
          ]);
        }
    go false is =
        let same : filter p (steps ++ step ∷ []) ≡ filter p steps = filter-append p steps (step ∷ []) ∙ ap (λ (b : Bool). filter p steps ++ cond b (step ∷ []) []) is ∙ append-nil (filter p steps) in
        let unmarked : get_or marks fact false ≡ false = subst (λ (c : ClauseModel). get_or marks c.fact false ≡ false) clause_is is in
        record {
          derivation = rw same h.derivation;
          among = λ other m. rw gives (let a = h.among other (rw same at m) in (Contains-append_left (given_by clauses steps) (fact ∷ []) other a.0, a.1));
          kept = λ other m mark. rw same (elim (Contains-push_cases (given_by clauses steps) fact other (rw gives at m)) [
            | inl earlier ↦ h.kept other earlier mark
            | inr is_it ↦ (let mark_here : get_or marks fact false ≡ true = rw is_it mark in absurd cc)
          ]);
          steps_kept = λ other m mark. rw same (elim (Contains-push_cases steps step other m) [
            | inl earlier ↦ h.steps_kept other earlier mark
            | inr is_it ↦ (let mark_here : is_marked clauses marks step ≡ true = rw is_it mark in absurd cc)
          ]);
        }

kept_all : (clauses : List ClauseModel) (marks : List Bool) (steps : List ℕ) (fact : ℕ) → IsDerivation clauses steps → AreNeeded clauses steps fact 0 marks
    → (n : ℕ) → n ≤ length steps → Kept clauses marks (take n steps)
kept_all clauses marks steps fact derives needed zero within = record {
  derivation = λ place step at. absurd cc;
  among = λ other m. absurd (omega (arith, m.1));
  kept = λ other m mark. absurd (omega (arith, m.1));
  steps_kept = λ other m mark. absurd (omega (arith, m.1));
}
kept_all clauses marks steps fact derives needed (suc n) within =
    let here : n < length steps = omega arith in
    let step = get_or steps n 0 in
    let at : slice_get steps n ≡ Some step = slice_get-get_or steps n 0 here in
    let next = derives n step at in
    rw (take-suc steps n 0 here)
    (kept_more clauses marks (take n steps) step next (needed.closed n step next.clause (omega arith) at next.at) (kept_all clauses marks steps fact derives needed n (omega arith)))

-- a step that gives what has a mark
marked_step : (clauses : List ClauseModel) (marks : List Bool) (step : ℕ) (clause : ClauseModel) → slice_get clauses step ≡ Some clause → HasMark marks clause.fact
    → is_marked clauses marks step ≡ true
marked_step clauses marks step clause at marked =
    subst (λ (c : ClauseModel). HasMark marks c.fact) (sym (get_or_from_slice_get clauses step clause (record { premises = []; fact = 0 }) at)) marked

-- those that are kept derive the fact, and need all that they give
pub IsDerivationOf-kept : (clauses : List ClauseModel) (marks : List Bool) (steps : List ℕ) (fact : ℕ) → IsDerivation clauses steps → Contains (given_by clauses steps) fact
    → AreNeeded clauses steps fact 0 marks → IsDerivationOf clauses (filter (is_marked clauses marks) steps) fact
IsDerivationOf-kept clauses marks steps fact derives given needed =
    let all : Kept clauses marks steps = rw (take-length steps) at (kept_all clauses marks steps fact derives needed (length steps) (omega arith)) in
    record {
      derivation = all.derivation;
      gives = all.kept fact given needed.itself;
      needed = λ other m. elim (needed.needed other (all.among other m).1) [
        | inl is ↦ inl is
        | inr w ↦ inr (record {
          step = w.step;
          among = all.steps_kept w.step w.among (marked_step clauses marks w.step w.clause w.at w.marked);
          clause = w.clause;
          at = w.at;
          premise = w.premise;
        })
      ];
    }

-- ---- the marks

-- what the first steps give, more of them give
given_later : (clauses : List ClauseModel) (steps : List ℕ) (fact n place : ℕ) → n ≤ place → place ≤ length steps → Contains (given_by clauses (take n steps)) fact
    → Contains (given_by clauses (take place steps)) fact
given_later clauses steps fact n zero le within m =
    let same : n ≡ 0 = omega arith in
    rw same at m
given_later clauses steps fact n (suc place) le within m = elim (cases_lt n (suc place)) [
  | inl earlier ↦
      let gives = filter_map-append (λ k. option_map (λ (c : ClauseModel). c.fact) (slice_get clauses k)) (take place steps) (get_or steps place 0 ∷ []) in
      rw (take-suc steps place 0 (omega arith), gives)
      (Contains-append_left (given_by clauses (take place steps)) (given_by clauses (get_or steps place 0 ∷ [])) fact (given_later clauses steps fact n place (omega arith) (omega arith) m))
  | inr late ↦ (let same : n ≡ suc place = omega arith in rw same at m)
]

-- at first the fact alone has one
pub AreNeeded-begin : (clauses : List ClauseModel) (steps : List ℕ) (size fact : ℕ) → fact < size → AreNeeded clauses steps fact (length steps) (set (replicate size false) fact true)
AreNeeded-begin clauses steps size fact within =
    let long : fact < length (replicate size false) = omega (arith, length-replicate size false) in
    record {
      itself = get_or-set_same (replicate size false) fact true false long;
      closed = λ place step clause le at at_clause marked. (let inside = slice_get_within steps place step at in absurd (omega (arith, inside, le)));
      needed = λ other marked. elim (eqb_tells other fact) [
        | inl w ↦ inl w.1
        | inr w ↦
            let none = none_marked size other in
            let here = get_or-set_other (replicate size false) fact other true false w.1 in
            absurd cc
      ];
    }
  where
    none_marked : (n other : ℕ) → get_or (replicate n false) other false ≡ false
    none_marked n other = elim (cases_lt other n) [
      | inl lt ↦ get_or-replicate n other false false lt
      | inr past ↦ get_or_past (replicate n false) other false (omega (arith, length-replicate n false))
    ]

-- the step at one place more, whose premises get marks if its fact has one
pub AreNeeded-more : (clauses : List ClauseModel) (steps : List ℕ) (fact n step : ℕ) (old new : List Bool) → IsDerivation clauses steps
    → AreNeeded clauses steps fact (n + 1) old → slice_get steps n ≡ Some step → step < length clauses
    → ((other : ℕ) → HasMark new other ↔ (HasMark old other ⊎ IsNeededAt clauses step old other))
    → AreNeeded clauses steps fact n new
AreNeeded-more clauses steps fact n step old new derives h at within told =
    let clause = clause_at clauses step in
    let at_clause = slice_get-clause_at clauses step within in record {
      itself = (told fact).1 (inl h.itself);
      closed = λ place other c le other_at c_at marked. elim (cases_lt n place) [
        | inl later ↦ elim ((told c.fact).0 marked) [
          | inl was ↦ (λ premise m. (told premise).1 (inl (h.closed place other c (omega (arith, later)) other_at c_at was premise m)))
          | inr now ↦
              let here = derives n step at in
              let there = derives place other other_at in
              let same_here : here.clause ≡ clause = same_Some here.clause clause (sym here.at ∙ at_clause) in
              let same_there : there.clause ≡ c = same_Some there.clause c (sym there.at ∙ c_at) in
              let inside = slice_get_within steps place other other_at in
              let early = here.premises c.fact (subst (λ (d : ClauseModel). Contains d.premises c.fact) (sym same_here) now.1) in
              absurd (there.fresh (subst (λ (d : ClauseModel). Contains (given_by clauses (take place steps)) d.fact) (sym same_there) (given_later clauses steps c.fact n place (omega (arith, later)) (omega (arith, inside)) early)))
        ]
        | inr here ↦
            let place_is : place ≡ n = omega (arith, here, le) in
            let step_is : step ≡ other = same_Some step other (sym at ∙ (rw place_is at other_at)) in
            let clause_is : clause ≡ c = same_Some clause c (sym at_clause ∙ (rw step_is c_at)) in
            let was : HasMark old clause.fact = elim ((told clause.fact).0 (rw clause_is marked)) [ inl w ↦ w | inr w ↦ w.0 ] in
            λ premise m. (told premise).1 (inr (was, rw clause_is m))
      ];
      needed = λ other marked. elim ((told other).0 marked) [
        | inl was ↦ elim (h.needed other was) [
          | inl is ↦ inl is
          | inr w ↦ inr (record { step = w.step; among = w.among; clause = w.clause; at = w.at; marked = (told w.clause.fact).1 (inl w.marked); premise = w.premise })
        ]
        | inr now ↦ inr (record { step = step; among = Contains-slice_get steps n step at; clause = clause; at = at_clause; marked = (told clause.fact).1 (inl now.0); premise = now.1 })
      ];
    }

-- one more fact gets a mark
pub marked_more : (was now : List Bool) (facts : List ℕ) (i index fact : ℕ) → index ≡ fact → i < length facts → fact ≡ get_or facts i fact → fact < length now
    → ((other : ℕ) → HasMark now other ↔ (HasMark was other ⊎ Contains (take i facts) other))
    → (other : ℕ) → HasMark (set now index true) other ↔ (HasMark was other ⊎ Contains (take (i + 1) facts) other)
marked_more was now facts i index fact index_is lt is inside told other =
    let more : take (i + 1) facts ≡ take i facts ++ fact ∷ [] = take_more facts i fact lt ∙ ap (λ f. take i facts ++ f ∷ []) (sym is) in
    rw (index_is, more) (
      λ h. elim (eqb_tells other fact) [
        | inl w ↦ inr (rw w.1 (Contains-push (take i facts) fact))
        | inr w ↦ elim ((told other).0 (rw (get_or-set_other now fact other true false w.1) at h)) [
          | inl old ↦ inl old
          | inr earlier ↦ inr (Contains-append_left (take i facts) (fact ∷ []) other earlier)
        ]
      ],
      λ e. elim e [
        | inl old ↦ stays_marked now fact other inside ((told other).1 (inl old))
        | inr there ↦ elim (Contains-push_cases (take i facts) fact other there) [
          | inl earlier ↦ stays_marked now fact other inside ((told other).1 (inr earlier))
          | inr same ↦ rw (← same) (get_or-set_same now fact true false inside)
        ]
      ],
    )

-- ---- a list of which some are kept

next_kept : (p : ℕ → Bool) (xs : List ℕ) (i x : ℕ) → i < length xs → x ≡ get_or xs i x → filter p (take (i + 1) xs) ≡ filter p (take i xs) ++ cond (p x) (x ∷ []) []
next_kept p xs i x lt is = subst (λ (y : ℕ). filter p (take (i + 1) xs) ≡ filter p (take i xs) ++ cond (p y) (y ∷ []) []) (sym is) (filter_more p xs i x lt)

pub kept_next : (p : ℕ → Bool) (xs : List ℕ) (i x : ℕ) → i < length xs → x ≡ get_or xs i x → p x ≡ true → filter p (take (i + 1) xs) ≡ filter p (take i xs) ++ x ∷ []
kept_next p xs i x lt is passes = next_kept p xs i x lt is ∙ ap (λ (b : Bool). filter p (take i xs) ++ cond b (x ∷ []) []) passes

pub left_next : (p : ℕ → Bool) (xs : List ℕ) (i x : ℕ) → i < length xs → x ≡ get_or xs i x → p x ≡ false → filter p (take (i + 1) xs) ≡ filter p (take i xs)
left_next p xs i x lt is fails = next_kept p xs i x lt is ∙ ap (λ (b : Bool). filter p (take i xs) ++ cond b (x ∷ []) []) fails ∙ append-nil (filter p (take i xs))
