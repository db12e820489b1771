-- A derivation by clauses is one by the rows that they stand for.
use Rattle.std.proofs.Common.{◌≡◌, ℕ, zero, suc, ◌<◌, ◌≤◌, List, [], ◌∷◌, ◌++◌, All, Contains, Some, length, get_or, take, map, option_map, inl, inr, refl, sym, ap, ◌∙◌, subst, arith}
use Rattle.std.proofs.lemmas.List.{take-map}
use Rattle.std.proofs.lemmas.List.Elements.{All-contains, Contains-append_cases, Contains-push_cases}
use Rattle.std.proofs.lemmas.Option.{get_or_from_slice_get, same_Some, slice_get-get_or, slice_get_within}
use Rattle.std.proofs.Math.Seq.{take-length, take-suc}
use Rattle.std.specs.List.{cons_option, slice_get}
use Rattle.krates_rules.proofs.Elements.{contains_image, contains_source}
use Rattle.krates_rules.proofs.Standings.{contains_at}
use Rattle.krates_build_tables.specs.declared.tables.Tables.{Tables}
use Rattle.krates_closure.specs.Clauses.{ClauseModel, NamesBelow}
use Rattle.krates_closure.specs.Closing.{clause_at}
use Rattle.krates_closure.specs.Closure.{IsDerivation, IsDerivationOf, given_by}
use Rattle.krates_build_facts.specs.FactModels.{FactModel, RuleModel, Lost}
use Rattle.krates_grounding.specs.Grounding.{IsGrounded, fact_at, rule_of}
use Rattle.krates_build_facts.specs.Meanings.{Follows, by_row}
use Rattle.krates_build_facts.specs.Steps.{AreSteps, AreStepsTo, MayComeNext, StepsAreSound, given_in}
use Rattle.krates_grounding.proofs.FollowingNumbers.{row_of}
use Rattle.krates_build_facts.proofs.RowLists.{here, there}

-- ---- from clauses

only : {A : Type 0} (x y : A) → Contains (x ∷ []) y → x ≡ y
only x y h = elim (Contains-push_cases [] x y h) [ inl none ↦ absurd (omega (arith, none.1)) | inr is ↦ is ]

mapped_at : {A B : Type 0} (f : A → B) (xs : List A) (k : ℕ) (y : B) → slice_get (map f xs) k ≡ Some y → (x : A) × (slice_get xs k ≡ Some x) × (f x ≡ y)
mapped_at f [] k y h = absurd cc
mapped_at f (x ∷ xs) zero y h = (x, refl, same_Some (f x) y h)
mapped_at f (x ∷ xs) (suc k) y h = mapped_at f xs k y h

module _ (t : Tables) (facts : List FactModel) (clauses : List ClauseModel) (g : IsGrounded t (record { facts = facts; rules = map (rule_of facts) clauses })) (below : All (NamesBelow (length facts)) clauses) where
  -- the row that a step stands for
  abbrev pub row_at : ℕ → RuleModel
  row_at number = rule_of facts (clause_at clauses number)

  clause_is : (number : ℕ) (clause : ClauseModel) → slice_get clauses number ≡ Some clause → clause_at clauses number ≡ clause
  clause_is number clause at = get_or_from_slice_get clauses number clause (record { premises = []; fact = 0 }) at

  -- rows give what the steps give
  given_rows : (numbers : List ℕ) → ((number : ℕ) → Contains numbers number → number < length clauses) → given_in (map row_at numbers) ≡ map (fact_at facts) (given_by clauses numbers)
  given_rows [] within = refl
  given_rows (number ∷ numbers) within =
      let inside : number < length clauses = within number (here number numbers) in
      let at : slice_get clauses number ≡ Some (clause_at clauses number) = slice_get-get_or clauses number (record { premises = []; fact = 0 }) inside in
      let rest = given_rows numbers (λ n m. within n (there number numbers n m)) in
      let first : given_by clauses (number ∷ numbers) ≡ (clause_at clauses number).fact ∷ given_by clauses numbers =
      ap (λ found. cons_option (option_map (λ (clause : ClauseModel). clause.fact) found) (given_by clauses numbers)) at in
      rw first (ap (λ (fs : List FactModel). fact_at facts (clause_at clauses number).fact ∷ fs) rest)

  -- what has a number
  fact_below : (number : ℕ) (clause : ClauseModel) → slice_get clauses number ≡ Some clause → NamesBelow (length facts) clause
  fact_below number clause at = All-contains (NamesBelow (length facts)) clauses clause below (contains_at clauses number clause at)

  same_number : (m n : ℕ) → m < length facts → n < length facts → fact_at facts m ≡ fact_at facts n → m ≡ n
  same_number m n m_in n_in same =
      g.distinct m n (fact_at facts n) (slice_get-get_or facts m (Lost 0 0) m_in ∙ ap Some same) (slice_get-get_or facts n (Lost 0 0) n_in)

  module _ (numbers : List ℕ) (derives : IsDerivation clauses numbers) where
    within : (number : ℕ) → Contains numbers number → number < length clauses
    within number m =
        let next = derives m.0 number (slice_get-get_or numbers m.0 number m.1 ∙ ap Some m.2) in
        slice_get_within clauses number next.clause next.at

    within_first : (n number : ℕ) → Contains (take n numbers) number → number < length clauses
    within_first n number m = within number (first_in numbers n number m)
      where
        first_in : (xs : List ℕ) (n x : ℕ) → Contains (take n xs) x → Contains xs x
        first_in xs zero x m = absurd (omega (arith, m.1))
        first_in [] (suc n) x m = m
        first_in (y ∷ ys) (suc n) x m = elim (Contains-append_cases (y ∷ []) (take n ys) x m) [
          | inl one ↦ subst (Contains (y ∷ ys)) (only y x one) (here y ys)
          | inr rest ↦ there y ys x (first_in ys n x rest)
        ]

    -- what is given has a number
    given_below : (n m : ℕ) → Contains (given_by clauses (take n numbers)) m → m < length facts
    given_below n m c = go (take n numbers) (within_first n) c
      where
        go : (xs : List ℕ) → ((x : ℕ) → Contains xs x → x < length clauses) → Contains (given_by clauses xs) m → m < length facts
        go [] inside c = absurd (omega (arith, c.1))
        go (x ∷ xs) inside c =
            let clause = clause_at clauses x in
            let at : slice_get clauses x ≡ Some clause = slice_get-get_or clauses x (record { premises = []; fact = 0 }) (inside x (here x xs)) in
            let first : given_by clauses (x ∷ xs) ≡ clause.fact ∷ given_by clauses xs =
            ap (λ found. cons_option (option_map (λ (clause : ClauseModel). clause.fact) found) (given_by clauses xs)) at in
            elim (Contains-append_cases (clause.fact ∷ []) (given_by clauses xs) m (rw first at c)) [
              | inl one ↦ subst (λ k. k < length facts) (only clause.fact m one) (fact_below x clause at).fact
              | inr rest ↦ go xs (λ y d. inside y (there x xs y d)) rest
            ]

    pub rows_are_steps : AreSteps t (map row_at numbers)
    rows_are_steps place step at =
        let w = mapped_at row_at numbers place step at in
        let next = derives place w.0 w.1 in
        let row_is : rule_of facts next.clause ≡ step = ap (rule_of facts) (sym (clause_is w.0 next.clause next.at)) ∙ w.2 in
        let before : take place (map row_at numbers) ≡ map row_at (take place numbers) = take-map row_at place numbers in
        let gives : given_in (take place (map row_at numbers)) ≡ map (fact_at facts) (given_by clauses (take place numbers)) = ap given_in before ∙ given_rows (take place numbers) (within_first place) in
        subst (MayComeNext t (take place (map row_at numbers))) row_is (record {
          row = row_of t facts clauses g below next.clause (contains_at clauses w.0 next.clause next.at);
          premises = λ f m. (
              let p = contains_source (fact_at facts) next.clause.premises f m in
              rw gives (subst (Contains (map (fact_at facts) (given_by clauses (take place numbers)))) p.2 (contains_image (fact_at facts) (given_by clauses (take place numbers)) p.0 (next.premises p.0 p.1))));
          fresh = λ m. (
              let p = contains_source (fact_at facts) (given_by clauses (take place numbers)) (fact_at facts next.clause.fact) (rw gives at m) in
              let same : p.0 ≡ next.clause.fact = same_number p.0 next.clause.fact (given_below place p.0 p.1) (fact_below w.0 next.clause next.at).fact p.2 in
              next.fresh (subst (Contains (given_by clauses (take place numbers))) same p.1));
        })

  -- where the steps derive a fact, their rows do
  pub rows_derive : (numbers : List ℕ) (n : ℕ) (f : FactModel) → IsDerivationOf clauses numbers n → slice_get facts n ≡ Some f → AreStepsTo t (map row_at numbers) f
  rows_derive numbers n f derives at =
      let all : given_in (map row_at numbers) ≡ map (fact_at facts) (given_by clauses numbers) = given_rows numbers (within numbers derives.derivation) in
      let is : fact_at facts n ≡ f = get_or_from_slice_get facts n f (Lost 0 0) at in
      record {
        steps_are = rows_are_steps numbers derives.derivation;
        gives = rw all (subst (Contains (map (fact_at facts) (given_by clauses numbers))) is (contains_image (fact_at facts) (given_by clauses numbers) n derives.gives));
        needed = λ other m. (
            let p = contains_source (fact_at facts) (given_by clauses numbers) other (rw all at m) in
            elim (derives.needed p.0 p.1) [
              | inl same ↦ inl (sym p.2 ∙ ap (fact_at facts) same ∙ is)
              | inr w ↦ inr (
                row_at w.step,
                contains_image row_at numbers w.step w.among,
                subst (λ (clause : ClauseModel). Contains (map (fact_at facts) clause.premises) other) (sym (clause_is w.step w.clause w.at))
                    (subst (Contains (map (fact_at facts) w.clause.premises)) p.2 (contains_image (fact_at facts) w.clause.premises p.0 w.premise)),
              )
            ]);
      }
