-- The facts that are told, number by number.
use Rattle.std.proofs.Common.{◌≡◌, inl, inr, ℕ, ◌+◌, ◌<◌, ◌≤◌, List, [], ◌∷◌, ◌++◌, true, All, Contains, Some, length, get_or, map, option_map, arith, refl, sym, ap, ◌∙◌, subst}
use Rattle.std.proofs.lemmas.Bool.{cases_order}
use Rattle.std.proofs.lemmas.List.{length-map, map-append}
use Rattle.std.proofs.lemmas.List.Elements.{Contains-append_left, Contains-get_or, Contains-push, Contains-push_cases}
use Rattle.std.proofs.lemmas.Option.{get_or_from_slice_get, slice_get-map, slice_get_read, same_Some}
use Rattle.std.specs.List.{slice_get}
use Rattle.krates_rules.proofs.Elements.{contains_image, contains_source}
use Rattle.krates_build_tables.specs.declared.tables.Tables.{Tables}
use Rattle.krates_closure.specs.Clauses.{ClauseModel, ClausesModel, NamesBelow}
use Rattle.krates_closure.specs.Closure.{Derivable}
use Rattle.std.specs.BTreeMap.{BTreeMap}
use Rattle.krates_build_facts.specs.FactModels.{FactModel, Lost, fact_view}
use Rattle.krates_grounding.specs.Grounding.{AreToldUpTo}
use Rattle.krates_build_facts.specs.Mattering.{MayMatter}
use Rattle.krates_build_facts.specs.Meanings.{Follows}
use Rattle.krates_build_facts.specs.FactOrder.{fact_cmp}
use Rattle.krates_grounding.specs.Numbers.{AreDerived}
use Rattle.krates_build_facts.specs.contracts.facts.BuildFactOrd.TheImpl.Laws.{matches_eq-law}
use Rattle.krates_build_facts.specs.contracts.facts.BuildFactPartialEq.TheImpl.{ghosts as fact_equality}
use Rattle.krates_build_facts.specs.declared.facts.BuildFact.{BuildFact}
use Rattle.krates_build_facts.proofs.FactOrder.{fact_tells}
use Rattle.krates_grounding.proofs.FollowingNumbers.{derived_follows, follows_derived}
use Rattle.krates_grounding.proofs.GroundFacts.{is_equal}

pub none_told : (clauses : List ClauseModel) (all : List FactModel) (items : List BuildFact) → items ≡ [] → AreToldUpTo clauses all (map fact_view items) 0
none_told clauses all items e = subst (λ (xs : List BuildFact). AreToldUpTo clauses all (map fact_view xs) 0) (sym e) (record {
  each = λ f c. absurd (omega (arith, c.1));
  all_told = λ n f lt at d. absurd (omega (arith, lt));
})

-- the next isn't told, since it isn't derivable
pub not_told : (clauses : List ClauseModel) (all told : List FactModel) (n : ℕ) → (Derivable clauses n → ⊥) → AreToldUpTo clauses all told n → AreToldUpTo clauses all told (n + 1)
not_told clauses all told n never h = record {
  each = λ f c. (let w = h.each f c in (w.0, omega (arith, w.1), w.2, w.3));
  all_told = λ m f lt at d. elim (cases_order m n) [
    | inl same ↦ absurd (never (subst (Derivable clauses) same d))
    | inr other ↦ elim other [ inl below ↦ h.all_told m f below at d | inr above ↦ absurd (omega arith) ]
  ];
}

-- the next is told
pub one_told : (clauses : List ClauseModel) (all : List FactModel) (told more : List BuildFact) (k : BuildFact) (n : ℕ) → more ≡ told ++ k ∷ [] → slice_get all n ≡ Some (fact_view k)
    → Derivable clauses n → AreToldUpTo clauses all (map fact_view told) n → AreToldUpTo clauses all (map fact_view more) (n + 1)
one_told clauses all told more k n pushed here d h =
    let f = fact_view k in
    let fs = map fact_view told in
    let same : map fact_view more ≡ fs ++ f ∷ [] = ap (map fact_view) pushed ∙ map-append fact_view told (k ∷ []) in
    subst (λ (gs : List FactModel). AreToldUpTo clauses all gs (n + 1)) (sym same) (record {
      each = λ g c. elim (Contains-push_cases fs f g c) [
        | inl before ↦ (let w = h.each g before in (w.0, omega (arith, w.1), w.2, w.3))
        | inr is ↦ (n, omega arith, subst (λ (x : FactModel). slice_get all n ≡ Some x) is here, d)
      ];
      all_told = λ m g lt at e. elim (cases_order m n) [
        | inl mine ↦ (
            let is : f ≡ g = same_Some f g (sym here ∙ ap (slice_get all) (sym mine) ∙ at) in
            subst (Contains (fs ++ f ∷ [])) is (Contains-push fs f))
        | inr other ↦ elim other [
          | inl below ↦ Contains-append_left fs (f ∷ []) g (h.all_told m g below at e)
          | inr above ↦ absurd (omega arith)
        ]
      ];
    })

-- facts that are equal say the same
same_fact : (x y : BuildFact) → fact_equality.eq x y ≡ true → fact_view x ≡ fact_view y
same_fact x y e = (fact_tells x y).0 (is_equal (fact_cmp x y) (sym (matches_eq-law x y) ∙ e))

-- in order, and one of those that are equal, the same facts are told
pub told_in_order : (clauses : List ClauseModel) (all : List FactModel) (told sorted : List BuildFact) (n : ℕ)
    → ((x : BuildFact) → Contains sorted x → Contains told x) → ((x : BuildFact) → Contains told x → (y : BuildFact) × Contains sorted y × (fact_equality.eq x y ≡ true))
    → AreToldUpTo clauses all (map fact_view told) n → AreToldUpTo clauses all (map fact_view sorted) n
told_in_order clauses all told sorted n from kept h = record {
  each = λ f c. (
      let w = contains_source fact_view sorted f c in
      h.each f (subst (Contains (map fact_view told)) w.2 (contains_image fact_view told w.0 (from w.0 w.1))));
  all_told = λ m f lt at d. (
      let w = contains_source fact_view told f (h.all_told m f lt at d) in
      let k = kept w.0 w.1 in
      subst (Contains (map fact_view sorted)) (sym (same_fact w.0 k.0 k.2) ∙ w.2) (contains_image fact_view sorted k.0 k.1));
}

module _ (t : Tables) (all : List FactModel) (numbers : BTreeMap BuildFact ℕ) (clauses : ClausesModel) (h : AreDerived t all numbers clauses) where
  below : All (NamesBelow (length all)) clauses.list
  below = subst (λ n. All (NamesBelow n) clauses.list) h.ground.size h.ground.below

  pub told_follow : (told : List FactModel) (bound : ℕ) → AreToldUpTo clauses.list all told bound → All (Follows t) told
  told_follow told bound are k d lt =
      let f = get_or told k d in
      let w = are.each f (Contains-get_or told k d lt) in
      subst (Follows t) (get_or_from_slice_get all w.0 f (Lost 0 0) w.2) (derived_follows t all clauses.list h.grounded below w.0 w.3)

  pub told_all : (told : List FactModel) (bound : ℕ) → length all ≤ bound → AreToldUpTo clauses.list all told bound → (f : FactModel) → MayMatter t f → Follows t f → Contains told f
  told_all told bound le are f matters follows =
      let d = follows_derived t all clauses.list h.grounded below f follows in
      let c = d.numbered matters in
      let at : slice_get all c.0 ≡ Some f = slice_get_read all (length all) c.0 f refl c.1 (sym c.2) in
      are.all_told c.0 f (let lt = c.1 in omega arith) at (d.derived c.0 at)
