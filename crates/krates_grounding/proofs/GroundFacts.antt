-- Facts that get numbers, one by one, and the instances over them.
use Rattle.std.proofs.Common.{◌≡◌, ◌⊎◌, ℕ, zero, suc, ◌+◌, ◌-◌, ◌<◌, ◌≤◌, Bool, true, false, cond, List, [], ◌∷◌, ◌++◌, All, Contains, Equal, Option, Some, None, Ordering, Less, Greater, length, map, take, arith, refl, sym, ap, ◌∙◌, subst, inl, inr}
use Rattle.std.proofs.lemmas.List.{get_or_append_left, length-map, length_push, map-append, take_at}
use Rattle.std.proofs.lemmas.List.Elements.{All-cons, All-head, All-map, All-push, All-tail, All-weaker, Contains-get_or, Contains-push_cases}
use Rattle.std.proofs.lemmas.Option.{same_Some}
use Rattle.std.specs.BTreeMap.{BTreeMap, get, is_at}
use Rattle.std.specs.List.{slice_get}
use Rattle.std.specs.Map.{lookup}
use Rattle.std.specs.Ordering.{is_eq}
use Rattle.krates_rules.proofs.Standings.{contains_at}
use Rattle.krates_closure.specs.Clauses.{ClauseModel, ClausesModel, NamesBelow}
use Rattle.krates_build_facts.specs.FactModels.{FactModel, RuleModel, Lost, fact_view}
use Rattle.krates_grounding.specs.Grounding.{AreDistinct, AreNamed, HasNumbered, fact_at, facts_of, rule_of}
use Rattle.krates_build_facts.specs.FactOrder.{fact_cmp}
use Rattle.krates_grounding.specs.Numbers.{AreNumbersOf, IsGround, IsNumberOf}
use Rattle.krates_build_facts.specs.declared.facts.BuildFact.{BuildFact}
use Rattle.krates_build_facts.proofs.FactOrder.{fact_tells}

pub is_equal : (o : Ordering) → is_eq o ≡ true → o ≡ Equal
is_equal Less h = absurd cc
is_equal Equal h = refl
is_equal Greater h = absurd cc

-- the element behind a list
pub at_end : {A : Type 0} (xs : List A) (x : A) → slice_get (xs ++ x ∷ []) (length xs) ≡ Some x
at_end [] x = refl
at_end (y ∷ xs) x = at_end xs x

pub at_before : {A : Type 0} (xs ys : List A) (k : ℕ) (x : A) → slice_get xs k ≡ Some x → slice_get (xs ++ ys) k ≡ Some x
at_before [] ys k x at = absurd cc
at_before (y ∷ xs) ys zero x at = at
at_before (y ∷ xs) ys (suc k) x at = at_before xs ys k x at

-- the last element, or one before it
pub end_cases : {A : Type 0} (xs : List A) (x y : A) (k : ℕ) → slice_get (xs ++ x ∷ []) k ≡ Some y → (slice_get xs k ≡ Some y) ⊎ ((k ≡ length xs) × (x ≡ y))
end_cases [] x y zero at = inr (refl, same_Some x y at)
end_cases [] x y (suc k) at = absurd cc
end_cases (z ∷ xs) x y zero at = inl at
end_cases (z ∷ xs) x y (suc k) at = elim (end_cases xs x y k at) [
  | inl before ↦ inl before
  | inr w ↦ inr (ap (λ (n : ℕ). suc n) w.0, w.1)
]

number_step : (all : List FactModel) (f q : FactModel) (answer : Option ℕ) (same : Bool) → (same ≡ true → f ≡ q) → (f ≡ q → same ≡ true) → (Contains all f → ⊥) → IsNumberOf all q answer
    → IsNumberOf (all ++ f ∷ []) q (cond same (Some (length all)) answer)
number_step all f q answer true there back fresh h =
    let is : f ≡ q = there refl in
    record {
      at = subst (λ (x : FactModel). slice_get (all ++ f ∷ []) (length all) ≡ Some x) is (at_end all f);
      only = λ k at. elim (end_cases all f q k at) [
        | inl before ↦ absurd (fresh (subst (Contains all) (sym is) (contains_at all k q before)))
        | inr w ↦ w.0
      ];
    }
number_step all f q (Some n) false there back fresh h = record {
  at = at_before all (f ∷ []) n q h.at;
  only = λ k at. elim (end_cases all f q k at) [
    | inl before ↦ h.only k before
    | inr w ↦ (let yes : false ≡ true = back w.1 in absurd cc)
  ];
}
number_step all f q None false there back fresh h = λ c. elim (Contains-push_cases all f q c) [
  | inl before ↦ h before
  | inr is ↦ (let yes : false ≡ true = back is in absurd cc)
]

-- one more fact is numbered
pub more_numbers : (all : List FactModel) (k : BuildFact) (old new : BTreeMap BuildFact ℕ) → AreNumbersOf all old → get fact_cmp old k ≡ None
    → ((q : BuildFact) → get fact_cmp new q ≡ cond (is_eq (fact_cmp k q)) (Some (length all)) (get fact_cmp old q)) → AreNumbersOf (all ++ fact_view k ∷ []) new
more_numbers all k old new h none grown q =
    let tells = fact_tells k q in
    subst (IsNumberOf (all ++ fact_view k ∷ []) (fact_view q)) (sym (grown q))
    (number_step all (fact_view k) (fact_view q) (get fact_cmp old q) (is_eq (fact_cmp k q)) (λ e. tells.0 (is_equal _ e)) (λ e. ap is_eq (tells.1 e))
    (subst (IsNumberOf all (fact_view k)) none (h k)) (h q))

-- facts that are numbered later change no instance of before
pub fact_before : (all more : List FactModel) (n : ℕ) → n < length all → fact_at (all ++ more) n ≡ fact_at all n
fact_before all more n lt = get_or_append_left all more (Lost 0 0) n lt

facts_before : (all more : List FactModel) (ns : List ℕ) → All (λ n. n < length all) ns → map (fact_at (all ++ more)) ns ≡ map (fact_at all) ns
facts_before all more [] h = refl
facts_before all more (n ∷ ns) h =
    let here : fact_at (all ++ more) n ≡ fact_at all n = fact_before all more n (All-head (λ m. m < length all) n ns h) in
    let rest = facts_before all more ns (All-tail (λ m. m < length all) n ns h) in
    rw (here, rest) refl

pub rules_before : (all more : List FactModel) (clauses : List ClauseModel) → All (NamesBelow (length all)) clauses → map (rule_of (all ++ more)) clauses ≡ map (rule_of all) clauses
rules_before all more [] h = refl
rules_before all more (c ∷ cs) h =
    let below = All-head (NamesBelow (length all)) c cs h in
    let fact : fact_at (all ++ more) c.fact ≡ fact_at all c.fact = fact_before all more c.fact below.fact in
    let premises = facts_before all more c.premises below.premises in
    let rest = rules_before all more cs (All-tail (NamesBelow (length all)) c cs h) in
    rw (fact, premises, rest) refl

below_more : (n m : ℕ) (clauses : List ClauseModel) → n ≤ m → All (NamesBelow n) clauses → All (NamesBelow m) clauses
below_more n m clauses le h = All-weaker (NamesBelow n) (NamesBelow m) (λ c b. record {
  premises = All-weaker (λ k. k < n) (λ k. k < m) (λ k lt. omega arith) c.premises b.premises;
  fact = (let lt : c.fact < n = b.fact in omega arith);
}) clauses h

-- one more fact is numbered, and the clauses may name it
pub ground_more : (xs ys : List BuildFact) (k : BuildFact) (n : ℕ) (old new : BTreeMap BuildFact ℕ) (clauses grown : ClausesModel) → ys ≡ xs ++ k ∷ [] → n ≡ length xs
    → IsGround (map fact_view xs) old clauses → get fact_cmp old k ≡ None
    → ((q : BuildFact) → get fact_cmp new q ≡ cond (is_eq (fact_cmp k q)) (Some n) (get fact_cmp old q)) → grown ≡ record clauses { size = n + 1 }
    → IsGround (map fact_view ys) new grown
ground_more xs ys k n old new clauses grown pushed long h none step is =
    let all = map fact_view xs in
    let same : map fact_view ys ≡ all ++ fact_view k ∷ [] = ap (map fact_view) pushed ∙ map-append fact_view xs (k ∷ []) in
    let count : n ≡ length all = long ∙ sym (length-map xs fact_view) in
    subst (λ (fs : List FactModel). IsGround fs new grown) (sym same) (record {
      are_numbers = more_numbers all k old new h.are_numbers none (subst (λ (m : ℕ). (q : BuildFact) → get fact_cmp new q ≡ cond (is_eq (fact_cmp k q)) (Some m) (get fact_cmp old q)) count step);
      size = ap (λ (c : ClausesModel). c.size) is ∙ ap (λ m. m + 1) count ∙ sym (length_push all (fact_view k));
      below = subst (λ (c : ClausesModel). All (NamesBelow c.size) c.list) (sym is)
          (below_more clauses.size (n + 1) clauses.list (let e = h.size in omega arith) h.below);
    })

-- and no instance changes
pub numbered_more : (xs ys : List BuildFact) (k : BuildFact) (n number : ℕ) (old : BTreeMap BuildFact ℕ) (clauses grown : ClausesModel) → ys ≡ xs ++ k ∷ [] → n ≡ length xs → number ≡ n
    → IsGround (map fact_view xs) old clauses → grown ≡ record clauses { size = n + 1 }
    → HasNumbered (record { facts = map fact_view xs; rules = map (rule_of (map fact_view xs)) clauses.list })
    (record { facts = map fact_view ys; rules = map (rule_of (map fact_view ys)) grown.list }) (fact_view k) number
numbered_more xs ys k n number old clauses grown pushed long told h is =
    let all = map fact_view xs in
    let f = fact_view k in
    let same : map fact_view ys ≡ all ++ f ∷ [] = ap (map fact_view) pushed ∙ map-append fact_view xs (k ∷ []) in
    let count : number ≡ length all = told ∙ long ∙ sym (length-map xs fact_view) in
    let here : slice_get (all ++ f ∷ []) number ≡ Some f = subst (λ (m : ℕ). slice_get (all ++ f ∷ []) m ≡ Some f) (sym count) (at_end all f) in
    let before : map (rule_of (all ++ f ∷ [])) clauses.list ≡ map (rule_of all) clauses.list
    = rules_before all (f ∷ []) clauses.list (subst (λ n. All (NamesBelow n) clauses.list) h.size h.below) in
    subst (λ (fs : List FactModel). HasNumbered (record { facts = all; rules = map (rule_of all) clauses.list }) (record { facts = fs; rules = map (rule_of fs) grown.list }) f number) (sym same) (record {
      rules_are = ap (λ (c : ClausesModel). map (rule_of (all ++ f ∷ [])) c.list) is ∙ before;
      more = f ∷ [];
      facts_are = refl;
      at = here;
    })

-- a fact that is taken back leaves everything as it was
pub ground_back : (xs ys zs : List BuildFact) (k : BuildFact) (n : ℕ) (old new : BTreeMap BuildFact ℕ) (clauses : ClausesModel) → ys ≡ xs ++ k ∷ [] → n ≡ length ys → zs ≡ take (n - 1) ys
    → new.entries ≡ old.entries → IsGround (map fact_view xs) old clauses → IsGround (map fact_view zs) new clauses
ground_back xs ys zs k n old new clauses pushed long back unchanged h =
    let count : n - 1 ≡ length xs = (let e = long ∙ ap length pushed ∙ length_push xs k in omega arith) in
    let same : zs ≡ xs = back ∙ ap (λ m. take m ys) count ∙ ap (take (length xs)) pushed ∙ take_at xs (k ∷ []) (length xs) refl in
    subst (λ (fs : List BuildFact). IsGround (map fact_view fs) new clauses) (sym same) (record {
      are_numbers = λ q. subst (λ (es : List (BuildFact × ℕ)). IsNumberOf (map fact_view xs) (fact_view q) (lookup (is_at (λ k. fact_cmp q k)) es)) (sym unchanged) (h.are_numbers q);
      size = h.size;
      below = h.below;
    })

-- one more clause is there
pub ground_pushed : (all : List FactModel) (numbers : BTreeMap BuildFact ℕ) (clauses pushed : ClausesModel) (ns : List ℕ) (n : ℕ) → IsGround all numbers clauses → All (λ m. m < clauses.size) ns × (n < clauses.size)
    → pushed ≡ record clauses { list = clauses.list ++ record { premises = ns; fact = n } ∷ [] } → IsGround all numbers pushed
ground_pushed all numbers clauses pushed ns n h below is = subst (λ (p : ClausesModel). IsGround all numbers p) (sym is) (record {
  are_numbers = h.are_numbers;
  size = h.size;
  below = All-push (NamesBelow clauses.size) clauses.list _ h.below (record { premises = below.0; fact = below.1 });
})

-- ---- what always holds

-- each fact is a number's alone
pub ground_distinct : (xs : List BuildFact) (numbers : BTreeMap BuildFact ℕ) (clauses : ClausesModel) → IsGround (map fact_view xs) numbers clauses → AreDistinct (map fact_view xs)
ground_distinct xs numbers clauses h j k f at other =
    let w = seen_at xs j f at in
    let is : fact_view w.0 ≡ f = w.1 in
    only_one (map fact_view xs) f j k (get fact_cmp numbers w.0) (subst (λ (g : FactModel). IsNumberOf (map fact_view xs) g (get fact_cmp numbers w.0)) is (h.are_numbers w.0)) at other where
      seen_at : (ys : List BuildFact) (n : ℕ) (g : FactModel) → slice_get (map fact_view ys) n ≡ Some g → (q : BuildFact) × (fact_view q ≡ g)
      seen_at [] n g e = absurd cc
      seen_at (y ∷ ys) zero g e = (y, same_Some (fact_view y) g e)
      seen_at (y ∷ ys) (suc n) g e = seen_at ys n g e

      only_one : (all : List FactModel) (g : FactModel) (m n : ℕ) (answer : Option ℕ) → IsNumberOf all g answer → slice_get all m ≡ Some g → slice_get all n ≡ Some g → m ≡ n
      only_one all g m n None none e o = absurd (none (contains_at all m g e))
      only_one all g m n (Some number) is e o = is.only m e ∙ sym (is.only n o)

fact_within : (all : List FactModel) (n : ℕ) → n < length all → Contains all (fact_at all n)
fact_within all n lt = Contains-get_or all n (Lost 0 0) lt

facts_within : (all : List FactModel) (ns : List ℕ) → All (λ n. n < length all) ns → All (Contains all) (map (fact_at all) ns)
facts_within all ns h = All-map (Contains all) (fact_at all) ns (All-weaker (λ n. n < length all) (λ n. Contains all (fact_at all n)) (λ n lt. fact_within all n lt) ns h)

-- each fact of each instance has a number
pub ground_named : (all : List FactModel) (numbers : BTreeMap BuildFact ℕ) (clauses : ClausesModel) → IsGround all numbers clauses
    → AreNamed (record { facts = all; rules = map (rule_of all) clauses.list })
ground_named all numbers clauses h =
    let below = subst (λ n. All (NamesBelow n) clauses.list) h.size h.below in
    All-map (λ (rule : RuleModel). All (Contains all) (facts_of rule)) (rule_of all) clauses.list
    (All-weaker (NamesBelow (length all)) (λ clause. All (Contains all) (facts_of (rule_of all clause))) (λ clause b.
    All-cons (Contains all) (fact_at all clause.fact) (map (fact_at all) clause.premises) (fact_within all clause.fact b.fact) (facts_within all clause.premises b.premises)) clauses.list below)
