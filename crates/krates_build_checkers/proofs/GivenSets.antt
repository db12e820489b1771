-- Sets of facts, as facts are added to them.
use Rattle.std.proofs.Common.{◌≡◌, ◌↔◌, Bool, ℕ, ◌+◌, ◌<◌, ◌≤◌, All, get_or, length, take, true, cond, IsTrue, List, [], ◌∷◌, ◌++◌, Contains, map, sym, ◌∙◌, subst, inl, inr}
use Rattle.std.proofs.lemmas.List.Elements.{All-cons, All-contains, All-nil, All-push, Contains-append_left, Contains-append_right, Contains-get_or, Contains-push, Contains-push_cases}
use Rattle.std.proofs.lemmas.List.{map_more, take_all}
use Rattle.std.specs.BTreeMap.{is_at}
use Rattle.std.specs.BTreeSet.{BTreeSet, contains}
use Rattle.std.specs.Ordering.{is_eq}
use Rattle.krates_rules.proofs.Elements.{contains_image, contains_source}
use Rattle.krates_rules.proofs.Members.{contains_of, member_any, member_of, passing_of}
use Rattle.krates_rules.proofs.PutElements.{equal_is, is_equal, none_there, put_step}
use Rattle.krates_build_facts.specs.FactModels.{FactModel, fact_view}
use Rattle.krates_build_facts.specs.FactOrder.{fact_cmp}
use Rattle.krates_build_facts.specs.declared.facts.BuildFact.{BuildFact}
use Rattle.krates_build_facts.proofs.FactOrder.{fact_tells}
use Rattle.krates_build_facts.proofs.RowLists.{Each, first_of, rest_of}
use Rattle.krates_build_checkers.specs.GivenFacts.{HasFacts, facts_of_set}

-- the set answers for a fact
pub set_tells : (set : BTreeSet BuildFact) (k : BuildFact) → IsTrue (contains fact_cmp set k) ↔ Contains (facts_of_set set) (fact_view k)
set_tells set k = (
  λ t. (
      let w = passing_of (is_at (fact_cmp k)) set.keys t in
      let same : fact_view k ≡ fact_view w.from = (fact_tells k w.from).0 (is_equal (fact_cmp k w.from) w.passes) in
      subst (Contains (facts_of_set set)) (sym same) (contains_image fact_view set.keys w.from (contains_of set.keys w.from w.member))),
  λ c. (
      let w = contains_source fact_view set.keys (fact_view k) c in
      member_any (is_at (fact_cmp k)) set.keys w.0 (member_of set.keys w.0 w.1) (equal_is (fact_cmp k w.0) ((fact_tells k w.0).1 (sym w.2)))),
)

pub no_facts : (set : BTreeSet BuildFact) → set.keys ≡ [] → HasFacts set []
no_facts set e f = (λ c. subst (λ (ks : List BuildFact). Contains (map fact_view ks) f) e c, λ c. absurd (none_there f c))

-- what the set answers once a fact is added
grown_tells : (old new : BTreeSet BuildFact) (k q : BuildFact) → ((p : BuildFact) → contains fact_cmp new p ≡ cond (is_at (fact_cmp k) p) true (contains fact_cmp old p))
    → Contains (facts_of_set new) (fact_view q) ↔ Contains (facts_of_set old ++ fact_view k ∷ []) (fact_view q)
grown_tells old new k q grown =
    let put = put_step (is_eq (fact_cmp k q)) (contains fact_cmp old q) (facts_of_set old) (fact_view k) (fact_view q) (λ t. (fact_tells k q).0 (is_equal (fact_cmp k q) t))
    (λ e. equal_is (fact_cmp k q) ((fact_tells k q).1 e)) (set_tells old q) in (
      λ c. put.0 (sym (grown q) ∙ (set_tells new q).1 c),
      λ c. (set_tells new q).0 (grown q ∙ put.1 c),
    )

pub more_facts : (old new : BTreeSet BuildFact) (facts : List FactModel) (k : BuildFact) → ((q : BuildFact) → contains fact_cmp new q ≡ cond (is_at (fact_cmp k) q) true (contains fact_cmp old q)) → HasFacts old facts
    → HasFacts new (facts ++ fact_view k ∷ [])
more_facts old new facts k grown h f = (
  λ c. (
      let w = contains_source fact_view new.keys f c in
      let seen : Contains (facts_of_set new) (fact_view w.0) = subst (Contains (facts_of_set new)) (sym w.2) c in
      let among : Contains (facts_of_set old ++ fact_view k ∷ []) f = subst (Contains (facts_of_set old ++ fact_view k ∷ [])) w.2 ((grown_tells old new k w.0 grown).0 seen) in
      elim (Contains-push_cases (facts_of_set old) (fact_view k) f among) [
        | inl before ↦ Contains-append_left facts (fact_view k ∷ []) f ((h f).0 before)
        | inr is ↦ subst (Contains (facts ++ fact_view k ∷ [])) is (Contains-push facts (fact_view k))
      ]),
  λ c. elim (Contains-push_cases facts (fact_view k) f c) [
    | inl before ↦ (
        let there = (h f).1 before in
        let w = contains_source fact_view old.keys f there in
        let seen : Contains (facts_of_set old) (fact_view w.0) = subst (Contains (facts_of_set old)) (sym w.2) there in
        subst (Contains (facts_of_set new)) w.2 ((grown_tells old new k w.0 grown).1 (Contains-append_left (facts_of_set old) (fact_view k ∷ []) (fact_view w.0) seen)))
    | inr is ↦ subst (Contains (facts_of_set new)) is ((grown_tells old new k k grown).1 (Contains-push (facts_of_set old) (fact_view k)))
  ],
)

-- what a set answers
pub given_told : (set : BTreeSet BuildFact) (k : BuildFact) (b : Bool) → b ≡ contains fact_cmp set k → IsTrue b ↔ Contains (facts_of_set set) (fact_view k)
given_told set k b e = (λ t. (set_tells set k).0 (sym e ∙ t), λ c. e ∙ (set_tells set k).1 c)

-- ---- what holds of each fact of a list

pub all_at : {A : Type 0} (P : FactModel → Type 0) (f : A → FactModel) (xs : List A) (i : ℕ) (d : A) → i < length xs → All P (map f xs) → P (f (get_or xs i d))
all_at P f xs i d lt all = All-contains P (map f xs) (f (get_or xs i d)) all (contains_image f xs (get_or xs i d) (Contains-get_or xs i d lt))

pub all_more : {A : Type 0} (P : FactModel → Type 0) (f : A → FactModel) (xs : List A) (i : ℕ) (d : A) → i < length xs → All P (map f (take i xs)) → P (f (get_or xs i d)) → All P (map f (take (i + 1) xs))
all_more P f xs i d lt all h = subst (All P) (sym (map_more f xs i d lt)) (All-push P (map f (take i xs)) (f (get_or xs i d)) all h)

pub all_of : {A : Type 0} (P : FactModel → Type 0) (f : A → FactModel) (xs : List A) (i : ℕ) → length xs ≤ i → All P (map f (take i xs)) → All P (map f xs)
all_of P f xs i le all = subst (λ ys. All P (map f ys)) (take_all i xs le) all

pub all_members : (P : FactModel → Type 0) (fs : List FactModel) → Each P fs → All P fs
all_members P [] h = All-nil P
all_members P (f ∷ fs) h = All-cons P f fs (first_of P f fs h) (all_members P fs (rest_of P f fs h))

pub all_left : (P : FactModel → Type 0) (xs ys : List FactModel) → All P (xs ++ ys) → All P xs
all_left P xs ys all = all_members P xs (λ f c. All-contains P (xs ++ ys) f all (Contains-append_left xs ys f c))

pub all_right : (P : FactModel → Type 0) (xs ys : List FactModel) → All P (xs ++ ys) → All P ys
all_right P xs ys all = all_members P ys (λ f c. All-contains P (xs ++ ys) f all (Contains-append_right xs ys f c))
