-- A list of facts that is inserted into a set, fact by fact.
use Rattle.std.proofs.Common.{◌≡◌, ◌↔◌, ◌<◌, ◌≤◌, ℕ, ◌+◌, List, [], ◌∷◌, ◌++◌, length, get_or, take, Bool, true, false, cond, IsTrue, Contains, inl, inr, refl, sym, ap, ◌∙◌, subst}
use Rattle.std.proofs.lemmas.List.{take_more, take_all, map-append}
use Rattle.std.proofs.lemmas.List.Elements.{Contains-append_left, Contains-push, Contains-push_cases}
use Rattle.std.specs.BTreeMap.{is_at}
use Rattle.std.specs.BTreeSet.{BTreeSet, contains}
use Rattle.std.specs.Ordering.{is_eq}
use Rattle.krates_derive.specs.FactRef.{fact_cmp, fact_of_ref, HasBetween, HasKeys, HasPairs, pair_cmp}
use Rattle.krates_rules.specs.StepViews.{fact_view, facts_view}
use Rattle.krates_rules.specs.declared.derivation.Fact.{Fact as ToldFact}
use Rattle.krates_derive.specs.declared.fact_ref.EdgeRef.{EdgeRef}
use Rattle.krates_derive.specs.declared.fact_ref.FactRef.{FactRef}
use Rattle.krates_derive.specs.declared.fact_ref.FactRef.TheVariants as keys
use Rattle.krates_derive.specs.declared.fact_set.Pair.{Pair}
use Rattle.krates_rules.proofs.DistinctIds.{OrderTellsSame}
use Rattle.krates_rules.proofs.PutElements.{equal_is, is_equal, none_there, put_step}
use Rattle.krates_derive.proofs.FactRefOrder.{key_tells, order_of_pair, pair_from, pair_to}
use Rattle.krates_ids.specs.Identity.{Identity}
use Rattle.krates_rules.specs.Facts.{Id, Edge, Fact, Kept}
use Rattle.krates_rules.specs.Resolved.{id_of}

-- a set without keys has no fact
pub keys_none : (set : BTreeSet FactRef) → set.keys ≡ [] → HasKeys set []
keys_none set e k = rw e (λ t. absurd cc, λ c. absurd (none_there (fact_of_ref k) c))

keys_put : OrderTellsSame → (old new : BTreeSet FactRef) (fs : List Fact) (k : FactRef) → ((q : FactRef) → contains fact_cmp new q ≡ cond (is_at (fact_cmp k) q) true (contains fact_cmp old q)) → HasKeys old fs
    → HasKeys new (fs ++ fact_of_ref k ∷ [])
keys_put tells old new fs k grown h q =
    subst (λ (b : Bool). IsTrue b ↔ Contains (fs ++ fact_of_ref k ∷ []) (fact_of_ref q)) (sym (grown q))
    (put_step (is_eq (fact_cmp k q)) (contains fact_cmp old q) fs (fact_of_ref k) (fact_of_ref q) (λ t. (key_tells tells k q).0 (is_equal (fact_cmp k q) t)) (λ e. equal_is (fact_cmp k q) ((key_tells tells k q).1 e)) (h q))

-- one more fact of the list
seen_step : (xs : List ToldFact) (i : ℕ) (x : ToldFact) → i < length xs → x ≡ get_or xs i x → facts_view (take i xs) ++ fact_view x ∷ [] ≡ facts_view (take (i + 1) xs)
seen_step xs i x lt is =
    let more = take_more xs i x lt ∙ ap (λ y. take i xs ++ y ∷ []) (sym is) in
    sym (ap facts_view more ∙ map-append fact_view (take i xs) (x ∷ []))

pub keys_more : OrderTellsSame → (old new : BTreeSet FactRef) (xs : List ToldFact) (i : ℕ) (x : ToldFact) (k : FactRef) → fact_of_ref k ≡ fact_view x → i < length xs → x ≡ get_or xs i x
    → ((q : FactRef) → contains fact_cmp new q ≡ cond (is_at (fact_cmp k) q) true (contains fact_cmp old q)) → HasKeys old (facts_view (take i xs)) → HasKeys new (facts_view (take (i + 1) xs))
keys_more tells old new xs i x k seen lt is grown h =
    subst (HasKeys new) (ap (λ (f : Fact). facts_view (take i xs) ++ f ∷ []) seen ∙ seen_step xs i x lt is) (keys_put tells old new (facts_view (take i xs)) k grown h)

pub keys_all : (set : BTreeSet FactRef) (xs : List ToldFact) (i : ℕ) → length xs ≤ i → HasKeys set (facts_view (take i xs)) → HasKeys set (facts_view xs)
keys_all set xs i le h = subst (λ (ys : List ToldFact). HasKeys set (facts_view ys)) (take_all i xs le) h

-- ---- crates of edges

pair_step : (b o : Bool) (fs : List Fact) (e : Edge) (p c : Id) → (b ≡ true → (e.parent ≡ p) × (e.child ≡ c)) → (e.parent ≡ p → e.child ≡ c → b ≡ true) → (IsTrue o ↔ HasBetween fs p c)
    → IsTrue (cond b true o) ↔ HasBetween (fs ++ Kept e ∷ []) p c
pair_step true o fs e p c there back h = (λ t. (e, Contains-push fs (Kept e), (there refl).0, (there refl).1), λ w. refl)
pair_step false o fs e p c there back h = (
  λ t. (let w = h.0 t in (w.0, Contains-append_left fs (Kept e ∷ []) (Kept w.0) w.1, w.2, w.3)),
  λ w. elim (Contains-push_cases fs (Kept e) (Kept w.0) w.1) [
    | inl x ↦ h.1 (w.0, x, w.2, w.3)
    | inr same ↦ absurd (
        let s : e ≡ w.0 = cc in
        let no : false ≡ true = back (ap (λ (y : Edge). y.parent) s ∙ w.2) (ap (λ (y : Edge). y.child) s ∙ w.3) in
        cc)
  ],
)

pub pairs_none : (set : BTreeSet Pair) → set.keys ≡ [] → HasPairs set []
pairs_none set e k = rw e (λ t. absurd cc, λ w. absurd (none_there (Kept w.0) w.1))

pub pairs_put : OrderTellsSame → (old new : BTreeSet Pair) (fs : List Fact) (p c : Identity) (e : Edge) → id_of p ≡ e.parent → id_of c ≡ e.child
    → ((q : Pair) → contains pair_cmp new q ≡ cond (is_eq (order_of_pair p c q)) true (contains pair_cmp old q)) → HasPairs old fs → HasPairs new (fs ++ Kept e ∷ [])
pairs_put tells old new fs p c e from to grown h q =
    subst (λ (b : Bool). IsTrue b ↔ HasBetween (fs ++ Kept e ∷ []) (id_of q.parent.now) (id_of q.child.now)) (sym (grown q))
    (pair_step (is_eq (order_of_pair p c q)) (contains pair_cmp old q) fs e (id_of q.parent.now) (id_of q.child.now)
    (λ t. (let w = pair_to tells p c q (is_equal (order_of_pair p c q) t) in (sym from ∙ w.0, sym to ∙ w.1)))
    (λ x y. equal_is (order_of_pair p c q) (pair_from tells p c q (from ∙ x) (to ∙ y))) (h q))

-- a fact that isn't an edge adds no pair
pub pairs_same : (set : BTreeSet Pair) (fs : List Fact) (f : Fact) → ((e : Edge) → f ≡ Kept e → ⊥) → HasPairs set fs → HasPairs set (fs ++ f ∷ [])
pairs_same set fs f other h q = (
  λ t. (let w = (h q).0 t in (w.0, Contains-append_left fs (f ∷ []) (Kept w.0) w.1, w.2, w.3)),
  λ w. elim (Contains-push_cases fs f (Kept w.0) w.1) [ inl x ↦ (h q).1 (w.0, x, w.2, w.3) | inr same ↦ absurd (other w.0 same) ],
)

pub pairs_more : (new : BTreeSet Pair) (xs : List ToldFact) (i : ℕ) (x : ToldFact) → i < length xs → x ≡ get_or xs i x → HasPairs new (facts_view (take i xs) ++ fact_view x ∷ []) → HasPairs new (facts_view (take (i + 1) xs))
pairs_more new xs i x lt is h = subst (HasPairs new) (seen_step xs i x lt is) h

-- a fact is an edge only where it is read as one
never_kept : (k : FactRef) → ((e : EdgeRef) → k ≡ keys.Kept e → ⊥) → (e : Edge) → fact_of_ref k ≡ Kept e → ⊥
never_kept (keys.Crate i) other e same = absurd cc
never_kept (keys.Feature f) other e same = absurd cc
never_kept (keys.Kept d) other e same = other d refl
never_kept (keys.Toggled t) other e same = absurd cc

pub pairs_past : (set : BTreeSet Pair) (xs : List ToldFact) (i : ℕ) (x : ToldFact) (k : FactRef) → fact_of_ref k ≡ fact_view x → ((e : EdgeRef) → k ≡ keys.Kept e → ⊥) → i < length xs → x ≡ get_or xs i x
    → HasPairs set (facts_view (take i xs)) → HasPairs set (facts_view (take (i + 1) xs))
pairs_past set xs i x k seen other lt is h = pairs_more set xs i x lt is (pairs_same set (facts_view (take i xs)) (fact_view x) (λ e same. never_kept k other e (seen ∙ same)) h)

pub pairs_all : (set : BTreeSet Pair) (xs : List ToldFact) (i : ℕ) → length xs ≤ i → HasPairs set (facts_view (take i xs)) → HasPairs set (facts_view xs)
pairs_all set xs i le h = subst (λ (ys : List ToldFact). HasPairs set (facts_view ys)) (take_all i xs le) h
