-- The crates of a list of facts, put into a set fact by fact, and counted.
use Rattle.std.proofs.Common.{◌≡◌, ◌↔◌, ◌<◌, ◌≤◌, ℕ, zero, suc, ◌+◌, List, [], ◌∷◌, ◌++◌, length, get_or, take, map, Bool, true, false, cond, IsTrue, ◌||◌, Less, Equal, Contains, inl, inr, refl, sym, ap, ◌∙◌, subst, arith, Bor}
use Rattle.std.proofs.lemmas.List.{take_more, take_all, map-append}
use Rattle.std.proofs.lemmas.List.Elements.{Contains-append_left, Contains-push_cases}
use Rattle.std.specs.BTreeMap.{is_at}
use Rattle.std.specs.BTreeSet.{BTreeSet, contains}
use Rattle.std.specs.List.{AllByRecursion, list_any}
use Rattle.std.specs.List.Sorted.{IsStrictlySortedBy}
use Rattle.std.specs.Ordering.{is_eq}
use Rattle.krates_ids.specs.Identity.{Identity, id_cmp}
use Rattle.krates_rules.specs.Facts.{Crate, Fact, Id}
use Rattle.krates_rules.specs.Resolved.{id_of}
use Rattle.krates_rules.specs.StepViews.{fact_view, facts_view}
use Rattle.krates_rules.specs.declared.derivation.Fact.{Fact as ToldFact}
use Rattle.krates_verdict.specs.CratesOfFacts.{HasCrates, lent_cmp}
use Rattle.krates_verdict.specs.Holding.{FactsSay, StandOnce}
use Rattle.krates_verdict.specs.declared.verdict.Verdict.TheVariants as verdicts
use Rattle.krates_rules.proofs.DistinctIds.{OrderTellsSame, id_tells}
use Rattle.krates_rules.proofs.PutElements.{equal_is, is_equal, none_there, put_step}

-- a set without ids has no crate
pub crates_none : (set : BTreeSet (Bor Identity)) → set.keys ≡ [] → HasCrates set []
crates_none set e k = rw e (λ t. absurd cc, λ c. absurd (none_there (Crate (id_of k.now)) c))

-- one more crate
pub crates_put : OrderTellsSame → (old new : BTreeSet (Bor Identity)) (fs : List Fact) (k : Identity) → ((q : Bor Identity) → contains lent_cmp new q ≡ cond (is_eq (id_cmp k q.now)) true (contains lent_cmp old q)) → HasCrates old fs
    → HasCrates new (fs ++ Crate (id_of k) ∷ [])
crates_put tells old new fs k grown h q =
    let same = id_tells tells k q.now in
    subst (λ (b : Bool). IsTrue b ↔ Contains (fs ++ Crate (id_of k) ∷ []) (Crate (id_of q.now))) (sym (grown q))
    (put_step (is_eq (id_cmp k q.now)) (contains lent_cmp old q) fs (Crate (id_of k)) (Crate (id_of q.now))
    (λ t. ap (λ (i : Id). Crate i) (same.0 (is_equal (id_cmp k q.now) t)))
    (λ e. (let ids : id_of k ≡ id_of q.now = cc in equal_is (id_cmp k q.now) (same.1 ids)))
    (h q))

-- a fact that says no crate to be kept adds none
pub crates_same : (set : BTreeSet (Bor Identity)) (fs : List Fact) (f : Fact) → ((i : Id) → f ≡ Crate i → ⊥) → HasCrates set fs → HasCrates set (fs ++ f ∷ [])
crates_same set fs f other h q = (
  λ t. Contains-append_left fs (f ∷ []) (Crate (id_of q.now)) ((h q).0 t),
  λ c. elim (Contains-push_cases fs f (Crate (id_of q.now)) c) [ inl x ↦ (h q).1 x | inr same ↦ absurd (other (id_of q.now) same) ],
)

-- those of one fact more of the list
pub crates_more : (set : BTreeSet (Bor Identity)) (xs : List ToldFact) (i : ℕ) (x : ToldFact) → i < length xs → x ≡ get_or xs i x → HasCrates set (facts_view (take i xs) ++ fact_view x ∷ []) → HasCrates set (facts_view (take (i + 1) xs))
crates_more set xs i x lt is h =
    let more = take_more xs i x lt ∙ ap (λ y. take i xs ++ y ∷ []) (sym is) in
    subst (HasCrates set) (sym (ap facts_view more ∙ map-append fact_view (take i xs) (x ∷ []))) h

pub crates_all : (set : BTreeSet (Bor Identity)) (xs : List ToldFact) (i : ℕ) → length xs ≤ i → HasCrates set (facts_view (take i xs)) → HasCrates set (facts_view xs)
crates_all set xs i le h = subst (λ (ys : List ToldFact). HasCrates set (facts_view ys)) (take_all i xs le) h

-- ---- counted

abbrev lent_id : Bor Identity → Id
lent_id k = id_of k.now

abbrev lend : Id → Bor Identity
lend i = record { ref_ptr = (0, 0); now = record { text = []; name = i.name; version = i.version; source = i.source; is_opaque = false } }

-- an id that compares as less than others isn't among them
not_among : OrderTellsSame → (k : Bor Identity) (ks : List (Bor Identity)) → AllByRecursion (λ (y : Bor Identity). lent_cmp k y ≡ Less) ks → Contains (map lent_id ks) (lent_id k) → ⊥
not_among tells k [] all c = none_there (lent_id k) c
not_among tells k (x ∷ ks) all (zero, lt, is) =
    let equal : id_cmp k.now x.now ≡ Equal = (id_tells tells k.now x.now).1 (sym is) in
    let less : id_cmp k.now x.now ≡ Less = all.0 in
    let no : Less ≡ Equal = sym less ∙ equal in absurd cc
not_among tells k (x ∷ ks) all (suc n, lt, is) = not_among tells k ks all.1 (n, omega (arith, lt), is)

-- among ids that ascend each occurs once
once : OrderTellsSame → (ks : List (Bor Identity)) → IsStrictlySortedBy lent_cmp ks → StandOnce (map lent_id ks)
unfolding IsStrictlySortedBy
once tells [] sorted = tt
once tells (k ∷ ks) sorted = (not_among tells k ks sorted.0, once tells ks sorted.1)

-- what compares as equal to one of the ids is among them
any_step : OrderTellsSame → (k x : Bor Identity) (ks : List (Bor Identity)) (b : Bool) → b ≡ is_eq (id_cmp k.now x.now) → (b || list_any (is_at (lent_cmp k)) ks) ≡ true
    → (list_any (is_at (lent_cmp k)) ks ≡ true → Contains (map lent_id ks) (lent_id k)) → Contains (lent_id x ∷ map lent_id ks) (lent_id k)
any_step tells k x ks true is h rest = (zero, omega arith, sym ((id_tells tells k.now x.now).0 (is_equal (id_cmp k.now x.now) (sym is))))
any_step tells k x ks false is h rest = let w = rest h in (suc w.0, omega (arith, w.1), w.2)

among : OrderTellsSame → (k : Bor Identity) (ks : List (Bor Identity)) → list_any (is_at (lent_cmp k)) ks ≡ true → Contains (map lent_id ks) (lent_id k)
among tells k [] h = absurd cc
among tells k (x ∷ ks) h = any_step tells k x ks (is_eq (id_cmp k.now x.now)) refl h (among tells k ks)

or_true : (a b : Bool) → b ≡ true → (a || b) ≡ true
or_true true b e = refl
or_true false b e = e

-- and what is among them compares as equal to one
found : OrderTellsSame → (k : Bor Identity) (ks : List (Bor Identity)) → Contains (map lent_id ks) (lent_id k) → list_any (is_at (lent_cmp k)) ks ≡ true
found tells k [] c = absurd (none_there (lent_id k) c)
found tells k (x ∷ ks) (zero, lt, is) =
    let equal : id_cmp k.now x.now ≡ Equal = (id_tells tells k.now x.now).1 (sym is) in
    rw (equal) refl
found tells k (x ∷ ks) (suc n, lt, is) = or_true (is_eq (id_cmp k.now x.now)) (list_any (is_at (lent_cmp k)) ks) (found tells k ks (n, omega (arith, lt), is))

counted : (ks : List (Bor Identity)) → length ks ≡ length (map lent_id ks)
counted [] = refl
counted (k ∷ ks) = ap suc (counted ks)

-- the ids of the set are counted
pub crates_counted : OrderTellsSame → (set : BTreeSet (Bor Identity)) (fs : List Fact) (count : ℕ) → IsStrictlySortedBy lent_cmp set.keys → HasCrates set fs → count ≡ length set.keys → FactsSay fs (verdicts.Closed count)
crates_counted tells set fs count sorted has is = record {
  krates = map lent_id set.keys;
  once = once tells set.keys sorted;
  exactly = λ i. (λ c. (has (lend i)).0 (found tells (lend i) set.keys c), λ c. among tells (lend i) set.keys ((has (lend i)).1 c));
  says = ap (λ (n : ℕ). verdicts.Closed n) (is ∙ counted set.keys);
}
