-- Instances that are written one behind the other.
use Rattle.std.proofs.Common.{◌≡◌, ℕ, ◌+◌, ◌<◌, ◌≤◌, List, [], ◌∷◌, ◌++◌, All, Option, Some, get_or, length, map, take, append_assoc, arith, refl, sym, ap, ◌∙◌, subst}
use Rattle.std.proofs.lemmas.List.{append-nil, map-append, map-id, map_more, take_all, take_more}
use Rattle.std.proofs.lemmas.List.Concat.{flat_map-append}
use Rattle.std.proofs.lemmas.List.FromFn.{map-range_with_len_more}
use Rattle.std.proofs.lemmas.List.Elements.{All-cons, All-nil}
use Rattle.std.proofs.lemmas.Option.{get_or_from_slice_get, slice_get_within}
use Rattle.std.specs.List.{flat_map, range_with_len, slice_get}
use Rattle.krates_closure.specs.Clauses.{ClauseModel, ClausesModel}
use Rattle.krates_build_facts.specs.FactModels.{FactModel, RuleModel, Lost}
use Rattle.krates_grounding.specs.Grounding.{GroundModel, HasNumbered, HasWritten, HaveNumbered, fact_at, rule_of}
use Rattle.krates_build_facts.specs.Rows.{rule}
use Rattle.krates_grounding.proofs.GroundFacts.{at_before}

-- ---- numbers

abbrev some : {A : Type 0} → A → Option A
some x = Some x

-- numbers stay those of their facts
still_at : (all more : List FactModel) (ns : List ℕ) (fs : List FactModel) → map (slice_get all) ns ≡ map some fs → map (slice_get (all ++ more)) ns ≡ map some fs
still_at all more [] [] h = refl
still_at all more [] (f ∷ fs) h = absurd cc
still_at all more (n ∷ ns) [] h = absurd cc
still_at all more (n ∷ ns) (f ∷ fs) h =
    let here : slice_get all n ≡ Some f = cc in
    let rest : map (slice_get all) ns ≡ map some fs = cc in
    rw (at_before all more n f here, still_at all more ns fs rest) refl

-- and lead back to them
facts_at : (all : List FactModel) (ns : List ℕ) (fs : List FactModel) → map (slice_get all) ns ≡ map some fs → map (fact_at all) ns ≡ fs
facts_at all [] [] h = refl
facts_at all [] (f ∷ fs) h = absurd cc
facts_at all (n ∷ ns) [] h = absurd cc
facts_at all (n ∷ ns) (f ∷ fs) h =
    let here : slice_get all n ≡ Some f = cc in
    let rest : map (slice_get all) ns ≡ map some fs = cc in
    rw (get_or_from_slice_get all n f (Lost 0 0) here, facts_at all ns fs rest) refl

numbers_below : (all : List FactModel) (ns : List ℕ) (fs : List FactModel) → map (slice_get all) ns ≡ map some fs → All (λ n. n < length all) ns
numbers_below all [] fs h = All-nil (λ n. n < length all)
numbers_below all (n ∷ ns) [] h = absurd cc
numbers_below all (n ∷ ns) (f ∷ fs) h =
    let here : slice_get all n ≡ Some f = cc in
    let rest : map (slice_get all) ns ≡ map some fs = cc in
    All-cons (λ m. m < length all) n ns (slice_get_within all n f here) (numbers_below all ns fs rest)

pub none_numbered : (g : GroundModel) (ns : List ℕ) → ns ≡ [] → HaveNumbered g g [] ns
none_numbered g ns e = record { rules_are = refl; more = []; facts_are = sym (append-nil g.facts); at = ap (map (slice_get g.facts)) e }

-- one more fact is numbered
pub one_numbered : (a b c : GroundModel) (fs gs : List FactModel) (ns ms : List ℕ) (f : FactModel) (n : ℕ) → gs ≡ fs ++ f ∷ [] → ms ≡ ns ++ n ∷ [] → HaveNumbered a b fs ns → HasNumbered b c f n → HaveNumbered a c gs ms
one_numbered a b c fs gs ns ms f n facts numbers h one =
    let before : map (slice_get c.facts) ns ≡ map some fs = subst (λ (all : List FactModel). map (slice_get all) ns ≡ map some fs) (sym one.facts_are) (still_at b.facts one.more ns fs h.at) in
    record {
      rules_are = one.rules_are ∙ h.rules_are;
      more = h.more ++ one.more;
      facts_are = one.facts_are ∙ ap (λ (all : List FactModel). all ++ one.more) h.facts_are ∙ append_assoc a.facts h.more one.more;
      at = ap (map (slice_get c.facts)) numbers ∙ map-append (slice_get c.facts) ns (n ∷ []) ∙ rw (before, one.at) (sym (ap (map some) facts ∙ map-append some fs (f ∷ [])));
    }

-- ---- instances

pub nothing_written : (g : GroundModel) → HasWritten g g []
nothing_written g = record { rules_are = sym (append-nil g.rules); more = []; facts_are = sym (append-nil g.facts) }

pub written_behind : (a b c : GroundModel) (xs ys : List RuleModel) → HasWritten a b xs → HasWritten b c ys → HasWritten a c (xs ++ ys)
written_behind a b c xs ys one other = record {
  rules_are = other.rules_are ∙ ap (λ (rs : List RuleModel). rs ++ ys) one.rules_are ∙ append_assoc a.rules xs ys;
  more = one.more ++ other.more;
  facts_are = other.facts_are ∙ ap (λ (fs : List FactModel). fs ++ other.more) one.facts_are ∙ append_assoc a.facts one.more other.more;
}

-- the facts of an instance have numbers when it is written
numbered_both : (a b c : GroundModel) (fs : List FactModel) (ns : List ℕ) (f : FactModel) (n : ℕ) → HaveNumbered a b fs ns → HasNumbered b c f n → map (slice_get c.facts) ns ≡ map some fs
numbered_both a b c fs ns f n h one = subst (λ (all : List FactModel). map (slice_get all) ns ≡ map some fs) (sym one.facts_are) (still_at b.facts one.more ns fs h.at)

pub may_write : (a b c : GroundModel) (all fs : List FactModel) (rules : List RuleModel) (ns : List ℕ) (f : FactModel) (n size : ℕ) → HaveNumbered a b fs ns → HasNumbered b c f n → record { facts = all; rules = rules } ≡ c
    → size ≡ length all → All (λ m. m < size) ns × (n < size)
may_write a b c all fs rules ns f n size h one view long =
    let here : length c.facts ≡ size = ap (λ (g : GroundModel). length g.facts) (sym view) ∙ sym long in
    subst (λ k. All (λ m. m < k) ns × (n < k)) here (numbers_below c.facts ns fs (numbered_both a b c fs ns f n h one), slice_get_within c.facts n f one.at)

-- one more instance is written
pub one_written : (a b c : GroundModel) (all fs : List FactModel) (clauses pushed : ClausesModel) (ns : List ℕ) (f : FactModel) (n : ℕ) → HaveNumbered a b fs ns → HasNumbered b c f n
    → record { facts = all; rules = map (rule_of all) clauses.list } ≡ c → pushed ≡ record clauses { list = clauses.list ++ record { premises = ns; fact = n } ∷ [] }
    → HasWritten a (record { facts = all; rules = map (rule_of all) pushed.list }) (rule fs f ∷ [])
one_written a b c all fs clauses pushed ns f n h one view is =
    let facts : all ≡ c.facts = ap (λ (g : GroundModel). g.facts) view in
    let rules : map (rule_of all) clauses.list ≡ a.rules = ap (λ (g : GroundModel). g.rules) view ∙ one.rules_are ∙ h.rules_are in
    let premises : map (fact_at all) ns ≡ fs = subst (λ (xs : List FactModel). map (fact_at xs) ns ≡ fs) (sym facts) (facts_at c.facts ns fs (numbered_both a b c fs ns f n h one)) in
    let fact : fact_at all n ≡ f = subst (λ (xs : List FactModel). fact_at xs n ≡ f) (sym facts) (get_or_from_slice_get c.facts n f (Lost 0 0) one.at) in
    let clause : ClauseModel = record { premises = ns; fact = n } in
    let last : rule_of all clause ≡ rule fs f = rw (premises, fact) refl in
    record {
      rules_are = ap (λ (p : ClausesModel). map (rule_of all) p.list) is ∙ map-append (rule_of all) clauses.list (clause ∷ []) ∙ rw (rules, last) refl;
      more = h.more ++ one.more;
      facts_are = facts ∙ one.facts_are ∙ ap (λ (xs : List FactModel). xs ++ one.more) h.facts_are ∙ append_assoc a.facts h.more one.more;
    }

-- ---- loops

-- those of one more element are written
pub written_each : {X : Type 0} (f : X → List RuleModel) (xs : List X) (i : ℕ) (x : X) (a b c : GroundModel) → i < length xs → x ≡ get_or xs i x → HasWritten a b (flat_map f (take i xs)) → HasWritten b c (f x)
    → HasWritten a c (flat_map f (take (i + 1) xs))
written_each {X} f xs i x a b c lt is h one =
    let more : take (i + 1) xs ≡ take i xs ++ x ∷ [] = take_more xs i x lt ∙ ap (λ (y : X). take i xs ++ y ∷ []) (sym is) in
    let grown : flat_map f (take (i + 1) xs) ≡ flat_map f (take i xs) ++ f x = ap (flat_map f) more ∙ flat_map-append f (take i xs) (x ∷ []) ∙ ap (λ (rs : List RuleModel). flat_map f (take i xs) ++ rs) (append-nil (f x)) in
    subst (HasWritten a c) (sym grown) (written_behind a b c (flat_map f (take i xs)) (f x) h one)

pub written_all : {X : Type 0} (f : X → List RuleModel) (xs : List X) (i : ℕ) (a b : GroundModel) → length xs ≤ i → HasWritten a b (flat_map f (take i xs)) → HasWritten a b (flat_map f xs)
written_all f xs i a b le h = subst (λ ys. HasWritten a b (flat_map f ys)) (take_all i xs le) h

-- that of one more element is written
pub mapped_each : {X : Type 0} (f : X → RuleModel) (xs : List X) (i : ℕ) (x : X) (a b c : GroundModel) → i < length xs → x ≡ get_or xs i x → HasWritten a b (map f (take i xs)) → HasWritten b c (f x ∷ [])
    → HasWritten a c (map f (take (i + 1) xs))
mapped_each {X} f xs i x a b c lt is h one =
    let grown : map f (take (i + 1) xs) ≡ map f (take i xs) ++ f x ∷ [] = map_more f xs i x lt ∙ ap (λ (y : X). map f (take i xs) ++ f y ∷ []) (sym is) in
    subst (HasWritten a c) (sym grown) (written_behind a b c (map f (take i xs)) (f x ∷ []) h one)

pub mapped_all : {X : Type 0} (f : X → RuleModel) (xs : List X) (i : ℕ) (a b : GroundModel) → length xs ≤ i → HasWritten a b (map f (take i xs)) → HasWritten a b (map f xs)
mapped_all f xs i a b le h = subst (λ ys. HasWritten a b (map f ys)) (take_all i xs le) h

-- those of one more number are written
pub counted_more : (f : ℕ → List RuleModel) (n : ℕ) (a b c : GroundModel) → HasWritten a b (flat_map f (range_with_len 0 n)) → HasWritten b c (f n) → HasWritten a c (flat_map f (range_with_len 0 (n + 1)))
counted_more f n a b c h one =
    let plain : (m : ℕ) → map (λ (k : ℕ). k) (range_with_len 0 m) ≡ range_with_len 0 m = λ m. map-id (range_with_len 0 m) in
    let more : range_with_len 0 (n + 1) ≡ range_with_len 0 n ++ n ∷ []
    = sym (plain (n + 1)) ∙ map-range_with_len_more (λ (k : ℕ). k) 0 n n (omega arith) ∙ ap (λ (ks : List ℕ). ks ++ n ∷ []) (plain n) in
    let grown : flat_map f (range_with_len 0 (n + 1)) ≡ flat_map f (range_with_len 0 n) ++ f n
    = ap (flat_map f) more ∙ flat_map-append f (range_with_len 0 n) (n ∷ []) ∙ ap (λ (rs : List RuleModel). flat_map f (range_with_len 0 n) ++ rs) (append-nil (f n)) in
    subst (HasWritten a c) (sym grown) (written_behind a b c (flat_map f (range_with_len 0 n)) (f n) h one)
