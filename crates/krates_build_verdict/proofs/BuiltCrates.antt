-- The crates that facts say are built, put into a set fact by fact.
use Rattle.std.proofs.Common.{◌≡◌, ◌∙◌, ◌⊎◌, Bool, true, false, cond, ℕ, ◌<◌, Option, Some, None, IsTrue, List, [], ◌∷◌, ◌++◌, Equal, get_or, inl, inr, length, map, take, ap, refl, subst, sym}
use Rattle.std.proofs.lemmas.Bool.{false≢true}
use Rattle.std.proofs.lemmas.List.{get_or_default, take-map}
use Rattle.std.proofs.lemmas.Map.Lookups.{exact_unsigned}
use Rattle.std.proofs.lemmas.List.Elements.{Contains-append_left, Contains-push, Contains-push_cases}
use Rattle.std.specs.BTreeSet.{BTreeSet, contains}
use Rattle.std.specs.Cmp.{nat_cmp_is}
use Rattle.std.specs.Ordering.{is_eq, nat_cmp}
use Rattle.krates_rules.proofs.PutElements.{equal_is, is_equal, none_there}
use Rattle.krates_build_tables.specs.declared.tables.Tables.{Tables}
use Rattle.krates_build_checkers.specs.Closedness.{ClosedHasAll, IsClosed}
use Rattle.krates_build_facts.specs.FactModels.{FactModel, Met, LinkedReference, LinkedFeature, LinkedName, Linked, Lost, Activated, ActivatedReference, ActivatedFeature, ActivatedName, Used, Available, Compiled, Needed, ScriptRun, ScriptCompiled, RunNeeded, fact_view}
use Rattle.krates_build_facts.specs.Meanings.{Follows}
use Rattle.krates_build_facts.specs.declared.facts.BuildFact.{BuildFact}
use Rattle.krates_build_verdict.proofs.NamedClaims.{seen_here}
use Rattle.krates_build_verdict.specs.BuildVerdicts.{HasBuilt, Holds, IsLostAt, NoneLost, SaysBuilt, built_by, is_lost}
use Rattle.krates_build_verdict.specs.declared.verdict.BuildVerdict.TheVariants as verdicts

kept : (a b : Bool) → b ≡ true → cond a true b ≡ true
kept true b e = refl
kept false b e = e

taken : (a b : Bool) → a ≡ true → cond a true b ≡ true
taken true b e = refl
taken false b e = absurd (false≢true e)

either : (a b : Bool) → cond a true b ≡ true → (a ≡ true) ⊎ (b ≡ true)
either true b e = inl refl
either false b e = inr e

-- the number, and zero where there is none
number_in : Option ℕ → ℕ
number_in None = 0
number_in (Some number) = number

-- no fact says that any crate is built
pub none_built : (set : BTreeSet ℕ) → set.keys ≡ [] → HasBuilt set []
none_built set empty number = rw empty (λ t. absurd cc, λ h. absurd (none_there h.0 h.1))

-- what the facts say is also said with one more
said_with : (facts : List FactModel) (f : FactModel) (number : ℕ) → SaysBuilt facts number → SaysBuilt (facts ++ f ∷ []) number
said_with facts f number (g, among, is) = (g, Contains-append_left facts (f ∷ []) g among, is)

-- the crate of one fact more is put into the set
pub one_more : (old new : BTreeSet ℕ) (facts : List FactModel) (f : FactModel) (k : ℕ) → ((q : ℕ) → contains nat_cmp new q ≡ cond (is_eq (nat_cmp k q)) true (contains nat_cmp old q)) → built_by f ≡ Some k
    → HasBuilt old facts → HasBuilt new (facts ++ f ∷ [])
unfolding number_in
one_more old new facts f k grown built h number = (
  λ t. elim (either (is_eq (nat_cmp k number)) (contains nat_cmp old number) (sym (grown number) ∙ t)) [
    | inl same ↦ (
        let number_is : k ≡ number = exact_unsigned k number (is_equal (nat_cmp k number) same) in
        (f, Contains-push facts f, built ∙ ap (λ (n : ℕ). Some n) number_is))
    | inr before ↦ said_with facts f number ((h number).0 before)
  ],
  λ (g, among, is). elim (Contains-push_cases facts f g among) [
    | inl before ↦ grown number ∙ kept (is_eq (nat_cmp k number)) (contains nat_cmp old number) ((h number).1 (g, before, is))
    | inr same ↦ (
        let number_is : k ≡ number = ap number_in (sym built ∙ (ap built_by same ∙ is)) in
        grown number ∙ taken (is_eq (nat_cmp k number)) (contains nat_cmp old number) (equal_is (nat_cmp k number) (sym (nat_cmp_is k number Equal number_is))))
  ],
)

-- one fact more that says no crate to be built
pub one_other : (set : BTreeSet ℕ) (facts : List FactModel) (f : FactModel) → built_by f ≡ None → HasBuilt set facts → HasBuilt set (facts ++ f ∷ [])
one_other set facts f none h number = (
  λ t. said_with facts f number ((h number).0 t),
  λ (g, among, is). elim (Contains-push_cases facts f g among) [
    | inl before ↦ (h number).1 (g, before, is)
    | inr same ↦ (let no : None ≡ Some number = sym none ∙ (ap built_by same ∙ is) in absurd cc)
  ],
)

-- what says that a crate is built is in a closed list, and its crate among those of the list
built_there : ClosedHasAll → (t : Tables) (facts : List FactModel) (krates : BTreeSet ℕ) → IsClosed t facts → HasBuilt krates facts
    → (f : FactModel) (number : ℕ) → Follows t f → built_by f ≡ Some number → IsTrue (contains nat_cmp krates number)
built_there all t facts krates closed has (Met c m) number follows is = (let no : None ≡ Some number = is in absurd cc)
built_there all t facts krates closed has (LinkedReference c m v) number follows is = (let no : None ≡ Some number = is in absurd cc)
built_there all t facts krates closed has (LinkedFeature c m g) number follows is = (let no : None ≡ Some number = is in absurd cc)
built_there all t facts krates closed has (LinkedName c m d) number follows is = (let no : None ≡ Some number = is in absurd cc)
built_there all t facts krates closed has (Linked place) number follows is = (let no : None ≡ Some number = is in absurd cc)
built_there all t facts krates closed has (Lost c index) number follows is = (let no : None ≡ Some number = is in absurd cc)
built_there all t facts krates closed has (Activated c n) number follows is = (let no : None ≡ Some number = is in absurd cc)
built_there all t facts krates closed has (ActivatedReference c n v) number follows is = (let no : None ≡ Some number = is in absurd cc)
built_there all t facts krates closed has (ActivatedFeature c n g) number follows is = (let no : None ≡ Some number = is in absurd cc)
built_there all t facts krates closed has (ActivatedName c n d) number follows is = (let no : None ≡ Some number = is in absurd cc)
built_there all t facts krates closed has (Used place n) number follows is = (let no : None ≡ Some number = is in absurd cc)
built_there all t facts krates closed has (Available c text) number follows is = (let no : None ≡ Some number = is in absurd cc)
built_there all t facts krates closed has (Compiled u) number follows is = (has number).1 (Compiled u, all t facts closed (Compiled u) follows tt, is)
built_there all t facts krates closed has (Needed place from u) number follows is = (let no : None ≡ Some number = is in absurd cc)
built_there all t facts krates closed has (ScriptRun c at) number follows is = (let no : None ≡ Some number = is in absurd cc)
built_there all t facts krates closed has (ScriptCompiled c n) number follows is = (has number).1 (ScriptCompiled c n, all t facts closed (ScriptCompiled c n) follows tt, is)
built_there all t facts krates closed has (RunNeeded place from run) number follows is = (let no : None ≡ Some number = is in absurd cc)

-- nor is anything lost that isn't in it
lost_there : ClosedHasAll → (t : Tables) (facts : List FactModel) → IsClosed t facts → NoneLost facts → (f : FactModel) → Follows t f → is_lost f ≡ true → ⊥
lost_there all t facts closed none (Met c m) follows is = false≢true is
lost_there all t facts closed none (LinkedReference c m v) follows is = false≢true is
lost_there all t facts closed none (LinkedFeature c m f) follows is = false≢true is
lost_there all t facts closed none (LinkedName c m d) follows is = false≢true is
lost_there all t facts closed none (Linked place) follows is = false≢true is
lost_there all t facts closed none (Lost c index) follows is = none (Lost c index) (all t facts closed (Lost c index) follows tt) is
lost_there all t facts closed none (Activated c n) follows is = false≢true is
lost_there all t facts closed none (ActivatedReference c n v) follows is = false≢true is
lost_there all t facts closed none (ActivatedFeature c n f) follows is = false≢true is
lost_there all t facts closed none (ActivatedName c n d) follows is = false≢true is
lost_there all t facts closed none (Used place n) follows is = false≢true is
lost_there all t facts closed none (Available c text) follows is = false≢true is
lost_there all t facts closed none (Compiled u) follows is = false≢true is
lost_there all t facts closed none (Needed place from u) follows is = false≢true is
lost_there all t facts closed none (ScriptRun c at) follows is = false≢true is
lost_there all t facts closed none (ScriptCompiled c n) follows is = false≢true is
lost_there all t facts closed none (RunNeeded place from run) follows is = false≢true is

-- the crates of a closed list of which no fact is lost are all that are built
pub all_built : ClosedHasAll → (t : Tables) (facts : List FactModel) (krates : BTreeSet ℕ) → IsClosed t facts → HasBuilt krates facts → NoneLost facts → Holds t (verdicts.Nothing krates)
all_built all t facts krates closed has none = record {
  built = built_there all t facts krates closed has;
  whole = lost_there all t facts closed none;
}

-- no fact says that anything is lost
pub none_at_first : NoneLost []
none_at_first f c is = none_there f c

-- the fact at a place says so, and none before it
pub lost_at : (facts : List BuildFact) (i : ℕ) (d : BuildFact) → i < length facts → is_lost (fact_view (get_or facts i d)) ≡ true → NoneLost (map fact_view (take i facts)) → IsLostAt (map fact_view facts) i
lost_at facts i d lt lost none = record {
  fact = fact_view (get_or facts i d);
  here = seen_here fact_view facts i (get_or facts i d) lt (get_or_default facts i d (get_or facts i d) lt);
  lost = lost;
  before = subst NoneLost (sym (take-map fact_view i facts)) none;
}
