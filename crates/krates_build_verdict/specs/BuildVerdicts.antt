-- What a verdict about a build says, by the numbers of the tables.
use Rattle.std.specs.Prelude.{◌≡◌, ◌↔◌, ℕ, Bool, true, false, Option, Some, None, IsTrue, List, Contains, slice_get, take}
use Rattle.std.specs.BTreeSet.{BTreeSet, contains}
use Rattle.std.specs.Ordering.{nat_cmp}
use Rattle.krates_build_tables.specs.declared.tables.Tables.{Tables}
use Rattle.krates_build_facts.specs.FactModels.{FactModel, Met, LinkedReference, LinkedFeature, LinkedName, Linked, Lost, Activated, ActivatedReference, ActivatedFeature, ActivatedName, Used, Available, Compiled, Needed, ScriptRun, ScriptCompiled, RunNeeded, fact_view}
use Rattle.krates_build_facts.specs.Meanings.{Follows}
use Rattle.krates_build_verdict.specs.declared.verdict.BuildVerdict.{BuildVerdict}
use Rattle.krates_build_verdict.specs.declared.verdict.BuildVerdict.TheVariants as verdicts

-- the number of the crate that a fact says is built: one of its targets is compiled, or its build script is
abbrev pub built_by : FactModel → Option ℕ
built_by (Met c m) = None
built_by (LinkedReference c m v) = None
built_by (LinkedFeature c m f) = None
built_by (LinkedName c m d) = None
built_by (Linked place) = None
built_by (Lost c index) = None
built_by (Activated c n) = None
built_by (ActivatedReference c n v) = None
built_by (ActivatedFeature c n f) = None
built_by (ActivatedName c n d) = None
built_by (Used place n) = None
built_by (Available c text) = None
built_by (Compiled u) = Some u.target.krate
built_by (Needed place from u) = None
built_by (ScriptRun c at) = None
built_by (ScriptCompiled c n) = Some c
built_by (RunNeeded place from run) = None

-- one of the facts says that the crate with this number is built
abbrev pub SaysBuilt : List FactModel → ℕ → Type 0
SaysBuilt facts number = (f : FactModel) × Contains facts f × (built_by f ≡ Some number)

-- the set has exactly the numbers of the crates that the facts say are built
abbrev pub HasBuilt : BTreeSet ℕ → List FactModel → Type 0
HasBuilt krates facts = (number : ℕ) → IsTrue (contains nat_cmp krates number) ↔ SaysBuilt facts number

-- whether a fact says that the document has no edge for a dependency that the build needs
abbrev pub is_lost : FactModel → Bool
is_lost (Met c m) = false
is_lost (LinkedReference c m v) = false
is_lost (LinkedFeature c m f) = false
is_lost (LinkedName c m d) = false
is_lost (Linked place) = false
is_lost (Lost c index) = true
is_lost (Activated c n) = false
is_lost (ActivatedReference c n v) = false
is_lost (ActivatedFeature c n f) = false
is_lost (ActivatedName c n d) = false
is_lost (Used place n) = false
is_lost (Available c text) = false
is_lost (Compiled u) = false
is_lost (Needed place from u) = false
is_lost (ScriptRun c at) = false
is_lost (ScriptCompiled c n) = false
is_lost (RunNeeded place from run) = false

-- none of the facts says so
abbrev pub NoneLost : List FactModel → Type 0
NoneLost facts = (f : FactModel) → Contains facts f → is_lost f ≡ true → ⊥

-- the fact with this number says so, and none before it
pub record IsLostAt (facts : List FactModel) (number : ℕ) : Type 0 where
  pub fact : FactModel
  pub here : slice_get facts number ≡ Some fact
  pub lost : is_lost fact ≡ true
  pub before : NoneLost (take number facts)

-- The crates with these numbers are all that are built, and nothing is lost.
pub record AreAll (t : Tables) (krates : BTreeSet ℕ) : Type 0 where
  pub built : (f : FactModel) (number : ℕ) → Follows t f → built_by f ≡ Some number → IsTrue (contains nat_cmp krates number)
  pub whole : (f : FactModel) → Follows t f → is_lost f ≡ true → ⊥

-- What a verdict says: the fact follows, or these are all crates that are built.
abbrev pub Holds : Tables → BuildVerdict → Type 0
Holds t (verdicts.Follows fact steps) = Follows t (fact_view fact)
Holds t (verdicts.Nothing krates) = AreAll t krates
