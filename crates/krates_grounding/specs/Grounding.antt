-- Instances of rules that are written down one by one, with the facts that they name.
use Rattle.std.specs.Prelude.{◌≡◌, ◌<◌, ℕ, List, ◌∷◌, ◌++◌, All, Contains, Some, map, slice_get, slice_index_or}
use Rattle.std.specs.List.{flat_map}
use Rattle.krates_build_tables.specs.declared.tables.CrateEntry.{CrateEntry}
use Rattle.krates_build_tables.specs.declared.tables.Tables.{Tables}
use Rattle.krates_closure.specs.Clauses.{ClauseModel}
use Rattle.krates_closure.specs.Closure.{Derivable}
use Rattle.krates_build_facts.specs.FactModels.{FactModel, RuleModel, Lost}
use Rattle.krates_build_facts.specs.InitialRows.{initial_rows}
use Rattle.krates_build_facts.specs.Rows.{requires, rows_of}

-- the facts by number, and the instances over them, in the order in which they were written
pub record GroundModel : Type 0 where
  pub facts : List FactModel
  pub rules : List RuleModel

-- the fact with this number
abbrev pub fact_at : List FactModel → ℕ → FactModel
fact_at facts number = slice_index_or facts number (Lost 0 0)

-- the instance that a clause stands for
abbrev pub rule_of : List FactModel → ClauseModel → RuleModel
rule_of facts clause = record { premises = map (fact_at facts) clause.premises; fact = fact_at facts clause.fact }

-- the facts of an instance
abbrev pub facts_of : RuleModel → List FactModel
facts_of rule = rule.fact ∷ rule.premises

-- each fact of each instance has a number
abbrev pub AreNamed : GroundModel → Type 0
AreNamed g = All (λ rule. All (Contains g.facts) (facts_of rule)) g.rules

-- no fact has two numbers
abbrev pub AreDistinct : List FactModel → Type 0
AreDistinct facts = (j k : ℕ) (f : FactModel) → slice_get facts j ≡ Some f → slice_get facts k ≡ Some f → j ≡ k

-- these instances were written behind the others, and the facts of before keep their numbers
pub record HasWritten (old new : GroundModel) (rules : List RuleModel) : Type 0 where
  pub rules_are : new.rules ≡ old.rules ++ rules
  pub more : List FactModel
  pub facts_are : new.facts ≡ old.facts ++ more

-- the fact has this number, and no instance was written
pub record HasNumbered (old new : GroundModel) (fact : FactModel) (number : ℕ) : Type 0 where
  pub rules_are : new.rules ≡ old.rules
  pub more : List FactModel
  pub facts_are : new.facts ≡ old.facts ++ more
  pub at : slice_get new.facts number ≡ Some fact

-- these facts have these numbers, and no instance was written
pub record HaveNumbered (old new : GroundModel) (facts : List FactModel) (numbers : List ℕ) : Type 0 where
  pub rules_are : new.rules ≡ old.rules
  pub more : List FactModel
  pub facts_are : new.facts ≡ old.facts ++ more
  pub at : map (slice_get new.facts) numbers ≡ map (λ f. Some f) facts

-- no instance was written, the facts of before keep their numbers, and each of these has one
pub record HaveNumbers (old new : GroundModel) (facts : List FactModel) : Type 0 where
  pub rules_are : new.rules ≡ old.rules
  pub more : List FactModel
  pub facts_are : new.facts ≡ old.facts ++ more
  pub each : All (Contains new.facts) facts

-- ---- all that matter

-- what says that the texts are available which targets of a crate require, and those of all crates
abbrev pub required_in : CrateEntry → List FactModel
required_in e = flat_map requires e.targets.items

abbrev pub required_texts : Tables → List FactModel
required_texts t = flat_map required_in t.crates.items

-- The instances are those that a build begins with, and those that begin with a fact that has a number; so every fact that may follow has one.
pub record IsGrounded (t : Tables) (g : GroundModel) : Type 0 where
  pub rules_are : g.rules ≡ initial_rows t ++ flat_map (rows_of t) g.facts
  pub texts : All (Contains g.facts) (required_texts t)
  pub named : AreNamed g
  pub distinct : AreDistinct g.facts

-- ---- what is told

-- of the facts with numbers below the bound, those that are derivable are told
pub record AreToldUpTo (clauses : List ClauseModel) (all told : List FactModel) (bound : ℕ) : Type 0 where
  pub each : (f : FactModel) → Contains told f → (n : ℕ) × (n < bound) × (slice_get all n ≡ Some f) × Derivable clauses n
  pub all_told : (n : ℕ) (f : FactModel) → n < bound → slice_get all n ≡ Some f → Derivable clauses n → Contains told f
