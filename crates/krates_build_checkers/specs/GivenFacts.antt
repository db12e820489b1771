-- Facts that are given, and instances whose premises are given while their facts aren't.
use Rattle.std.specs.Prelude.{◌↔◌, List, All, Contains, map}
use Rattle.std.specs.BTreeSet.{BTreeSet, keys}
use Rattle.krates_build_facts.specs.FactModels.{FactModel, RuleModel, fact_view}
use Rattle.krates_build_facts.specs.declared.facts.BuildFact.{BuildFact}

-- the facts of the set
abbrev pub facts_of_set : BTreeSet BuildFact → List FactModel
facts_of_set set = map fact_view (keys set)

-- the set has exactly these facts
abbrev pub HasFacts : BTreeSet BuildFact → List FactModel → Type 0
HasFacts set facts = (f : FactModel) → Contains (facts_of_set set) f ↔ Contains facts f

-- the premises of the instance are among the facts, and its fact isn't
pub record IsOpen (facts : List FactModel) (row : RuleModel) : Type 0 where
  pub premises : All (Contains facts) row.premises
  pub fact : ¬ Contains facts row.fact

-- if they are, its fact is too
abbrev pub IsKept : List FactModel → RuleModel → Type 0
IsKept facts row = All (Contains facts) row.premises → Contains facts row.fact
