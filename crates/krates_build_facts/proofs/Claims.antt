-- What is shown of facts and of rows: that each number of what is derivable follows, and that each row is a rule.
use Rattle.std.proofs.Common.{List}
use Rattle.krates_rules.specs.Facts.{Id}
use Rattle.krates_rules.specs.Resolved.{Resolved}
use Rattle.krates_units.specs.BuildFacts.{Fact}
use Rattle.krates_units.specs.BuildRules.{Rule}
use Rattle.krates_units.specs.BuildSetting.{BuildSettingModel}
use Rattle.krates_units.specs.Built.{IsDerivable, IsPremise}
use Rattle.krates_units.specs.Machines.{MachineModel}
use Rattle.krates_build_tables.specs.declared.tables.Tables.{Tables}
use Rattle.krates_build_facts.specs.FactModels.{FactModel, RuleModel}
use Rattle.krates_build_facts.specs.Meanings.{AreMeant, Follows, Means}
use Rattle.krates_build_facts.proofs.RowLists.{EachRow}

-- ---- what follows is derivable

-- the number means a fact that is derivable
pub record MeansDerivable (r : Resolved) (s : BuildSettingModel) (ids : List Id) (ms : List MachineModel) (t : Tables)
    (number : FactModel) : Type 0 where
  pub fact : Fact
  pub means : Means r s ids ms t number fact
  pub derivable : IsDerivable r s fact

-- the row is a rule, whatever facts its premises mean
abbrev pub IsSound : Resolved → BuildSettingModel → List Id → List MachineModel → Tables → List FactModel → FactModel → Type 0
IsSound r s ids ms t ps n = (fs : List Fact) → AreMeant r s ids ms t ps fs → (f : Fact) × Means r s ids ms t n f × Rule r s fs f

-- each of these rows is a rule
abbrev pub AreSound : Resolved → BuildSettingModel → List Id → List MachineModel → Tables → List RuleModel → Type 0
AreSound r s ids ms t rows = EachRow (IsSound r s ids ms t) rows

-- ---- what is derivable follows

-- the fact has a number, and each number of it follows
pub record HasNumbers (r : Resolved) (s : BuildSettingModel) (ids : List Id) (ms : List MachineModel) (t : Tables)
    (fact : Fact) : Type 0 where
  pub number : FactModel
  pub means : Means r s ids ms t number fact
  pub follows : (other : FactModel) → Means r s ids ms t other fact → Follows t other

-- each premise has numbers, which follow
abbrev pub HaveNumbers : Resolved → BuildSettingModel → List Id → List MachineModel → Tables → List Fact → Type 0
HaveNumbers r s ids ms t premises = (g : Fact) → IsPremise g premises → HasNumbers r s ids ms t g

-- a rule with these premises is among the rows
abbrev pub IsCovered : Resolved → BuildSettingModel → List Id → List MachineModel → Tables → List Fact → Fact → Type 0
IsCovered r s ids ms t premises fact = HaveNumbers r s ids ms t premises → HasNumbers r s ids ms t fact
