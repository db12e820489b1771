-- Which lists of facts are closed, why others aren't accepted, and what closed lists say.
use Rattle.std.specs.Prelude.{⊤, List, All, Contains}
use Rattle.std.specs.List.{flat_map}
use Rattle.krates_rules.specs.Facts.{Id}
use Rattle.krates_rules.specs.Resolved.{Resolved}
use Rattle.krates_units.specs.BuildFacts.{Fact}
use Rattle.krates_units.specs.BuildSetting.{BuildSettingModel}
use Rattle.krates_units.specs.Built.{IsDerivable}
use Rattle.krates_units.specs.Machines.{MachineModel}
use Rattle.krates_build_tables.specs.TablesOf.{AreTables}
use Rattle.krates_build_tables.specs.declared.tables.CrateEntry.{CrateEntry}
use Rattle.krates_build_tables.specs.declared.tables.Tables.{Tables}
use Rattle.krates_build_tables.specs.declared.tables.TargetEntry.{TargetEntry}
use Rattle.krates_build_facts.specs.FactModels.{FactModel, RuleModel, Available}
use Rattle.krates_build_facts.specs.Mattering.{MayMatter}
use Rattle.krates_build_facts.specs.Meanings.{Follows, IsRow, Means}
use Rattle.krates_build_facts.specs.Rows.{rows_of}
use Rattle.krates_build_checkers.specs.declared.build_check_error.BuildCheckError.{BuildCheckError}
use Rattle.krates_build_checkers.specs.declared.build_check_error.BuildCheckError.TheVariants as refusals

-- ---- instances that are looked at

-- the instances that give the texts that a target requires
abbrev pub available_to_target : Tables → TargetEntry → List RuleModel
available_to_target t x = flat_map (λ text. rows_of t (Available x.place.krate text.now)) x.required.items

abbrev pub available_to_crate : Tables → CrateEntry → List RuleModel
available_to_crate t e = flat_map (available_to_target t) e.targets.items

abbrev pub available_rows : Tables → List RuleModel
available_rows t = flat_map (available_to_crate t) t.crates.items

-- ---- closed lists

-- each fact that may matter, and follows by a row from facts of the list, is in it
abbrev pub IsClosed : Tables → List FactModel → Type 0
IsClosed t facts = (premises : List FactModel) (f : FactModel) → IsRow t premises f → MayMatter t f → All (Contains facts) premises → Contains facts f

-- why a list isn't accepted as closed; memory may always run out
abbrev pub IsClosedRefused : Tables → List FactModel → BuildCheckError → Type 0
IsClosedRefused t facts refusals.Open = IsClosed t facts → ⊥
IsClosedRefused t facts refusals.Memory = ⊤
IsClosedRefused t facts _ = ⊥

-- each fact that follows and may matter is in each closed list
abbrev pub ClosedHasAll : Type 0
ClosedHasAll = (t : Tables) (facts : List FactModel) → IsClosed t facts → (f : FactModel) → Follows t f → MayMatter t f → Contains facts f

-- each number that may matter of what is derivable is in each list that is closed for the tables of the document and the build
abbrev pub ClosedHasDerivable : Type 0
ClosedHasDerivable = (r : Resolved) (s : BuildSettingModel) (ids : List Id) (ms : List MachineModel) (t : Tables) → AreTables r s ids ms t
    → (facts : List FactModel) → IsClosed t facts → (f : Fact) → IsDerivable r s f
    → (number : FactModel) → Means r s ids ms t number f → MayMatter t number → Contains facts number

-- a list of facts that follow is closed if it has each that follows and may matter
abbrev pub FollowingIsClosed : Type 0
FollowingIsClosed = (t : Tables) (facts : List FactModel) → All (Follows t) facts
    → ((f : FactModel) → MayMatter t f → Follows t f → Contains facts f) → IsClosed t facts
