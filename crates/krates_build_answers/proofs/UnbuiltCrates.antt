-- A crate of which no fact of a closed list says that it is built isn't built.
use Rattle.std.proofs.Common.{◌≡◌, ◌↔◌, ℕ, Any, List, Contains, refl, sym, ap, ◌∙◌, subst}
use Rattle.krates_rules.specs.Facts.{Id}
use Rattle.krates_rules.specs.Resolved.{Resolved}
use Rattle.krates_units.specs.BuildFacts.{Platform}
use Rattle.krates_units.specs.BuildSetting.{BuildSettingModel}
use Rattle.krates_units.specs.Machines.{MachineModel}
use Rattle.krates_build_tables.specs.TablesOf.{AreTables, CrateAt}
use Rattle.krates_build_tables.specs.declared.tables.Tables.{Tables}
use Rattle.krates_build_facts.specs.FactModels.{FactModel, Compiled}
use Rattle.krates_build_facts.specs.Meanings.{EachHasMeaning, EachHasNumber, FollowsAsDerivable}
use Rattle.krates_build_facts.specs.declared.facts.PlatformNumber.{PlatformNumber}
use Rattle.krates_built.specs.BuildLists.{script_fact}
use Rattle.krates_build_checkers.specs.Closedness.{ClosedHasAll, IsClosed}
use Rattle.krates_build_answers.specs.BuiltCrates.{IsBuiltAt, as_script, as_unit}
use Rattle.krates_build_answers.specs.Unbuilt.{IsShownUnbuilt, IsUnbuiltAt, SayBuilt, SaysBuilt, UnbuiltIsNotBuilt}
use Rattle.krates_build_answers.specs.declared.built_crates.BuiltCrate.{BuiltCrate}
use Rattle.krates_build_answers.proofs.BuiltLaws.{at_number, number_of}
use Rattle.krates_build_answers.proofs.SomeElements.{any_of}

-- what is built is said by a fact of a closed list
said : ClosedHasAll → (t : Tables) (facts : List FactModel) → IsClosed t facts → (x : BuiltCrate) → IsBuiltAt t x → SayBuilt x.krate facts
said all t facts closed x (as_unit u follows is) =
    any_of (SaysBuilt x.krate) facts (Compiled u) (all t facts closed (Compiled u) follows tt) (ap (λ (y : BuiltCrate). y.krate) is)
said all t facts closed x (as_script u follows is) =
    any_of (SaysBuilt x.krate) facts (script_fact u) (all t facts closed (script_fact u) follows tt) (ap (λ (y : BuiltCrate). y.krate) is)

pub shown_unbuilt : ClosedHasAll → (t : Tables) (facts : List FactModel) (krate : ℕ) → IsClosed t facts → ¬ SayBuilt krate facts
    → IsShownUnbuilt t facts krate
shown_unbuilt all t facts krate closed unsaid = record {
  closed = closed;
  unsaid = unsaid;
  unbuilt = λ platform h. unsaid (said all t facts closed (record { krate = krate; platform = platform }) h);
}

pub unbuilt_is_not_built : FollowsAsDerivable → EachHasMeaning → EachHasNumber → UnbuiltIsNotBuilt
unbuilt_is_not_built exact sound complete r s ids ms t tables krate i at unbuilt k h =
    let w = number_of exact sound complete r s ids ms t tables i k h.0 h.1 in
    let same = tables.ids_once w.0.krate krate i w.1.crate_at at in
    unbuilt w.0.platform (subst (λ (c : ℕ). IsBuiltAt t (record { krate = c; platform = w.0.platform })) same
    (at_number exact sound complete r s ids ms t tables w.0 i k h.0 w.1 h.1))
