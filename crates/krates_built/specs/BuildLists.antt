-- The lists of what a build is made of: which facts their places stand for, in which order, and that each list is whole.
use Rattle.std.specs.Prelude.{◌↔◌, ℕ, List, Contains, map}
use Rattle.std.specs.Cmp.Lexicographic.{slice_cmp}
use Rattle.std.specs.List.Sorted.{IsStrictlySortedBy}
use Rattle.std.specs.Ordering.{nat_cmp, on, then_cmp}
use Rattle.std.specs.declared.cmp.Ordering.{Ordering}
use Rattle.krates_cm.specs.Document.{Text}
use Rattle.krates_units.specs.contracts.sides.SideOrd.TheImpl as side_order
use Rattle.krates_units.specs.declared.sides.Side.{Side}
use Rattle.krates_build_tables.specs.declared.tables.Tables.{Tables}
use Rattle.krates_build_facts.specs.FactModels.{FactModel, ActivatedFeature, Compiled, Lost, Needed, RunNeeded, ScriptCompiled, ScriptRun}
use Rattle.krates_build_facts.specs.Meanings.{Follows}
use Rattle.krates_build_facts.specs.contracts.facts.UnitPlaceOrd.TheImpl as unit_order
use Rattle.krates_build_facts.specs.declared.facts.UnitPlace.{UnitPlace}
use Rattle.krates_built.specs.contracts.places.LostPlaceOrd.TheImpl as lost_order
use Rattle.krates_built.specs.contracts.places.NeedPlaceOrd.TheImpl as need_order
use Rattle.krates_built.specs.contracts.places.RunNeedPlaceOrd.TheImpl as run_need_order
use Rattle.krates_built.specs.contracts.places.RunPlaceOrd.TheImpl as run_order
use Rattle.krates_built.specs.contracts.places.ScriptPlaceOrd.TheImpl as script_order
use Rattle.krates_built.specs.declared.listed.Listed.{Listed}
use Rattle.krates_built.specs.declared.lists.Lists.{Lists}
use Rattle.krates_built.specs.declared.places.FeaturePlace.{FeaturePlace}
use Rattle.krates_built.specs.declared.places.LostPlace.{LostPlace}
use Rattle.krates_built.specs.declared.places.NeedPlace.{NeedPlace}
use Rattle.krates_built.specs.declared.places.RunNeedPlace.{RunNeedPlace}
use Rattle.krates_built.specs.declared.places.RunPlace.{RunPlace}
use Rattle.krates_built.specs.declared.places.ScriptPlace.{ScriptPlace}

-- ---- which facts places stand for

-- the build script is compiled
abbrev pub script_fact : ScriptPlace → FactModel
script_fact x = ScriptCompiled x.krate x.side

-- it is run
abbrev pub run_fact : RunPlace → FactModel
run_fact x = ScriptRun x.krate x.placement

-- the library is needed
abbrev pub need_fact : NeedPlace → FactModel
need_fact x = Needed x.link x.from x.library

-- the run is needed
abbrev pub run_need_fact : RunNeedPlace → FactModel
run_need_fact x = RunNeeded x.link x.from x.run

-- an enabled feature of a crate on a side, by its text
pub record FeatureModel : Type 0 where
  pub krate : ℕ
  pub side : Side
  pub name : Text

abbrev pub feature_view : FeaturePlace → FeatureModel
feature_view x = record { krate = x.krate; side = x.side; name = x.name.now }

-- it is enabled
abbrev pub feature_fact : FeatureModel → FactModel
feature_fact x = ActivatedFeature x.krate x.side x.name

-- the dependency is lost
abbrev pub lost_fact : LostPlace → FactModel
lost_fact x = Lost x.krate x.index

-- ---- how places compare: field by field

abbrev pub unit_cmp : UnitPlace → UnitPlace → Ordering
unit_cmp = (unit_order.ghosts).cmp

abbrev pub script_cmp : ScriptPlace → ScriptPlace → Ordering
script_cmp = (script_order.ghosts).cmp

abbrev pub run_cmp : RunPlace → RunPlace → Ordering
run_cmp = (run_order.ghosts).cmp

abbrev pub need_cmp : NeedPlace → NeedPlace → Ordering
need_cmp = (need_order.ghosts).cmp

abbrev pub run_need_cmp : RunNeedPlace → RunNeedPlace → Ordering
run_need_cmp = (run_need_order.ghosts).cmp

abbrev pub lost_cmp : LostPlace → LostPlace → Ordering
lost_cmp = (lost_order.ghosts).cmp

-- by crate, then side, then the bytes of the name
abbrev pub feature_cmp : FeatureModel → FeatureModel → Ordering
feature_cmp = then_cmp (on (λ f. f.krate) nat_cmp) (then_cmp (on (λ f. f.side) (side_order.ghosts).cmp) (on (λ f. f.name) (slice_cmp nat_cmp)))

-- ---- lists

-- the list has exactly the places whose facts follow, in ascending order, each once
pub record IsListOf {A : Type 0} (t : Tables) (fact : A → FactModel) (order : A → A → Ordering) (places : List A) : Type 0 where
  pub exact : (x : A) → Contains places x ↔ Follows t (fact x)
  pub ascending : IsStrictlySortedBy order places

-- the lists are those of what follows from the tables
pub record AreListsIn (t : Tables) (l : Lists) : Type 0 where
  pub units : IsListOf t Compiled unit_cmp l.units.items
  pub scripts : IsListOf t script_fact script_cmp l.scripts.items
  pub runs : IsListOf t run_fact run_cmp l.runs.items
  pub needs : IsListOf t need_fact need_cmp l.needs.items
  pub run_needs : IsListOf t run_need_fact run_need_cmp l.run_needs.items
  pub features : IsListOf t feature_fact feature_cmp (map feature_view l.features.items)
  pub lost : IsListOf t lost_fact lost_cmp l.lost.items

-- the lists are those of what is derived
abbrev pub IsListed : Listed → Type 0
IsListed l = AreListsIn l.derived l.lists
