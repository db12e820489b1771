-- What single facts say of units, build scripts, runs, needs, features and what is lost.
use Rattle.std.specs.Prelude.{◌≡◌, ◌++◌, List, [], ◌∷◌, Option, Some, None, map}
use Rattle.std.specs.List.{filter_map}
use Rattle.krates_build_facts.specs.FactModels.{FactModel, ActivatedFeature, Compiled, Lost, Needed, RunNeeded, ScriptCompiled, ScriptRun}
use Rattle.krates_build_facts.specs.declared.facts.UnitPlace.{UnitPlace}
use Rattle.krates_built.specs.BuildLists.{FeatureModel, feature_view}
use Rattle.krates_built.specs.declared.lists.Lists.{Lists}
use Rattle.krates_built.specs.declared.places.LostPlace.{LostPlace}
use Rattle.krates_built.specs.declared.places.NeedPlace.{NeedPlace}
use Rattle.krates_built.specs.declared.places.RunNeedPlace.{RunNeedPlace}
use Rattle.krates_built.specs.declared.places.RunPlace.{RunPlace}
use Rattle.krates_built.specs.declared.places.ScriptPlace.{ScriptPlace}

-- ---- what a fact says

-- the unit that is compiled
abbrev pub unit_in : FactModel → Option UnitPlace
unit_in (Compiled unit) = Some unit
unit_in _ = None

-- the build script that is compiled
abbrev pub script_in : FactModel → Option ScriptPlace
script_in (ScriptCompiled krate side) = Some (record { krate = krate; side = side })
script_in _ = None

-- the run
abbrev pub run_in : FactModel → Option RunPlace
run_in (ScriptRun krate placement) = Some (record { krate = krate; placement = placement })
run_in _ = None

-- the library that is needed
abbrev pub need_in : FactModel → Option NeedPlace
need_in (Needed link from library) = Some (record { link = link; from = from; library = library })
need_in _ = None

-- the run that is needed
abbrev pub run_need_in : FactModel → Option RunNeedPlace
run_need_in (RunNeeded link from run) = Some (record { link = link; from = from; run = run })
run_need_in _ = None

-- the feature that is enabled
abbrev pub feature_in : FactModel → Option FeatureModel
feature_in (ActivatedFeature krate side name) = Some (record { krate = krate; side = side; name = name })
feature_in _ = None

-- the dependency that is lost
abbrev pub lost_in : FactModel → Option LostPlace
lost_in (Lost krate index) = Some (record { krate = krate; index = index })
lost_in _ = None

-- ---- and lists of facts

-- each list has what the facts say, in their order
pub record AreListsOf (facts : List FactModel) (l : Lists) : Type 0 where
  pub units : l.units.items ≡ filter_map unit_in facts
  pub scripts : l.scripts.items ≡ filter_map script_in facts
  pub runs : l.runs.items ≡ filter_map run_in facts
  pub needs : l.needs.items ≡ filter_map need_in facts
  pub run_needs : l.run_needs.items ≡ filter_map run_need_in facts
  pub features : map feature_view l.features.items ≡ filter_map feature_in facts
  pub lost : l.lost.items ≡ filter_map lost_in facts

-- the list, with one more if there is one
abbrev pub with_one : {A : Type 0} → List A → Option A → List A
with_one xs None = xs
with_one xs (Some x) = xs ++ x ∷ []

-- what the fact says is at the end of its list, and the other lists are as they were
pub record HasAdded (old new : Lists) (fact : FactModel) : Type 0 where
  pub units : new.units.items ≡ with_one old.units.items (unit_in fact)
  pub scripts : new.scripts.items ≡ with_one old.scripts.items (script_in fact)
  pub runs : new.runs.items ≡ with_one old.runs.items (run_in fact)
  pub needs : new.needs.items ≡ with_one old.needs.items (need_in fact)
  pub run_needs : new.run_needs.items ≡ with_one old.run_needs.items (run_need_in fact)
  pub features : map feature_view new.features.items ≡ with_one (map feature_view old.features.items) (feature_in fact)
  pub lost : new.lost.items ≡ with_one old.lost.items (lost_in fact)
