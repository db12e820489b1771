-- A caller's facts and steps, as the rules see them.
use Rattle.std.specs.Prelude.{List, map, option_map}
use Rattle.krates_cm.specs.Document.{text_view}
use Rattle.krates_rules.specs.declared.derivation.Fact.{Fact as ToldFact}
use Rattle.krates_rules.specs.declared.derivation.Fact.TheVariants as told
use Rattle.krates_rules.specs.declared.derivation.Step.{Step}
use Rattle.krates_rules.specs.Facts.{Fact, Crate, Feature, Kept, Toggled}
use Rattle.krates_rules.specs.Kind.{written_of}
use Rattle.krates_rules.specs.Resolved.{id_of}
use Rattle.krates_rules.specs.Steps.{StepModel}

-- the caller's fact
abbrev pub fact_view : ToldFact → Fact
fact_view (told.Crate krate) = Crate (id_of krate)
fact_view (told.Feature krate name) = Feature (id_of krate) (text_view name)
fact_view (told.Kept parent child kind cfg) =
    Kept (record { parent = id_of parent; child = id_of child; kind = written_of kind; cfg = option_map text_view cfg })
fact_view (told.Toggled parent child name) = Toggled (id_of parent) (id_of child) (text_view name)

abbrev pub facts_view : List ToldFact → List Fact
facts_view facts = map fact_view facts

-- the caller's step
abbrev pub step_view : Step → StepModel
step_view x = record { rule = x.rule; fact = fact_view x.fact; uses = x.uses.items }

abbrev pub steps_view : List Step → List StepModel
steps_view steps = map step_view steps
