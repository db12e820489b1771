use Rattle.std.proofs.Common.{map}
use Rattle.krates_build_facts.specs.FactModels.{fact_view}
use Rattle.krates_build_answers.specs.Unbuilt.{SayBuilt}
use Rattle.krates_build_answers.proofs.UnbuiltCrates.{shown_unbuilt}
use Rattle.krates_build_answers.proofs.unbuilt.is_unbuilt.Goals as goal

pub returns-clause-told : goal.returns-clause-told
returns-clause-told c =
    let facts = map fact_view c.args.facts.now in
    let unsaid : ¬ SayBuilt c.args.krate facts = λ h. absurd (cc (c.say_built.ensures.1 h, c.if-say_built.false)) in
    shown_unbuilt c.closed_lists.ensures.all c.args.tables.now facts c.args.krate c.in_ok-check_built_closed.ensures.closed unsaid
