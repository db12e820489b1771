use Rattle.krates_build_facts.specs.FactModels.{fact_view}
use Rattle.std.proofs.Common.{map, string_bytes}
use Rattle.krates_build_naming.proofs.FactsAgain.{nameless_told}
use Rattle.krates_build_naming.proofs.writing.has_name.Goals as goal

pub returns-clause-nameless : goal.returns-clause-nameless
returns-clause-nameless c = nameless_told c.args.names.now (fact_view c.args.fact.now) (map string_bytes c.args.words.now) c.is_named.result c.requires c.is_named.ensures
