use Rattle.krates_rules.specs.Resolved.{id_of}
use Rattle.krates_search.proofs.enabling.listed_number.Goals as goal

pub returns-in-Some-clause-number : goal.returns-in-Some-clause-number
returns-in-Some-clause-number c = (c.in-Some.ensures.number (id_of c.args.node.id.now) c.requires.node.at, c.in-Some.ensures.own)
