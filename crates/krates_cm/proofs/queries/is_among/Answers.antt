use Rattle.krates_cm.proofs.QueryLemmas.{among_told}
use Rattle.krates_cm.proofs.queries.is_among.Goals as goal

pub returns : goal.returns
returns c = among_told c.args.ids.now c.args.id.now c.contains.result c.contains.ensures.value
