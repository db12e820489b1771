use Rattle.std.proofs.Common.{option_map, ap}
use Rattle.krates_answers.proofs.DifferenceLemmas.{with_id}
use Rattle.krates_answers.proofs.difference.parent_of.Goals as goal

pub returns : goal.returns
returns c = ap (option_map (with_id c.args.dependent.now)) c.in-Some.ensures.id

pub returns-in_default : goal.returns-in_default
returns-in_default c = ap (option_map (with_id c.args.dependent.now)) c.in_default.ensures.id
