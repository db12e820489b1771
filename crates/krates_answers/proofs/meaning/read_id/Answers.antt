use Rattle.krates_answers.proofs.ReadingLemmas.{reads_none}
use Rattle.krates_answers.proofs.meaning.read_id.Goals as goal

pub returns-in-Err : goal.returns-in-Err
returns-in-Err c = reads_none c.args.id c.in-Err.refusal c.no_id.result c.in-Err.ensures.refused c.no_id.ensures
