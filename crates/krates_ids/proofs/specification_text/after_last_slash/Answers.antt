use Rattle.std.proofs.Common.{sym}
use Rattle.krates_ids.proofs.SpecificationTextLemmas.{after_last_slash-cut, after_last_slash-lacks}
use Rattle.krates_ids.proofs.specification_text.after_last_slash.Goals as goal

pub returns-in-Some : goal.returns-in-Some
returns-in-Some c = sym (after_last_slash-cut _ _ _ c.in-Some.ensures)

pub returns-in-None : goal.returns-in-None
returns-in-None c = sym (after_last_slash-lacks _ c.in-None.ensures)
