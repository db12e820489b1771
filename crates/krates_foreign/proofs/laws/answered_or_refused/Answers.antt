use Rattle.krates_foreign.proofs.LawLemmas.{drawn_refused, explained_refused, listed_refused}
use Rattle.krates_foreign.proofs.laws.answered_or_refused.Goals as goal

pub returns-clause-listed : goal.returns-clause-listed
returns-clause-listed c = listed_refused c.listed_or_refused.ensures.text c.one_command_line.ensures

pub returns-clause-drawn : goal.returns-clause-drawn
returns-clause-drawn c = drawn_refused c.listed_or_refused.ensures.text c.one_command_line.ensures

pub returns-clause-explained : goal.returns-clause-explained
returns-clause-explained c = explained_refused c.listed_or_refused.ensures.text c.one_command_line.ensures c.one_reading.ensures.once
