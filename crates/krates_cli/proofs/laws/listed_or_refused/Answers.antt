use Rattle.krates_cli.proofs.ListedLemmas.{asked_refused, listed_refused, unkept_refused}
use Rattle.krates_cli.proofs.OptionsLemmas.{same_line}
use Rattle.krates_cli.proofs.laws.listed_or_refused.Goals as goal

pub returns-clause-text : goal.returns-clause-text
returns-clause-text c = listed_refused c.one_reading.ensures.once c.accepted_lists.ensures.last

pub returns-clause-unkept : goal.returns-clause-unkept
returns-clause-unkept c = unkept_refused c.one_reading.ensures.once

pub returns-clause-words : goal.returns-clause-words
returns-clause-words c =
    asked_refused c.one_reading.ensures.once c.accepted_lists.ensures.last (same_line c.one_specification.ensures.one c.one_reading.ensures.once)
