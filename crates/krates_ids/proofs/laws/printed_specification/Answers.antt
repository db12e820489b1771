use Rattle.krates_ids.proofs.SpecificationTextLemmas.{spec_text-read, spec_text-distinct}
use Rattle.krates_ids.proofs.laws.printed_specification.Goals as goal

pub returns-clause-again : goal.returns-clause-again
returns-clause-again c = spec_text-read

pub returns-clause-distinct : goal.returns-clause-distinct
returns-clause-distinct c = spec_text-distinct
