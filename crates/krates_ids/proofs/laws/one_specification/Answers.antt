use Rattle.krates_ids.proofs.SpecificationLawLemmas.{IsSpec-or_fault, IsSpec-no_fault, IsSpec-once, IsSpecFault-once}
use Rattle.krates_ids.proofs.laws.one_specification.Goals as goal

pub returns-clause-either : goal.returns-clause-either
returns-clause-either c = IsSpec-or_fault

pub returns-clause-never_both : goal.returns-clause-never_both
returns-clause-never_both c = IsSpec-no_fault

pub returns-clause-one : goal.returns-clause-one
returns-clause-one c = IsSpec-once

pub returns-clause-one_refusal : goal.returns-clause-one_refusal
returns-clause-one_refusal c = IsSpecFault-once
