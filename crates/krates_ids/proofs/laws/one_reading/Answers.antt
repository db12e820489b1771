use Rattle.krates_ids.proofs.EitherReading.{Reads-or_fault}
use Rattle.krates_ids.proofs.IdentityLemmas.{Reads-once, Reads-no_fault, IsFault-once, Reads-decodable}
use Rattle.krates_ids.proofs.laws.one_reading.Goals as goal

pub returns-clause-either : goal.returns-clause-either
returns-clause-either c = Reads-or_fault

pub returns-clause-once : goal.returns-clause-once
returns-clause-once c = Reads-once

pub returns-clause-no_fault_beside : goal.returns-clause-no_fault_beside
returns-clause-no_fault_beside c = Reads-no_fault

pub returns-clause-one_fault : goal.returns-clause-one_fault
returns-clause-one_fault c = IsFault-once

pub returns-clause-decodable : goal.returns-clause-decodable
returns-clause-decodable c = Reads-decodable
