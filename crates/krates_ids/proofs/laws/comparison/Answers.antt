use Rattle.krates_ids.proofs.ComparisonLemmas.{same_id-iff, id_cmp-Equal, id_cmp-total, id_hash_input-same}
use Rattle.krates_ids.proofs.laws.comparison.Goals as goal

pub returns-clause-equality : goal.returns-clause-equality
returns-clause-equality c = same_id-iff

pub returns-clause-order : goal.returns-clause-order
returns-clause-order c = id_cmp-Equal

pub returns-clause-total : goal.returns-clause-total
returns-clause-total c = id_cmp-total

pub returns-clause-hash : goal.returns-clause-hash
returns-clause-hash c = id_hash_input-same
