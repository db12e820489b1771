use Rattle.krates_ids.proofs.OpaqueLemmas.{FindsSource-without_hash, IsBody-unclosed, IsBody-hash_before, IsBody-hash}
use Rattle.krates_ids.proofs.opaque.source_in.Goals as goal

pub returns-in_default : goal.returns-in_default
returns-in_default c = FindsSource-without_hash _ _ _ c.in_default.ensures c.before_end.ensures

pub returns-in_default-before_end : goal.returns-in_default-before_end
returns-in_default-before_end c = IsBody-unclosed _ _ _ _ c.in-Some.ensures c.in_default-before_end.ensures

pub returns-in_default-cut_last : goal.returns-in_default-cut_last
returns-in_default-cut_last c = IsBody-hash_before _ _ _ _ c.in-Some.ensures c.in_default-cut_last.ensures

pub returns : goal.returns
returns c = IsBody-hash _ _ _ _ _ _ _ c.requires c.in-Some.ensures c.in-Some-before_end.ensures c.in-Some-cut_last.ensures
