use Rattle.krates_checkers.proofs.closed.is_fact_in.Goals as goal

pub returns-in-Crate : goal.returns-in-Crate
returns-in-Crate c = rw c.in-Crate.is c.is_crate_in.ensures

pub returns-in-Feature : goal.returns-in-Feature
returns-in-Feature c = rw c.in-Feature.is (rw c.as_str.ensures.value at c.is_feature_in.ensures)

pub returns-in-Kept : goal.returns-in-Kept
returns-in-Kept c = rw c.in-Kept.is c.is_kept_in.ensures
