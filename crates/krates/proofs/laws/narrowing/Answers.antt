use Rattle.krates.proofs.NarrowedAlike as narrowed
use Rattle.krates.proofs.laws.narrowing.Goals as goal

pub returns-clause-part : goal.returns-clause-part
returns-clause-part c = narrowed.build_narrowing c.one_correction.ensures c.outline_there.ensures c.reordering.ensures c.one_reading.ensures.once c.narrowing.ensures c.narrower_draws_no_more.ensures

pub returns-clause-packages : goal.returns-clause-packages
returns-clause-packages c = narrowed.packages_kept c.narrowing.ensures
