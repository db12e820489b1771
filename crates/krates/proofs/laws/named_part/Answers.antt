use Rattle.krates.proofs.NarrowedAlike as narrowed
use Rattle.krates.proofs.laws.named_part.Goals as goal

pub returns : goal.returns
returns c = narrowed.build_named_part c.one_correction.ensures c.reordering.ensures c.named_part.ensures
