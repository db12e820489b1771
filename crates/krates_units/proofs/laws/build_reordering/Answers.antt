use Rattle.krates_units.proofs.BuildReordered.{build_order_free}
use Rattle.krates_units.proofs.laws.build_reordering.Goals as goal

pub returns : goal.returns
returns c = build_order_free
