use Rattle.krates.proofs.BuildsAlike.{build_order_free}
use Rattle.krates.proofs.laws.reordering.Goals as goal

pub returns : goal.returns
returns c = build_order_free c.drawn_alike.ensures c.outline_there.ensures c.one_correction.ensures c.one_reading.ensures.once c.comparison.ensures.total c.reordering.ensures
