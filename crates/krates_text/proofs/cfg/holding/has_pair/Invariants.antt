use Rattle.std.proofs.Common.{◌≡◌, map, drop}
use Rattle.krates_text.specs.CfgHolding.{has_pair, pair_bytes}
use Rattle.krates_text.proofs.cfg.holding.has_pair.Given as goal

abbrev pub invariant-loop-one : goal.invariant-loop-one
invariant-loop-one l = has_pair (map pair_bytes (drop l.one-index l.pairs)) l.key l.string ≡ has_pair (map pair_bytes l.pairs) l.key l.string
