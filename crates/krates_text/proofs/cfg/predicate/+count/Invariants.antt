use Rattle.std.proofs.Common.{◌≡◌, ◌+◌, ◌<◌, ◌^◌, drop}
use Rattle.krates_text.specs.CfgValue.{count_among}
use Rattle.krates_text.specs.CfgView.{trees_of}
use Rattle.krates_text.proofs.cfg.predicate.+count.Given as goal

abbrev pub invariant-count_among-loop-predicate : goal.invariant-count_among-loop-predicate
invariant-count_among-loop-predicate l = count_among (trees_of l.predicates) < 2 ^ 64 → l.total + count_among (trees_of (drop l.predicate-index l.predicates)) ≡ count_among (trees_of l.predicates)
