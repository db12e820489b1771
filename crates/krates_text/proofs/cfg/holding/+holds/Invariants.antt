use Rattle.std.proofs.Common.{◌≡◌, map, string_bytes, drop}
use Rattle.krates_text.specs.CfgHolding.{all_among, some_among, pair_bytes}
use Rattle.krates_text.specs.CfgView.{trees_of}
use Rattle.krates_text.proofs.cfg.holding.+holds.Given as goal

abbrev pub invariant-all_hold-loop-predicate : goal.invariant-all_hold-loop-predicate
invariant-all_hold-loop-predicate l = all_among (map string_bytes l.words) (map pair_bytes l.pairs) (trees_of (drop l.predicate-index l.predicates)) ≡ all_among (map string_bytes l.words) (map pair_bytes l.pairs) (trees_of l.predicates)

abbrev pub invariant-any_holds-loop-predicate : goal.invariant-any_holds-loop-predicate
invariant-any_holds-loop-predicate l = some_among (map string_bytes l.words) (map pair_bytes l.pairs) (trees_of (drop l.predicate-index l.predicates)) ≡ some_among (map string_bytes l.words) (map pair_bytes l.pairs) (trees_of l.predicates)
