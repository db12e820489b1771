use Rattle.std.proofs.Common.{◌≡◌, map, string_bytes, drop}
use Rattle.krates_text.specs.CfgValue.{all_true, some_true}
use Rattle.krates_text.specs.CfgView.{trees_of}
use Rattle.krates_text.specs.TargetTable.{target_of}
use Rattle.krates_text.proofs.cfg.predicate.+eval.Given as goal

abbrev pub invariant-all_hold-loop-predicate : goal.invariant-all_hold-loop-predicate
invariant-all_hold-loop-predicate l = all_true (target_of l.target) (map string_bytes l.features) (trees_of (drop l.predicate-index l.predicates)) ≡ all_true (target_of l.target) (map string_bytes l.features) (trees_of l.predicates)

abbrev pub invariant-any_holds-loop-predicate : goal.invariant-any_holds-loop-predicate
invariant-any_holds-loop-predicate l = some_true (target_of l.target) (map string_bytes l.features) (trees_of (drop l.predicate-index l.predicates)) ≡ some_true (target_of l.target) (map string_bytes l.features) (trees_of l.predicates)
