use Rattle.krates_cm.specs.Document.{target_view}
use Rattle.krates_units.proofs.TargetKinds.{test_told}
use Rattle.krates_units.proofs.kinds.asks_to_test.Goals as goal

pub returns : goal.returns
returns c =
    test_told c.args.flags (target_view c.args.target.now) c.ask_to_test.result c.is_library-library.result c.is_bin-program.result c.is_bench-benchmark.result
    c.ask_to_test.ensures c.is_library-library.ensures c.is_bin-program.ensures c.is_bench-benchmark.ensures
