use Rattle.krates_cm.specs.Document.{target_view}
use Rattle.krates_units.proofs.TargetKinds.{build_told}
use Rattle.krates_units.proofs.kinds.asks_to_build.Goals as goal

pub returns : goal.returns
returns c =
    build_told c.args.flags (target_view c.args.target.now) c.ask_to_build.result c.is_library-library.result c.is_bin-program.result c.is_example-example.result
    c.ask_to_build.ensures c.is_library-library.ensures c.is_bin-program.ensures c.is_example-example.ensures
