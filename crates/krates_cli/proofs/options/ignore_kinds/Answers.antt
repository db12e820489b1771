use Rattle.std.proofs.Common.{refl}
use Rattle.krates_cli.proofs.IgnoredLemmas.{next_ignored}
use Rattle.krates_cli.proofs.options.ignore_kinds.Goals as goal

pub loop-kind-preserved : goal.loop-kind-preserved
loop-kind-preserved c =
    next_ignored c.ignore_kind.new.self c.ignore_kind.new.self c.loop-kind.setting c.args.setting.now c.args.kinds.now c.loop-kind.kind-index _ _
    refl c.ignore_kind.ensures.ignored c.ignore_kind.ensures.rest c.loop-kind-test.true refl c.loop-kind.invariant
