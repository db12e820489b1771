use Rattle.std.proofs.Common.{◌≡◌, drop}
use Rattle.krates_cli.specs.OptionsReading.{with_ignored}
use Rattle.krates_cli.proofs.options.ignore_kinds.Given as goal

abbrev pub invariant-loop-kind : goal.invariant-loop-kind
invariant-loop-kind l =
    record l.setting { ignored = with_ignored (drop l.kind-index l.kinds) l.setting.ignored } ≡ record l.fn.setting { ignored = with_ignored l.kinds l.fn.setting.ignored }
