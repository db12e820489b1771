use Rattle.std.proofs.Common.{◌≡◌, take}
use Rattle.krates_words.specs.Choice.{IgnoresToo}
use Rattle.krates_words.proofs.choice.ignore_kinds.Given as goal

abbrev pub invariant-loop-kind : goal.invariant-loop-kind
invariant-loop-kind l =
    IgnoresToo l.fn.setting.ignored l.setting.ignored (take l.kind-index l.kinds)
    × (l.setting ≡ record (l.fn.setting) { ignored = l.setting.ignored })
