use Rattle.std.proofs.Common.{length, map, string_bytes}
use Rattle.krates_cli.specs.Options.{options_view}
use Rattle.krates_cli.proofs.OptionsLemmas.{AreReadTo}
use Rattle.krates_cli.proofs.options.options_of.Given as goal

abbrev pub invariant-loop-option : goal.invariant-loop-option
invariant-loop-option l = AreReadTo (map string_bytes l.fn.words) (options_view l.options) (map string_bytes l.rest)

abbrev pub decreases-loop-option : goal.decreases-loop-option
decreases-loop-option l = length l.rest
