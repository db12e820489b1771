use Rattle.std.proofs.Common.{take, option_map}
use Rattle.krates_build_tables.specs.Judgements.{AreJudged, lent_machines}
use Rattle.krates_build_tables.proofs.machines.passes_on_each.Given as goal

-- those so far are judged
abbrev pub invariant-loop-machine : goal.invariant-loop-machine
invariant-loop-machine l = AreJudged (lent_machines (take l.machine-index l.machines)) (option_map (λ t. t.now) l.text) l.passes.items
