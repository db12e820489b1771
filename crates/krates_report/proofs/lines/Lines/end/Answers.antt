use Rattle.krates_report.proofs.LineLemmas.{grown}
use Rattle.krates_report.proofs.lines.Lines.end.Goals as goal

-- a line is added as it is shown, or nothing
pub invariant_of-self : goal.invariant_of-self
invariant_of-self c = record { shown = grown _ c.as_str.result.now _ c.writeln.ensures c.args.self.now.shown }
