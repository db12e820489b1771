use Rattle.std.proofs.Common.{rules}
use Rattle.std.proofs.lemmas.Grind.{put_two}
use Rattle.krates_foreign.specs.DrawnLines.{entry_text}
use Rattle.krates_foreign.proofs.LineLemmas.{pieces_more}
use Rattle.krates_foreign.proofs.drawn_lines.EntriesDisplay.fmt.Goals as goal

pub loop-entry-preserved : goal.loop-entry-preserved
loop-entry-preserved g c = λ plain.
    let entry = c.entry-item.result in
    put_two _ _ _ _ _ (entry_text entry) _ (c.loop-entry.invariant plain) (search rules) (pieces_more entry_text c.args.self.now.0.now c.loop-entry.entry-index entry c.loop-entry-test.true c.entry-item.is)
