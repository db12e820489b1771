use Rattle.std.proofs.Common.{◌++◌, codes, rules}
use Rattle.std.proofs.lemmas.Grind.{put_two}
use Rattle.krates_verdict.proofs.Words.{blanks_more, shown_word}
use Rattle.krates_verdict.proofs.refusal.WordsDisplay.fmt.Goals as goal

pub loop-word-preserved : goal.loop-word-preserved
loop-word-preserved g c = λ plain.
    let words = c.args.self.now.0.now in
    let i = c.loop-word.word-index in
    put_two _ _ _ _ _ (codes " " ++ shown_word c.word-item.result) _ (c.loop-word.invariant plain) (search rules) (blanks_more words i c.word-item.result c.loop-word-test.true c.word-item.is)
