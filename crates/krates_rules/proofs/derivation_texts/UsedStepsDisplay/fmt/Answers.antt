use Rattle.std.proofs.Common.{◌++◌, codes, get_or, rules}
use Rattle.std.proofs.lemmas.Grind.{put_two}
use Rattle.std.specs.Fmt.{decimal}
use Rattle.krates_rules.proofs.DerivationTexts.{uses_more}
use Rattle.krates_rules.proofs.derivation_texts.UsedStepsDisplay.fmt.Goals as goal

pub loop-used-preserved : goal.loop-used-preserved
loop-used-preserved g c = λ plain.
    let rest = c.in-Some.rest.now in
    let i = c.loop-used.used-index in
    put_two _ _ _ _ _ (codes ", " ++ decimal (get_or rest i 0)) _ (c.loop-used.invariant plain) (search rules) (uses_more _ rest i c.loop-used-test.true)
