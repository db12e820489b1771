use Rattle.std.proofs.Common.{take, ◌++◌, ◌∙◌, ap, arith}
use Rattle.std.proofs.lemmas.Bool.{false≢true}
use Rattle.std.specs.Bool.{◌==◌}
use Rattle.krates_cli.proofs.CountedLemmas.{Appends-trans, moves_front, nothing_left}
use Rattle.krates_cli.proofs.counted.Counted.write_all.Goals as goal

pub loop-rest-preserved : goal.loop-rest-preserved
loop-rest-preserved g c =
    let ((done, split, appended), grown, still) = c.loop-rest.invariant in
    let rest = c.loop-rest.rest.now in
    let n = c.in-Ok.count in (
      (done ++ take n rest, moves_front _ done rest n split, Appends-trans _ _ _ _ _ appended c.in-Ok.ensures.bytes),
      omega (arith, grown, c.write.ensures.grows),
      λ empty. absurd (false≢true (c.loop-rest-test.ensures ∙ ap (λ n. n == 0) (nothing_left _ done rest split empty))),
    )

pub returns-clause-nothing : goal.returns-clause-nothing
returns-clause-nothing g c = c.loop-rest.invariant.2
