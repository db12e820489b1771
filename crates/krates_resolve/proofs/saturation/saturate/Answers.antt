use Rattle.std.proofs.Common.{◌∙◌, arith}
use Rattle.std.proofs.lemmas.Grind.{common_steps}
use Rattle.krates_resolve.proofs.Saturated.{saturated, done_start}
use Rattle.krates_resolve.proofs.Counted.{counted_end, counted_start}
use Rattle.krates_resolve.proofs.saturation.saturate.Goals as goal

pub loop-found-init : goal.loop-found-init
loop-found-init c =
    let step = c.in_ok-put_roots.ensures in
    let b = c.args.context.now in
    let krates = c.in_ok-found.ensures.krates in
    let features = c.in_ok-found.ensures.features in
    let grows = step.advanced.grows in (
      done_start b _ c.put_roots.new.found krates features step.advanced step.roots,
      counted_start b c.put_roots.new.found c.args.work.now c.requires.fresh (grows.krates_taken ∙ krates) (grows.features_taken ∙ features),
    )

pub returns-clause-exact : goal.returns-clause-exact
returns-clause-exact c =
    let taken = c.in_ok-take_next.ensures.taken in
    let none = rw c.if-branch.false at taken.1 in
    saturated c.args.context.now c.take_next.new.found c.agrees.ensures.distinct taken.0 none.0 none.1

pub returns-clause-counted : goal.returns-clause-counted
returns-clause-counted c =
    let taken = c.in_ok-take_next.ensures.taken in
    let done = taken.0 in
    let none = rw c.if-branch.false at taken.1 in
    counted_end c.args.context.now c.take_next.new.found c.take_next.new.work c.in_ok-take_next.ensures.counted done.krates_within done.features_within none.0 none.1

pub loop-found-preserved : goal.loop-found-preserved
loop-found-preserved c = grind (arith, common_steps)
