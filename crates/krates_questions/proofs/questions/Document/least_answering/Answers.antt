use Rattle.krates_questions.specs.Lookup.{resolved_view}
use Rattle.krates_questions.proofs.LeastReferents.{all_gone, gone_by, gone_none, gone_put}
use Rattle.krates_questions.proofs.questions.Document.least_answering.Goals.{then-answers_before, else-answers_before}
use Rattle.krates_questions.proofs.questions.Document.least_answering.Goals as goal

pub loop-there-init : goal.loop-there-init
loop-there-init c = gone_none (resolved_view c.args.self.now) c.args.parts.now c.args.name.now c.args.places.now c.args.before c.requires.before

pub answers_before-requires-clause-least : goal.answers_before-requires-clause-least
answers_before-requires-clause-least c = c.loop-there.invariant.0

pub loop-there-preserved : goal.loop-there-preserved
loop-there-preserved c =
    let r = resolved_view c.args.self.now in
    let parts = c.args.parts.now in
    let name = c.args.name.now in
    let xs = c.args.places.now in
    let l = c.loop-there in
    elim c.if-answers_before.branch [
      | then-answers_before w ↦ rw w.least-is (gone_put c.comparison.ensures.total c.comparison.ensures.order r parts name xs l.there-index _ c.args.before l.least c.answers_before.result c.loop-there-test.true c.answers_before.ensures w.if-answers_before.true l.invariant)
      | else-answers_before w ↦ rw w.least-is (gone_by c.comparison.ensures.total r parts name xs l.there-index _ c.args.before l.least c.answers_before.result c.loop-there-test.true c.answers_before.ensures w.if-answers_before.false l.invariant)
    ]

pub returns : goal.returns
returns c = all_gone (resolved_view c.args.self.now) c.args.parts.now c.args.name.now c.args.places.now c.loop-there.there-index c.args.before c.loop-there.least c.loop-there-test.false c.loop-there.invariant
