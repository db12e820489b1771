use Rattle.std.proofs.Common.{refl, rules}
use Rattle.std.proofs.lemmas.Option.{slice_get-get_or, slice_get_within}
use Rattle.krates_questions.specs.Lookup.{resolved_view}
use Rattle.krates_questions.proofs.AllReferents.{gone_by, gone_put, none_gone}
use Rattle.krates_questions.proofs.questions.Document.push_answering.Goals.{then-answers_before+in_ok-push, else-answers_before}
use Rattle.krates_questions.proofs.questions.Document.push_answering.Goals as goal

pub loop-there-preserved : goal.loop-there-preserved
loop-there-preserved c =
    let r = resolved_view c.args.self.now in
    let parts = c.args.parts.now in
    let name = c.args.name.now in
    let xs = c.args.places.now in
    let old = c.args.referents.now.items in
    let l = c.loop-there in
    elim c.if-answers_before.branch [
      | then-answers_before+in_ok-push w ↦ rw (w.referents-is, w.in_ok-push.ensures.items)
          (gone_put r parts name xs l.there-index _ old l.referents.items _ c.answers_before.result c.loop-there-test.true c.answers_before.ensures w.if-answers_before.true refl (let at = c.answers_before.ensures.0 w.if-answers_before.true in slice_get-get_or parts.children.now _ _ (slice_get_within parts.children.now _ at.0 at.1.at)) l.invariant)
      | else-answers_before w ↦ rw w.referents-is (gone_by r parts name xs l.there-index _ old l.referents.items c.answers_before.result c.loop-there-test.true c.answers_before.ensures w.if-answers_before.false l.invariant)
    ]

pub loop-there-init : goal.loop-there-init
loop-there-init c = none_gone (resolved_view c.args.self.now) c.args.parts.now c.args.name.now c.args.places.now c.args.referents.now.items

pub bounds-parts-place : goal.bounds-parts-place
bounds-parts-place c =
    let at = c.answers_before.ensures.0 c.if-answers_before.true in
    slice_get_within c.args.parts.now.children.now _ at.0 at.1.at

pub offset_bounds-parts-place : goal.offset_bounds-parts-place
offset_bounds-parts-place c = let within = bounds-parts-place c in search rules
