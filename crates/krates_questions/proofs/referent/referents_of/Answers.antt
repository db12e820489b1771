use Rattle.std.proofs.Common.{Bool, sym, subst, rules}
use Rattle.std.proofs.lemmas.Option.{slice_get-get_or, slice_get_within}
use Rattle.std.proofs.lemmas.Result.{IfOk-weaker}
use Rattle.krates_questions.specs.Lookup.{resolved_view}
use Rattle.krates_questions.specs.ReferentPlace.{AreReferentsIn}
use Rattle.krates_questions.proofs.AllReferents.{none_in, one_in}
use Rattle.krates_questions.proofs.referent.referents_of.Goals.{in-Some+in_ok-push, in_default}
use Rattle.krates_questions.proofs.referent.referents_of.Goals as goal

pub returns-then-all : goal.returns-then-all
returns-then-all c = IfOk-weaker c.all_referents.result _ _ (λ xs told. subst (λ (b : Bool). AreReferentsIn (resolved_view c.args.document.now) b c.args.parts.now c.args.name.now xs.items) (sym c.if-all.true) told) c.all_referents.ensures

pub returns : goal.returns
returns c =
    let r = resolved_view c.args.document.now in
    let parts = c.args.parts.now in
    let name = c.args.name.now in
    rw c.if-all.false (elim c.match-referent_of.branch [
      | in-Some+in_ok-push w ↦ (let at = w.in-Some.ensures in
          rw (w.referents-is, w.in_ok-push.ensures.items, c.new-referents.ensures.items) (one_in r parts name _ at (slice_get-get_or parts.children.now w.in-Some.place _ (slice_get_within parts.children.now w.in-Some.place at.child at.at))))
      | in_default w ↦ rw (w.referents-is, c.new-referents.ensures.items) (none_in r parts name w.in_default.ensures)
    ])

pub bounds-parts-place : goal.bounds-parts-place
bounds-parts-place c = slice_get_within c.args.parts.now.children.now c.in-Some.place c.in-Some.ensures.child c.in-Some.ensures.at

pub offset_bounds-parts-place : goal.offset_bounds-parts-place
offset_bounds-parts-place c = let within = bounds-parts-place c in search rules
