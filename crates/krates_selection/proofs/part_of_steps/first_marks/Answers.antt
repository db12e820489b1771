use Rattle.std.proofs.Common.{◌≡◌, ◌<◌, List, [], Bool, Some, ap, replicate, false, length, get_or, arith, refl, slice_get, sym, ◌∙◌, subst}
use Rattle.std.proofs.lemmas.List.{length-replicate, length-set}
use Rattle.std.proofs.lemmas.Option.{slice_get-get_or, slice_get_read}
use Rattle.krates_selection.specs.PartOfSteps.{AreFirstBelow}
use Rattle.krates_selection.proofs.FirstMarks.{none_first, first_more, first_all}
use Rattle.krates_selection.proofs.part_of_steps.first_marks.Goals as goal

pub loop-fact-init : goal.loop-fact-init
loop-fact-init c =
    let facts = c.args.facts.now in
    let items : c.in_ok-seen.seen.items ≡ replicate c.args.count false = c.in_ok-seen.ensures.items_if_clones_equal (λ y e. e) in
    let first = subst (λ (seen : List Bool). AreFirstBelow facts 0 seen []) (sym items) (none_first facts c.args.count) in
    record {
      room = ap length items ∙ length-replicate c.args.count false;
      first = subst (λ (marks : List Bool). AreFirstBelow facts 0 c.in_ok-seen.seen.items marks) (sym c.new-marks.ensures.items) first;
    }

pub loop-fact-preserved : goal.loop-fact-preserved
loop-fact-preserved c =
    let facts = c.args.facts.now in
    let n = c.loop-fact.fact-index in
    let seen = c.loop-fact.seen.items in
    let lt : n < length facts = c.loop-fact-test.true in
    let f = get_or facts n 0 in
    let low : f < c.args.count = c.requires n 0 lt in
    let within : f < length seen = omega (arith, low, c.loop-fact.invariant.room) in
    let here : slice_get seen f ≡ Some c.index.result.now = slice_get_read seen (length seen) f c.index.result.now refl within c.index.ensures in
    let first = first_more facts n f c.index.result.now seen c.loop-fact.marks.items (slice_get-get_or facts n 0 lt) here c.loop-fact.invariant.first in
    record {
      room = length-set seen f _ ∙ c.loop-fact.invariant.room;
      first = rw c.in_ok-push.ensures.items first;
    }

pub returns : goal.returns
returns c = first_all c.args.facts.now c.loop-fact.fact-index c.loop-fact.seen.items c.loop-fact.marks.items (omega arith) c.loop-fact.invariant.first
