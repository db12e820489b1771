use Rattle.std.proofs.Common.{◌≡◌, ◌<◌, ◌+◌, ◌-◌, length, replicate, false, Some, ap, sym, ◌∙◌, arith}
use Rattle.std.proofs.lemmas.Option.{slice_get-get_or}
use Rattle.std.proofs.Math.ListN.{length-replicate, length-set}
use Rattle.std.specs.List.{slice_get}
use Rattle.krates_closure.specs.Needed.{AreNeeded}
use Rattle.krates_closure.proofs.NeededLemmas.{AreNeeded-begin, AreNeeded-more, step_within}
use Rattle.krates_closure.proofs.needed.needed_facts.Goals as goal

pub loop-place-init : goal.loop-place-init
loop-place-init c =
    let items : c.in_ok-marks.marks.items ≡ replicate c.args.clauses.now.size false = c.in_ok-marks.ensures.items_if_clones_equal (λ y e. e) ∙ ap (λ n. replicate n false) c.size.ensures in
    rw (items, c.index.ensures, c.as_slice-list.ensures.clauses) record {
      sized = length-set (replicate c.args.clauses.now.size false) c.args.fact _ ∙ length-replicate c.args.clauses.now.size false;
      needed = AreNeeded-begin c.args.clauses.now.list c.args.steps.now c.args.clauses.now.size c.args.fact c.requires.below;
    }

pub need-requires-clause-within : goal.need-requires-clause-within
need-requires-clause-within c =
    rw c.as_slice-list.ensures.clauses
    (step_within c.args.clauses.now.list c.args.steps.now c.index-steps-place.result c.requires.derivation
    (c.loop-place.place - 1, omega (arith, c.loop-place.auto.place, c.loop-place-test.true), sym c.index-steps-place.is))

pub need-requires-clause-below : goal.need-requires-clause-below
need-requires-clause-below c = rw c.loop-place.invariant.sized c.as_slice-list.ensures.below

pub loop-place-preserved : goal.loop-place-preserved
loop-place-preserved c =
    let l = c.loop-place in
    let step = c.index-steps-place.result in
    let inside : l.place - 1 < length c.args.steps.now = omega (arith, l.auto.place, c.loop-place-test.true) in
    let at : slice_get c.args.steps.now (l.place - 1) ≡ Some step = slice_get-get_or c.args.steps.now (l.place - 1) step inside ∙ ap Some (sym c.index-steps-place.is) in
    let here : l.place ≡ l.place - 1 + 1 = omega (arith, c.loop-place-test.true) in
    let needed : AreNeeded c.as_slice-list.result.now c.args.steps.now c.args.fact (l.place - 1 + 1) l.marks.items = rw here at l.invariant.needed in
    record {
      sized = c.need.ensures.sized ∙ l.invariant.sized;
      needed = AreNeeded-more c.as_slice-list.result.now c.args.steps.now c.args.fact (l.place - 1) step l.marks.items c.need.new.marks.items
          (rw c.as_slice-list.ensures.clauses c.requires.derivation) needed at
          (rw c.as_slice-list.ensures.clauses (step_within c.args.clauses.now.list c.args.steps.now step c.requires.derivation
          (l.place - 1, inside, sym c.index-steps-place.is))) c.need.ensures.marks;
    }

pub returns : goal.returns
returns c =
    let end : c.loop-place.place ≡ 0 = omega (arith, c.loop-place-test.false) in
    rw (end, c.as_slice-list.ensures.clauses) at c.loop-place.invariant.needed
