use Rattle.std.proofs.Common.{◌≡◌, ◌∙◌, ◌<◌, ap, arith, false, length, replicate, sym, true≢false}
use Rattle.krates_answers.proofs.OrderLemmas.{least_of, next_unmarked, none_left, none_marked, none_ready, order_begins, order_step, unmarked-set}
use Rattle.krates_answers.proofs.direct_links.DirectLinks.order.Goals as goal
use Rattle.krates_answers.proofs.direct_links.DirectLinks.order.Goals.{In-Some}

pub loop-next-init : goal.loop-next-init
loop-next-init c =
    let lists = c.args.self.now in
    let marks : c.in_ok-is_done.is_done.items ≡ replicate (length lists) false = c.in_ok-is_done.ensures.items_if_clones_equal (λ y e. e) ∙ ap (λ n. replicate n false) c.len.ensures.count in
    let none = none_marked (length lists) c.in_ok-is_done.is_done.items marks in
    order_begins lists c.new-order.result.items c.in_ok-is_done.is_done.items c.in_ok-ready.ready c.new-order.ensures.items none.0 none.1 c.in_ok-ready.ensures

-- the next one has a place among the marks
within : (c : In-Some) → c.in-Some.next < length c.loop-next.is_done.items
within c =
    let l = c.loop-next in
    let next = next_unmarked c.args.self.now l.order.items l.is_done.items l.ready c.in-Some.next l.invariant c.in-Some.ensures.member in
    omega (arith, next.below, l.invariant.long)

pub index_mut-requires : goal.index_mut-requires
index_mut-requires c = omega (arith, within (goal.at.index_mut-requires c).In-Some, c.index.ensures, c.loop-next.is_done.ok.0)

pub loop-next-smaller : goal.loop-next-smaller
loop-next-smaller c =
    let l = c.loop-next in
    let next = next_unmarked c.args.self.now l.order.items l.is_done.items l.ready c.in-Some.next l.invariant c.in-Some.ensures.member in
    rw c.index.ensures (omega (arith, unmarked-set l.is_done.items c.in-Some.next (within (goal.at.loop-next-smaller c).In-Some) next.unmarked))

pub loop-next-preserved : goal.loop-next-preserved
loop-next-preserved c =
    let l = c.loop-next in
    let some = c.in-Some in
    rw (c.index.ensures, c.in_ok-push.ensures.items)
    (order_step c.args.self.now c.len.ensures.inside l.order.items l.is_done.items l.ready c.pop_first.new.self c.add_ready.new.ready c.in_ok-dependents.dependents some.next l.invariant some.ensures.member (λ q t. least_of some.next q (some.ensures.least q t)) some.ensures.updates.0 c.in_ok-dependents.ensures
    (rw (c.list.ensures, c.deref.ensures.value, c.index.ensures) at c.in_ok-add_ready.ensures))

pub ended-requires : goal.ended-requires
ended-requires c =
    let l = c.loop-next in
    let so = l.invariant in
    let empty = none_left l.ready.keys (λ lt. true≢false (sym (c.in_default.ensures.variant.1 lt))) in
    rw c.deref-2.ensures.value (record { inside = c.len.ensures.inside; ordered = so.ordered; marked = so.marked; ended = λ n h. none_ready l.ready n empty ((so.nexts n).1 h) })
