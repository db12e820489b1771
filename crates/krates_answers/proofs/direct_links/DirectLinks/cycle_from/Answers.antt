use Rattle.std.proofs.Common.{◌≡◌, ◌∙◌, ◌<◌, Bool, List, ap, arith, false, get_or, length, replicate, subst, sym}
use Rattle.std.proofs.lemmas.Result.{IfOk-weaker}
use Rattle.krates_answers.specs.Order.{IsCutAt, IsCycle}
use Rattle.krates_answers.proofs.OrderLemmas.{none_marked, path_begins, path_step, turns_round, unmarked-set}
use Rattle.krates_answers.proofs.direct_links.DirectLinks.cycle_from.Goals as goal

pub loop-is_seen-init : goal.loop-is_seen-init
loop-is_seen-init c =
    let lists = c.args.self.now in
    let marks : c.in_ok-is_seen.is_seen.items ≡ replicate (length lists) false = c.in_ok-is_seen.ensures.items_if_clones_equal (λ y e. e) ∙ ap (λ n. replicate n false) c.len.ensures.count in
    let none = none_marked (length lists) c.in_ok-is_seen.is_seen.items marks in
    path_begins lists c.args.is_done.now c.in_ok-is_seen.is_seen.items c.new-path.result.items c.args.start c.new-path.ensures.items none.0 none.1 c.requires.start

pub loop-is_seen-smaller : goal.loop-is_seen-smaller
loop-is_seen-smaller c =
    let so = c.loop-is_seen.invariant in
    let seen = c.loop-is_seen.is_seen.items in
    let next = c.loop-is_seen.next in
    let lt : next < length seen = omega (arith, so.long, so.undone.below) in
    rw c.index.ensures (omega (arith, unmarked-set seen next lt (subst (λ (marks : List Bool). get_or marks next false ≡ false) c.deref.ensures.value (sym c.is_marked.ensures ∙ c.loop-is_seen-test.true))))

pub loop-is_seen-preserved : goal.loop-is_seen-preserved
loop-is_seen-preserved c =
    let l = c.loop-is_seen in
    rw (c.index.ensures, c.in_ok-push.ensures.items) (path_step c.args.self.now c.len.ensures.inside c.args.is_done.now l.is_seen.items l.path.items l.next c.in-Some.need l.invariant c.in-Some.ensures)

pub returns : goal.returns
returns c =
    let lists = c.args.self.now in
    let l = c.loop-is_seen in
    IfOk-weaker c.cut.result (λ end. IsCutAt l.path.items l.next end.items) (λ cycle. IsCycle lists cycle.items) (λ end w. turns_round lists l.path.items end.items l.next l.invariant.along w) c.cut.ensures
