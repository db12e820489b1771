use Rattle.std.proofs.Common.{◌≡◌, false, length, replicate}
use Rattle.krates_closure.proofs.ClosingLemmas.{FitsTogether-begin}
use Rattle.krates_closure.proofs.closing.begin.Goals as goal

pub returns : goal.returns
returns c =
    let marks : c.in_ok-marks.marks.items ≡ replicate c.args.size false = c.in_ok-marks.ensures.items_if_clones_equal (λ y e. e) in
    let seen : c.in_ok-seen.seen.items ≡ replicate (length c.args.clauses.now) 0 = c.in_ok-seen.ensures.items_if_clones_equal (λ y e. e) in
    rw (marks, c.new-steps.ensures.items, seen, c.in_ok-watchers.ensures)
    (FitsTogether-begin c.args.clauses.now c.args.size c.in_ok-pending.pending.items c.requires c.in_ok-pending.ensures.length
    c.in_ok-pending.ensures.below c.in_ok-pending.ensures.all)
