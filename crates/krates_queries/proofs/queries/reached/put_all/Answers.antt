use Rattle.std.proofs.Common.{◌≡◌, ◌∙◌, ◌+◌, Contains, take, sym, inl, inr}
use Rattle.krates_queries.proofs.ReachedLemmas.{grows_both, in_front, put_grows}
use Rattle.krates_queries.proofs.queries.reached.put_all.Goals as goal

pub loop-number-preserved : goal.loop-number-preserved
loop-number-preserved c =
    let xs = c.args.numbers.now in
    let i = c.loop-number.number-index in
    let x = c.number-item.result in
    grows_both (Contains (take i xs)) (λ n. x ≡ n) (Contains (take (i + 1) xs)) c.args.agenda.now c.loop-number.agenda c.put.new.self
    (λ n h. (in_front xs i x n c.loop-number-test.true c.number-item.is).1 (inl h))
    (λ n h. (in_front xs i x n c.loop-number-test.true c.number-item.is).1 (inr h))
    (λ n h. (in_front xs i x n c.loop-number-test.true c.number-item.is).0 h)
    c.loop-number.invariant
    (put_grows (λ n. x ≡ n) c.put.result c.loop-number.agenda c.put.new.self c.index.result (sym c.index.ensures) (λ n h. c.index.ensures ∙ h) c.put.ensures.old c.put.ensures.added c.put.ensures.unchanged)
