use Rattle.std.proofs.Common.{◌∷◌, ◌++◌, [], ap, sym, ◌∙◌, arith}
use Rattle.krates_closure.specs.Needed.{is_marked}
use Rattle.krates_closure.proofs.NeededLemmas.{kept_next, left_next}
use Rattle.krates_closure.proofs.needed.marked_steps.Goals.{then-gives_marked+in_ok-push, else-gives_marked}
use Rattle.krates_closure.proofs.needed.marked_steps.Goals as goal

pub gives_marked-requires : goal.gives_marked-requires
gives_marked-requires c = c.requires c.step-item.result (c.loop-step.step-index, omega arith, sym c.step-item.is)

pub loop-step-preserved : goal.loop-step-preserved
loop-step-preserved c =
    let l = c.loop-step in
    let p = is_marked c.args.clauses.now c.args.marks.now in
    elim c.if-gives_marked.branch [
      | then-gives_marked+in_ok-push w ↦
          rw w.marked-is (w.in_ok-push.ensures.items ∙ ap (λ xs. xs ++ c.step-item.result ∷ []) l.invariant
          ∙ sym (kept_next p c.args.steps.now l.step-index c.step-item.result (omega arith) c.step-item.is (sym c.gives_marked.ensures ∙ w.if-gives_marked.true)))
      | else-gives_marked w ↦
          rw w.marked-is (l.invariant ∙ sym (left_next p c.args.steps.now l.step-index c.step-item.result (omega arith) c.step-item.is (sym c.gives_marked.ensures ∙ w.if-gives_marked.false)))
    ]
