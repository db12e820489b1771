use Rattle.std.proofs.Common.{ℕ, sym, ◌∙◌, subst}
use Rattle.krates_search.proofs.Growth.{put_step_has, step_advances}
use Rattle.krates_selection.specs.Trace.{HasStep}
use Rattle.krates_questions.specs.Context.{document_of}
use Rattle.krates_search.proofs.search_state.put_step.Goals as goal

pub returns-clause-advanced : goal.returns-clause-advanced
returns-clause-advanced c =
    let may = c.requires.may in
    step_advances c.one_reading.ensures.once c.args.context.now c.args.found.now c.push.new.self c.args.step may.fact c.requires.sound c.in_ok-push.ensures.items may.names may.finds

pub returns-clause-put : goal.returns-clause-put
returns-clause-put c f names =
    let b = c.args.context.now in
    let x = c.args.found.now in
    let v = c.push.new.self in
    subst (λ (n : ℕ). HasStep (document_of b) v.items n f) (sym (c.len-number.ensures ∙ x.trace.ok.0)) (put_step_has (document_of b) x.trace.items v c.args.step f c.in_ok-push.ensures.items names)
