use Rattle.std.proofs.Common.{◌≡◌, ◌<◌, ◌∙◌, List, length, subst, arith, rules, tests}
use Rattle.std.proofs.lemmas.List.{length-map}
use Rattle.std.proofs.lemmas.Result.{on_ok_weaker}
use Rattle.krates_cm.specs.Document.{metadata_view}
use Rattle.krates_rules.specs.StepViews.{step_view, steps_view}
use Rattle.krates_rules.specs.declared.derivation.Step.{Step}
use Rattle.krates_document.specs.Ids.{ids_view}
use Rattle.krates_questions.specs.Lookup.{resolved_view}
use Rattle.krates_rules.specs.Questions.{questions}
use Rattle.krates_rules.specs.Steps.{EachFollows, IsAccepted}
use Rattle.krates_checkers.proofs.Checked.{answering}
use Rattle.krates_checkers.proofs.checking.check_admitted.Goals as goal

pub returns-clause-accepted : goal.returns-clause-accepted
returns-clause-accepted c =
    let m = metadata_view c.args.metadata.now in
    let s = c.args.setting.now in
    let xs = c.args.derivation.now.steps.items in
    let r = resolved_view c.in_ok-document.document in
    let long : length (steps_view xs) ≡ length xs = length-map xs step_view in
    let lt : 0 < length xs = search (rules, tests) in
    let some : 0 < length (steps_view xs) = omega (arith, long, lt) in
    on_ok_weaker c.check_steps.result (λ each.
    answering m s (ids_view c.args.ids.now) r (λ q. IsAccepted q (steps_view xs)) c.requires c.in_ok-document.ensures
    (record { some = some; each = subst (λ (ys : List Step). EachFollows (questions r s) (steps_view ys)) c.deref.ensures.value each })) c.check_steps.ensures.follows

pub returns-then-is_empty-clause-refused : goal.returns-then-is_empty-clause-refused
returns-then-is_empty-clause-refused c =
    let xs = c.args.derivation.now.steps.items in
    let none : length xs ≡ 0 = search (rules, tests) in
    record { ids = ids_view c.args.ids.now; admitted = c.requires; holds = record { graph = c.requires.graph; has_graph = c.requires.has_graph; holds = length-map xs step_view ∙ none } }
