use Rattle.std.proofs.Common.{List, sym, ◌∙◌, subst}
use Rattle.krates_ids.specs.Identity.{Identity}
use Rattle.krates_selection.specs.KeptTables.{AreStepsOf, IsKeptIn}
use Rattle.krates_selection.specs.declared.trace.NumberedStep.{NumberedStep}
use Rattle.std.proofs.lemmas.Result.{err_from_is_err_and}
use Rattle.krates_cm.specs.Document.{metadata_view}
use Rattle.krates_drawing.specs.Views.{outline_view}
use Rattle.krates_questions.specs.Lookup.{resolved_view}
use Rattle.krates_queries.specs.Why.{AreStepsFor}
use Rattle.krates_rules.specs.Resolution.{RefusesSelection}
use Rattle.krates_selection.specs.Selection.{IsExplained, IsExplainedOf, IsSelection, IsSelectionOf}
use Rattle.krates_questions.proofs.ReadIds.{each_read}
use Rattle.krates_rules.specs.NamedIds.{NamesIdsOf, named_ids}
use Rattle.krates_rules.specs.Questions.{questions}
use Rattle.krates_rules.specs.Resolved.{Resolved}
use Rattle.krates_rules.specs.SelectionRefusals.{SelectionRefusal}
use Rattle.krates.proofs.DrawnLemmas.{outline_told}
use Rattle.krates.proofs.ExplainedLemmas.{crates_in, steps_for}
use Rattle.krates.proofs.drawn.sketch_of.Goals as goal

pub returns-in_err-selection-clause-refused : goal.returns-in_err-selection-clause-refused
returns-in_err-selection-clause-refused c =
    let m = metadata_view c.args.metadata.now in
    let s = c.args.setting.now in
    let d = c.in_ok-document.ensures in
    let error = c.in_err-selection.field-0.0 in
    let refused : RefusesSelection m s error = record { graph = d.graph; has_graph = d.has_graph; holds = subst (λ (r : Resolved). SelectionRefusal (questions r s) error) d.holds c.in_err-selection.ensures.refused } in
    let p = err_from_is_err_and c.from_residual-in_err-selection.result c.from_residual-in_err-selection.ensures.1 in
    rw (p.1, p.2) refused

pub returns-in_err-selection-clause-named : goal.returns-in_err-selection-clause-named
returns-in_err-selection-clause-named c =
    let m = metadata_view c.args.metadata.now in
    let d = c.in_ok-document.ensures in
    let error = c.in_err-selection.field-0.0 in
    let named = each_read m d.graph (named_ids error) d.has_graph (subst (λ (r : Resolved). NamesIdsOf r error) d.holds c.in_err-selection.ensures.named) in
    let p = err_from_is_err_and c.from_residual-in_err-selection.result c.from_residual-in_err-selection.ensures.1 in
    rw (p.1, p.2) named

pub kept_steps-requires-clause-crates : goal.kept_steps-requires-clause-crates
kept_steps-requires-clause-crates c =
    let x = c.in_ok-selection.field-0.selection in
    rw (c.new-tables.ensures.context) (λ i derived.
    subst (λ (ks : List Identity). IsKeptIn ks i) (sym (c.new-tables.ensures.krates ∙ c.deref.ensures.value)) (crates_in (resolved_view c.in_ok-document.document) c.args.setting.now x c.in_ok-selection.ensures.selected i derived))

pub outline_of-requires : goal.outline_of-requires
outline_of-requires c = record { selected = c.in_ok-selection.ensures.selected }

pub returns-clause-sketched : goal.returns-clause-sketched
returns-clause-sketched c =
    let m = metadata_view c.args.metadata.now in
    let s = c.args.setting.now in
    let x = c.in_ok-selection.field-0.selection in
    let d = c.in_ok-document.ensures in
    let r = resolved_view c.in_ok-document.document in
    let selected = c.in_ok-selection.ensures.selected in
    let explained = c.in_ok-selection.ensures.explained in
    let of : IsSelectionOf m s x = record { graph = d.graph; has_graph = d.has_graph; holds = subst (λ (z : Resolved). IsSelection z s x) d.holds selected } in
    let shown : IsExplainedOf m s x = record { graph = d.graph; has_graph = d.has_graph; holds = subst (λ (z : Resolved). IsExplained z s x) d.holds explained } in
    let steps = c.in_ok-steps.steps.items in
    let of_krates = subst (λ (ks : List Identity). AreStepsOf r s ks c.deref-3.result.now steps) (c.new-tables.ensures.krates ∙ c.deref.ensures.value) (rw (c.new-tables.ensures.context) at c.in_ok-steps.ensures) in
    let of_steps = subst (λ (ts : List NumberedStep). AreStepsOf r s x.krates.items ts steps) c.deref-3.ensures.value of_krates in
    record {
      outline = outline_told m s r (outline_view c.in_ok-outline.outline) d c.in_ok-outline.ensures.outline;
      steps = subst (λ ks. AreStepsFor m s ks steps) (sym c.in_ok-outline.ensures.krates) (steps_for m s x r steps of shown d of_steps);
      work = c.in_ok-outline.ensures.work;
    }
