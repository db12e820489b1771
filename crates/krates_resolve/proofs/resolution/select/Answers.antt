use Rattle.std.proofs.Common.{subst}
use Rattle.std.proofs.lemmas.Result.{err_from_is_err_and}
use Rattle.krates_cm.specs.Document.{metadata_view}
use Rattle.krates_rules.specs.NamedIds.{NamesIdsOf, named_ids}
use Rattle.krates_rules.specs.Questions.{questions}
use Rattle.krates_rules.specs.Resolved.{Resolved}
use Rattle.krates_rules.specs.SelectionRefusals.{SelectionRefusal}
use Rattle.krates_questions.proofs.ReadIds.{each_read}
use Rattle.krates_rules.specs.Resolution.{RefusesSelection}
use Rattle.krates_selection.specs.Selection.{IsExplained, IsSelection}
use Rattle.krates_resolve.proofs.resolution.select.Goals as goal

pub returns-clause-selected : goal.returns-clause-selected
returns-clause-selected c =
    let s = c.args.setting.now in
    let of = c.in_ok-document.ensures in
    record { graph = of.graph; has_graph = of.has_graph; holds = subst (λ (r : Resolved). IsSelection r s c.in_ok-selection.field-0.selection) of.holds c.in_ok-selection.ensures.selected }

pub returns-clause-explained : goal.returns-clause-explained
returns-clause-explained c =
    let s = c.args.setting.now in
    let of = c.in_ok-document.ensures in
    record { graph = of.graph; has_graph = of.has_graph; holds = subst (λ (r : Resolved). IsExplained r s c.in_ok-selection.field-0.selection) of.holds c.in_ok-selection.ensures.explained }

pub returns-in_err-selection-clause-refused : goal.returns-in_err-selection-clause-refused
returns-in_err-selection-clause-refused c =
    let m = metadata_view c.args.metadata.now in
    let s = c.args.setting.now in
    let of = c.in_ok-document.ensures in
    let error = c.in_err-selection.field-0.0 in
    let refused : RefusesSelection m s error = record { graph = of.graph; has_graph = of.has_graph; holds = subst (λ (r : Resolved). SelectionRefusal (questions r s) error) of.holds c.in_err-selection.ensures.refused } in
    let p = err_from_is_err_and c.from_residual-in_err-selection.result c.from_residual-in_err-selection.ensures.1 in
    rw (p.1, p.2) refused

pub returns-in_err-selection-clause-named : goal.returns-in_err-selection-clause-named
returns-in_err-selection-clause-named c =
    let m = metadata_view c.args.metadata.now in
    let of = c.in_ok-document.ensures in
    let error = c.in_err-selection.field-0.0 in
    let named = each_read m of.graph (named_ids error) of.has_graph (subst (λ (r : Resolved). NamesIdsOf r error) of.holds c.in_err-selection.ensures.named) in
    let p = err_from_is_err_and c.from_residual-in_err-selection.result c.from_residual-in_err-selection.ensures.1 in
    rw (p.1, p.2) named
