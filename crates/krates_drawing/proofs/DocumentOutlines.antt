-- A document has only one graph, so what is promised of a selection of it holds of the document that is asked.
use Rattle.std.proofs.Common.{◌≡◌, subst}
use Rattle.krates_cm.specs.Document.{MetadataModel}
use Rattle.krates_selection.specs.Selection.{IsSelection, IsSelectionOf}
use Rattle.krates_selection.specs.declared.selection.Selection.{Selection}
use Rattle.krates_rules.specs.Resolved.{HasGraphWith, Resolved, resolved}
use Rattle.krates_rules.specs.Setting.{SettingModel}

pub selected_in : (m : MetadataModel) (s : SettingModel) (x : Selection) (r : Resolved) → IsSelectionOf m s x → HasGraphWith m (λ g. r ≡ resolved m g) → IsSelection r s x
selected_in m s x r sel h =
    let same : sel.graph ≡ h.graph = cc (sel.has_graph, h.has_graph) in
    rw h.holds (subst (λ g. IsSelection (resolved m g) s x) same sel.holds)
