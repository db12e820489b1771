use Rattle.std.proofs.Common.{◌≡◌, ◌↔◌, Bool, IsTrue, List, Option, [], length, true, false, map, refl, sym, ap, ◌∙◌, subst, arith, rules, tests}
use Rattle.std.proofs.lemmas.List.{length-map, nil_from_length}
use Rattle.krates_cm.specs.Document.{Text, text_view}
use Rattle.krates_ids.specs.Identity.{Identity}
use Rattle.krates_rules.specs.Admission.{IsRootId}
use Rattle.krates_questions.specs.Lookup.{resolved_view}
use Rattle.krates_questions.specs.DocumentAnswers.{AsksFor}
use Rattle.krates_rules.proofs.Elements.{has_element}
use Rattle.krates_rules.specs.Resolved.{Resolved}
use Rattle.krates_rules.specs.Roots.{AsksForWorkspace, IsWorkspaceManifest, by_manifest}
use Rattle.krates_rules.specs.Setting.{SettingModel}
use Rattle.krates_questions.proofs.RootLemmas.{graph_root}
use Rattle.krates_questions.proofs.questions.Document.root_choice.Goals as goal

pub returns-in-Some : goal.returns-in-Some
returns-in-Some c =
    rw (← c.self.view_is) (let r = resolved_view c.self.inside.lookup in
    let s = c.args.setting.now in
    let short : length c.manifests.result.now ≡ 0 = search (rules, tests) in
    let none : s.manifests ≡ [] = sym c.manifests.ensures ∙ ap (map text_view) (nil_from_length c.manifests.result.now short) in
    let off : s.workspace ≡ false = sym c.is_workspace.ensures ∙ c.if-not-is_workspace.true in
    graph_root c.one_reading.ensures.once r s c.in-Some.root none off (subst (λ (o : Option Identity). IsRootId r.graph.root o) c.in-Some.is c.self.invariant.ids.root))

-- every member is asked for exactly where the manifest of the workspace is
members_asked : (r : Resolved) (s : SettingModel) (b : Bool) → (s.manifests ≡ [] → ⊥) → IsTrue b ↔ AsksForWorkspace r s → AsksFor r s b
members_asked r s true some told = by_manifest (told.0 refl)
members_asked r s false some told = record { some = some; not_workspace = λ w. cc (told.1 w) }

pub returns : goal.returns
returns c =
    rw (← c.self.view_is) (let r = resolved_view c.self.inside.lookup in
    let s = c.args.setting.now in
    let all = c.asks_for_workspace.result in
    let some = has_element c.manifests.result.now (sym c.if-is_empty.false ∙ c.is_empty.ensures) in
    let told = subst (λ (w : Text). IsTrue all ↔ IsWorkspaceManifest (map text_view c.manifests-2.result.now) w) c.as_str-workspace_root.ensures.value c.asks_for_workspace.ensures in
    members_asked r s all (λ e. absurd (omega (arith, some, length-map c.manifests.result.now text_view, ap length (c.manifests.ensures ∙ e))))
    (subst (λ (ms : List Text). IsTrue all ↔ IsWorkspaceManifest ms r.metadata.workspace_root) c.manifests-2.ensures told))
