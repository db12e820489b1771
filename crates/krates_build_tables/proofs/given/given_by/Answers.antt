use Rattle.std.proofs.Common.{◌≡◌, ◌++◌, ◌∷◌, [], Bor, map, rules, ap, ◌∙◌}
use Rattle.std.proofs.lemmas.List.{map-append}
use Rattle.krates_cm.specs.Document.{Text, dependency_view, text_view}
use Rattle.krates_questions.specs.Lookup.{resolved_view}
use Rattle.krates_rules.specs.Resolved.{id_of}
use Rattle.krates_rules.specs.Rules.{default_name}
use Rattle.krates_build_tables.proofs.FeatureLemmas.{given_with, given_without}
use Rattle.krates_build_tables.proofs.given.given_by.Goals.{then-gives_default+in_ok-push, else-gives_default}
use Rattle.krates_build_tables.proofs.given.given_by.Goals as goal

pub returns : goal.returns
returns c =
    let r = resolved_view c.args.document.now in
    let d = dependency_view c.args.declared.now in
    let now = λ (t : Bor Text). t.now in
    let first : map now c.in_ok-given.given.items ≡ d.features = c.in_ok-given.ensures ∙ ap (map text_view) c.deref.ensures.value in
    elim c.if-gives_default.branch [
      | then-gives_default+in_ok-push w ↦
          let grown : map now c.if-gives_default.given.items ≡ d.features ++ default_name ∷ [] =
          ap (λ v. map now v.items) w.given-is ∙ ap (map now) w.in_ok-push.ensures.items ∙ map-append now c.in_ok-given.given.items _ ∙ ap (λ z. z ++ default_name ∷ []) first in
          given_with r d (id_of c.args.child.now) (map now c.if-gives_default.given.items) grown (c.gives_default.ensures.0 w.if-gives_default.true)
      | else-gives_default w ↦
          let kept : c.if-gives_default.given ≡ c.in_ok-given.given = search rules in
          given_without r d (id_of c.args.child.now) (map now c.if-gives_default.given.items) (ap (λ v. map now v.items) kept ∙ first) (λ h. let y = c.gives_default.ensures.1 h in absurd cc)
    ]
