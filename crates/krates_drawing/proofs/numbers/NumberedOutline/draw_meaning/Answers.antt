use Rattle.std.proofs.Common.{◌≡◌, ◌∙◌, ◌∷◌, ◌++◌, [], map, ap, arith, sym}
use Rattle.std.proofs.lemmas.Grind.{common_steps}
use Rattle.std.proofs.lemmas.List.{append-nil}
use Rattle.krates_cm.specs.Document.{text_view}
use Rattle.krates_rules.specs.Resolved.{id_of}
use Rattle.krates_selection.specs.Selection.{id_at}
use Rattle.krates_drawing.specs.Drawing.{AtFeature}
use Rattle.krates_drawing.specs.LinesFrom.{line_from}
use Rattle.krates_drawing.specs.Views.{kids_in, meaning_view, outline_view, planned_edge_view}
use Rattle.krates_drawing.proofs.FeatureLines.{meaning_drawn, none_own, own_ends}
use Rattle.krates_drawing.proofs.numbers.NumberedOutline.draw_meaning.Goals as goal
use Rattle.krates_drawing.proofs.numbers.NumberedOutline.draw_meaning.Goals.{in-OwnFeature+in_ok-push, in_default}

pub loop-x-init : goal.loop-x-init
loop-x-init c =
    let t = outline_view c.args.self.now.outline.now in
    let own = id_at (kids_in c.args.self.now.outline.now) c.args.krate in
    let seen = map planned_edge_view in
    let old = seen c.args.out.now.items in
    meaning_drawn t c.args.source own (meaning_view c.args.meaning.now) old (seen c.match-meaning.out.items) (map id_of c.referents_in-x-items.result.now) c.referents_in-x-items.ensures
    (elim c.match-meaning.branch [
      | in-OwnFeature+in_ok-push w ↦ (
          let drawn : seen w.push.new.self.items ≡ old ++ line_from t c.args.source (AtFeature own (text_view w.in-OwnFeature.name)) ∷ [] = grind (arith, common_steps) in
          ap (λ v. seen v.items) w.out-is ∙ drawn ∙ ap (λ m. old ++ map (line_from t c.args.source) (own_ends own (meaning_view m))) (sym w.in-OwnFeature.is))
      | in_default w ↦ ap (λ v. seen v.items) w.out-is ∙ sym (append-nil old) ∙ ap (λ es. old ++ map (line_from t c.args.source) es) (sym (none_own own c.args.meaning.now w.in_default.not-OwnFeature))
    ])
