use Rattle.std.proofs.Common.{map, subst, arith}
use Rattle.std.proofs.lemmas.Grind.{common_steps}
use Rattle.std.proofs.lemmas.List.{map-append}
use Rattle.krates_cm.specs.Document.{text_view}
use Rattle.krates_questions.specs.Context.{document_of}
use Rattle.krates_rules.proofs.Zips.{zip_next}
use Rattle.krates_rules.specs.Resolved.{id_of}
use Rattle.krates_drawing.specs.Outline.{IsMeaning}
use Rattle.krates_drawing.specs.Views.{meaning_view}
use Rattle.krates_drawing.proofs.gather.meanings_of.Goals as goal

pub loop-text-preserved : goal.loop-text-preserved
loop-text-preserved c =
    let l = c.loop-text in
    let means = IsMeaning (document_of c.args.context) c.args.context.setting.now.all_named (id_of c.args.krate.now) in
    let made = meaning_view c.in_ok-meaning_of.field-0 in
    let here : means (text_view c.text-item.result) made = subst (λ t. means t made) c.as_str.ensures.value c.in_ok-meaning_of.ensures in
    rw (c.in_ok-push.ensures.items, map-append) (zip_next means text_view c.args.values.now l.text-index c.text-item.result (map meaning_view l.meanings.items) made c.loop-text-test.true c.text-item.is here l.invariant)

pub returns : goal.returns
returns c = grind (arith, common_steps)
