use Rattle.std.proofs.Common.{◌≡◌, ◌∙◌, Some, ap, map, refl, slice_get, subst}
use Rattle.std.proofs.lemmas.Option.{get_or_from_slice_get}
use Rattle.std.specs.List.{AllZip}
use Rattle.krates_cm.specs.Document.{package_view, text_view}
use Rattle.krates_questions.specs.Context.{document_of}
use Rattle.krates_questions.specs.FeatureTable.{values_of}
use Rattle.krates_rules.specs.Resolved.{id_of}
use Rattle.krates_rules.proofs.Zips.{zip_push}
use Rattle.krates_drawing.specs.Gathered.{IsFeatureWith}
use Rattle.krates_drawing.specs.Outline.{IsMeaning}
use Rattle.krates_drawing.specs.Views.{meaning_view}
use Rattle.krates_drawing.specs.declared.gather.CrateRecord.{CrateRecord}
use Rattle.krates_drawing.proofs.Gathering.{all_rows}
use Rattle.krates_drawing.proofs.gather.feature_rows.Goals as goal

pub loop-feature-preserved : goal.loop-feature-preserved
loop-feature-preserved c =
    let l = c.loop-feature in
    let r = document_of c.args.context in
    let all = c.args.context.setting.now.all_named in
    let f = c.in-Some.feature in
    let home = c.index-records-feature.result in
    let told = map meaning_view c.in_ok-meanings.meanings.items in
    let here : AllZip (IsMeaning r all (id_of home.krate)) (values_of (package_view home.pkg.now).features (text_view f.name)) told =
    subst (λ vs. AllZip (IsMeaning r all (id_of home.krate)) vs told) (c.values_of-values.ensures ∙ ap (values_of (package_view home.pkg.now).features) c.as_str.ensures.value) c.in_ok-meanings.ensures in
    let meant : (t : CrateRecord) → slice_get c.args.records.now f.krate ≡ Some t → AllZip (IsMeaning r all (id_of t.krate)) (values_of (package_view t.pkg.now).features (text_view f.name)) told = λ t at.
    subst (λ (h : CrateRecord). AllZip (IsMeaning r all (id_of h.krate)) (values_of (package_view h.pkg.now).features (text_view f.name)) told)
    (c.index-records-feature.is ∙ get_or_from_slice_get c.args.records.now f.krate t home at) here in
    (tt, tt, rw c.in_ok-push.ensures.items (zip_push (IsFeatureWith r all c.args.records.now) l.yielded l.rows.items f _ l.invariant.2 (record { feature = refl; meanings = meant })))

pub returns : goal.returns
returns c = all_rows _ _ _ c.into_iter-feature-iterator.result c.loop-feature.feature-iterator c.next.new.self _ _ c.into_iter-feature-iterator.ensures.into_iter_gives.0 c.loop-feature.yielded_by c.in-None.is c.next.ensures.steps c.loop-feature.invariant.2
