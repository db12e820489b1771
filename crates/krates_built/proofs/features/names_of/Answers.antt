use Rattle.std.proofs.Common.{◌+◌, ◌∷◌, [], Bor, map, option_map, take, sym, ap, ◌∙◌}
use Rattle.std.proofs.lemmas.List.{map-append, map_more, take_all}
use Rattle.std.specs.Global.{Vec}
use Rattle.krates_cm.specs.Document.{Text}
use Rattle.krates_built.specs.BuildLists.{feature_view}
use Rattle.krates_built.specs.FactLists.{with_one}
use Rattle.krates_built.proofs.FeatureNames.{names_found, names_more}
use Rattle.krates_built.proofs.features.names_of.Goals as goal
use Rattle.krates_built.proofs.features.names_of.Goals.{in-Some+in_ok-push, in_default}

pub loop-feature-preserved : goal.loop-feature-preserved
loop-feature-preserved c =
    let now = λ (n : Bor Text). n.now in
    let fs = c.args.features.now in
    let i = c.loop-feature.feature-index in
    let old = c.loop-feature.names.items in
    let more = map_more feature_view fs i _ c.loop-feature-test.true in
    elim c.match-name_at.branch [
      | in-Some+in_ok-push w ↦ names_more c.args.krate c.args.side (map feature_view (take i fs)) (map feature_view (take (i + 1) fs)) _ (map now old) _ more c.loop-feature.invariant
          (ap (λ (v : Vec (Bor Text)). map now v.items) w.names-is ∙ ap (map now) w.in_ok-push.ensures.items ∙ map-append now old (w.in-Some.name ∷ []) ∙ ap (with_one (map now old)) (ap (option_map now) (sym w.in-Some.is) ∙ c.name_at.ensures))
      | in_default w ↦ names_more c.args.krate c.args.side (map feature_view (take i fs)) (map feature_view (take (i + 1) fs)) _ (map now old) _ more c.loop-feature.invariant
          (ap (λ (v : Vec (Bor Text)). map now v.items) w.names-is ∙ ap (with_one (map now old)) (ap (option_map now) (sym w.in_default.is) ∙ c.name_at.ensures))
    ]

pub returns : goal.returns
returns c =
    let now = λ (n : Bor Text). n.now in
    λ t whole. names_found t c.args.krate c.args.side (map feature_view c.args.features.now) (map now c.loop-feature.names.items)
    (rw (ap (map feature_view) (take_all c.loop-feature.feature-index c.args.features.now c.loop-feature-test.false)) at c.loop-feature.invariant) whole
