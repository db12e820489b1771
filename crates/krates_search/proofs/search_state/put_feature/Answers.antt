use Rattle.std.proofs.Common.{ℕ, ◌<◌, ◌∙◌, Contains, sym, subst}
use Rattle.std.proofs.lemmas.List.Elements.{Contains-push}
use Rattle.std.proofs.lemmas.Option.{slice_get_within}
use Rattle.krates_graph.specs.Agenda.{PutNumbers}
use Rattle.krates_questions.specs.FeatureTable.{listed_features}
use Rattle.krates_search.proofs.Putting.{feature_put, feature_stays, on_false, on_true, put_there}
use Rattle.krates_questions.specs.Context.{document_of}
use Rattle.krates_search.proofs.search_state.put_feature.Goals as goal

pub put-requires : goal.put-requires
put-requires c =
    let b = c.args.context.now in
    let at = c.requires.may.number_of.0 in
    subst (λ (n : ℕ). c.args.number < n) (sym c.requires.sound.features_size) (slice_get_within (listed_features (document_of b)) c.args.number (at.place, c.requires.may.name) at.at)

pub returns-then-not-put-clause-advanced : goal.returns-then-not-put-clause-advanced
returns-then-not-put-clause-advanced c =
    feature_stays c.args.context.now c.args.found.now c.put.new.self c.requires.sound (on_false c.put.result c.if-not-put.true c.put.ensures.unchanged)

pub returns-then-not-put-clause-put : goal.returns-then-not-put-clause-put
returns-then-not-put-clause-put c =
    let same = on_false c.put.result c.if-not-put.true c.put.ensures.unchanged in
    subst (λ (a : PutNumbers). Contains a.put c.args.number) (sym same) (on_false c.put.result c.if-not-put.true c.put.ensures.old)

pub returns-clause-advanced : goal.returns-clause-advanced
returns-clause-advanced c =
    let x = c.args.found.now in
    let may = c.requires.may in
    feature_put c.one_reading.ensures.once c.args.context.now x c.put.new.self c.push.new.self c.push-2.new.self c.args.number c.len.result may.krate may.name c.args.reason c.requires.sound
    (on_true c.put.result c.if-not-put.false c.put.ensures.added) c.in_ok-push.ensures.items (c.len.ensures ∙ x.trace.ok.0) c.in_ok-push-2.ensures.items may.number_of.0 may.number_of.1 may.kept may.finds

pub returns-clause-put : goal.returns-clause-put
returns-clause-put c =
    let x = c.args.found.now in
    put_there x.features c.put.new.self c.args.number (on_true c.put.result c.if-not-put.false c.put.ensures.added) (Contains-push x.features.put c.args.number)
