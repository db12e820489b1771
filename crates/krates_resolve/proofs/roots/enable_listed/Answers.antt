use Rattle.std.proofs.Common.{refl, String, Global, sym, subst, arith, string_bytes}
use Rattle.std.proofs.lemmas.Option.{slice_get_within}
use Rattle.krates_cm.specs.Document.{Text, text_view}
use Rattle.krates_questions.specs.Context.{document_of}
use Rattle.krates_rules.specs.Facts.{Crate, Feature}
use Rattle.krates_search.specs.SearchState.{HasFound, HasEnabled, MayEnable}
use Rattle.krates_rules.specs.Resolved.{id_of}
use Rattle.krates_search.proofs.Finding.{finds_root_feature, for_reason}
use Rattle.krates_search.proofs.Growing.{advances_refl, advances_trans}
use Rattle.krates_questions.proofs.FeatureValues.{value_at}
use Rattle.krates_rules.proofs.Seen.{seen_more, each_seen}
use Rattle.krates_resolve.proofs.roots.enable_listed.Goals as goal

pub features_at-name-items-requires : goal.features_at-name-items-requires
features_at-name-items-requires c =
    let at = c.requires.node.at in
    record { within = slice_get_within (document_of c.args.context.now).graph.nodes c.args.node.place.index at.node at.at }

pub loop-name-init : goal.loop-name-init
loop-name-init c = (advances_refl c.args.context.now c.args.found.now c.requires.sound, λ k d lt. absurd (omega (arith, lt)))

pub enable-requires-clause-sound : goal.enable-requires-clause-sound
enable-requires-clause-sound c = c.loop-name.invariant.0.sound

pub enable-requires-clause-kept : goal.enable-requires-clause-kept
enable-requires-clause-kept c = c.loop-name.invariant.0.grows.found (Crate (id_of c.args.node.id.now)) c.requires.kept

pub enable-requires-clause-may : goal.enable-requires-clause-may
enable-requires-clause-may c =
    let b = c.args.context.now in
    let i = id_of c.args.node.id.now in
    let f = string_bytes c.name-item.result in
    let texts = c.features_at-name-items.result.now in
    let names = c.features_at-name-items.ensures i c.requires.node.at f in
    let among = value_at texts c.loop-name.name-index c.name-item.result c.loop-name-test.true c.name-item.is in
    subst (λ (t : Text). MayEnable b i t) (sym c.as_str.ensures.value) (record { enabled = c.requires.may f; listed = λ lacks. absurd (lacks (names.1 among)) })

pub enable-requires-clause-step : goal.enable-requires-clause-step
enable-requires-clause-step c lists =
    let b = c.args.context.now in
    let i = id_of c.args.node.id.now in
    let f = c.as_str.result.now in
    let x = c.loop-name.found in
    for_reason b x _ _ (Feature i f) c.by_nothing.ensures (finds_root_feature b x i f c.requires.root.0 c.requires.root.1 lists)

pub loop-name-preserved : goal.loop-name-preserved
loop-name-preserved c =
    let b = c.args.context.now in
    let i = id_of c.args.node.id.now in
    let f = string_bytes c.name-item.result in
    let x = c.loop-name.found in
    let y = c.enable.new.found in
    let inv = c.loop-name.invariant in
    let step = c.in_ok-enable.ensures in
    let texts = c.features_at-name-items.result.now in
    let names = c.features_at-name-items.ensures i c.requires.node.at f in
    let among = value_at texts c.loop-name.name-index c.name-item.result c.loop-name-test.true c.name-item.is in
    let named = subst (λ (t : Text). HasEnabled b y i t) c.as_str.ensures.value step.named in (
      advances_trans b c.args.found.now x y inv.0 step.advanced,
      seen_more (λ (name : String Global). HasFound b y (Feature i (string_bytes name))) texts c.loop-name.name-index c.name-item.result c.loop-name-test.true c.name-item.is
          (λ k d lt. step.advanced.grows.found (Feature i _) (inv.1 k d lt)) (named.enabled (names.1 among)),
    )

pub returns-clause-advanced : goal.returns-clause-advanced
returns-clause-advanced c = c.loop-name.invariant.0

pub returns-clause-enabled : goal.returns-clause-enabled
returns-clause-enabled c f lists =
    let b = c.args.context.now in
    let i = id_of c.args.node.id.now in
    let texts = c.features_at-name-items.result.now in
    let names = c.features_at-name-items.ensures i c.requires.node.at f in
    each_seen text_view (λ (t : Text). HasFound b c.loop-name.found (Feature i t)) texts texts c.loop-name.name-index refl (omega arith) c.loop-name.invariant.1 f (names.0 lists)
