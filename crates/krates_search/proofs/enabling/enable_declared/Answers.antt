use Rattle.std.proofs.Common.{String, Global, Contains, map, refl, sym, ◌∙◌, subst, arith, string_bytes}
use Rattle.krates_cm.specs.Document.{Text, text_view}
use Rattle.krates_rules.specs.Facts.{Crate, Feature}
use Rattle.krates_rules.specs.Rules.{default_name}
use Rattle.krates_search.specs.SearchContext.{FindsListed}
use Rattle.krates_rules.specs.Resolved.{id_of}
use Rattle.krates_questions.proofs.FeatureNumbers.{listed_at}
use Rattle.krates_questions.proofs.FeatureValues.{value_at}
use Rattle.krates_questions.specs.Context.{document_of}
use Rattle.krates_search.proofs.Finding.{finds_grow}
use Rattle.krates_search.proofs.Growing.{advances_refl, advances_trans, named_grows}
use Rattle.krates_rules.proofs.Seen.{seen_more, each_seen}
use Rattle.krates_search.specs.SearchState.{HasEnabled, MayEnable}
use Rattle.krates_search.proofs.enabling.enable_declared.Goals as goal

pub loop-name-init : goal.loop-name-init
loop-name-init c = (advances_refl c.args.context.now c.args.found.now c.requires.sound, λ k d lt. absurd (omega (arith, lt)), refl)

pub enable-requires-clause-sound : goal.enable-requires-clause-sound
enable-requires-clause-sound c = c.loop-name.invariant.0.sound

pub enable-requires-clause-kept : goal.enable-requires-clause-kept
enable-requires-clause-kept c = c.loop-name.invariant.0.grows.found (Crate (id_of c.args.node.id.now)) c.requires.kept

pub enable-requires-clause-may : goal.enable-requires-clause-may
enable-requires-clause-may c =
    let b = c.args.context.now in
    let i = id_of c.args.node.id.now in
    let g = string_bytes c.name-item.result in
    let among = subst (λ ts. Contains (map text_view ts) g) c.deref-name-items.ensures.value (value_at c.deref-name-items.result.now c.loop-name.name-index c.name-item.result c.loop-name-test.true c.name-item.is) in
    subst (λ (t : Text). MayEnable b i t) (sym c.as_str.ensures.value) (c.requires.may.declared g among)

pub enable-requires-clause-step : goal.enable-requires-clause-step
enable-requires-clause-step c lists =
    let b = c.args.context.now in
    let i = id_of c.args.node.id.now in
    let g = string_bytes c.name-item.result in
    let old = c.args.found.now in
    let among = subst (λ ts. Contains (map text_view ts) g) c.deref-name-items.ensures.value (value_at c.deref-name-items.result.now c.loop-name.name-index c.name-item.result c.loop-name-test.true c.name-item.is) in
    let here = subst (λ (t : Text). FindsListed b old c.args.reason i t) (sym c.as_str.ensures.value) (c.requires.step.declared g among) in
    finds_grow b old c.loop-name.found c.args.reason (Feature i c.as_str.result.now) c.loop-name.invariant.0.grows (here lists)

pub loop-name-preserved : goal.loop-name-preserved
loop-name-preserved c =
    let b = c.args.context.now in
    let i = id_of c.args.node.id.now in
    let x = c.loop-name.found in
    let y = c.enable.new.found in
    let inv = c.loop-name.invariant in
    let step = c.in_ok-enable.ensures in (
      advances_trans b c.args.found.now x y inv.0 step.advanced,
      seen_more (λ (name : String Global). HasEnabled b y i (text_view name)) c.deref-name-items.result.now c.loop-name.name-index c.name-item.result c.loop-name-test.true c.name-item.is
          (λ k d lt. named_grows b x y i _ step.advanced.grows.found (inv.1 k d lt)) (subst (HasEnabled b y i) c.as_str.ensures.value step.named),
      step.same_links ∙ inv.2,
    )

pub put_feature-requires-clause-sound : goal.put_feature-requires-clause-sound
put_feature-requires-clause-sound c = c.loop-name.invariant.0.sound

pub put_feature-requires-clause-may : goal.put_feature-requires-clause-may
put_feature-requires-clause-may c =
    let b = c.args.context.now in
    let i = id_of c.args.node.id.now in
    let x = c.loop-name.found in
    let grows = c.loop-name.invariant.0.grows in
    let at = c.in-Some.ensures.number i c.requires.node.at in
    let finds = c.requires.step.by_default c.if-not-dependency.false (listed_at (document_of b) i default_name c.in-Some.number at) in
    record { krate = i; name = default_name; number_of = (at, c.in-Some.ensures.own); kept = grows.found (Crate i) c.requires.kept; finds = finds_grow b c.args.found.now x c.args.reason (Feature i default_name) grows finds }

pub returns-then-not-dependency-clause-advanced : goal.returns-then-not-dependency-clause-advanced
returns-then-not-dependency-clause-advanced c = c.loop-name.invariant.0

pub returns-then-not-dependency-clause-used : goal.returns-then-not-dependency-clause-used
returns-then-not-dependency-clause-used c =
    let b = c.args.context.now in
    let i = id_of c.args.node.id.now in
    record { declared = each_seen text_view (HasEnabled b c.loop-name.found i) c.deref-name-items.result.now c.args.dependency.now.features.items c.loop-name.name-index c.deref-name-items.ensures.value (omega arith) c.loop-name.invariant.1; by_default = λ uses lists. absurd (cc (uses, c.if-not-dependency.true)) }

pub returns-then-not-dependency-clause-same_links : goal.returns-then-not-dependency-clause-same_links
returns-then-not-dependency-clause-same_links c = c.loop-name.invariant.2

pub returns-in_default-clause-advanced : goal.returns-in_default-clause-advanced
returns-in_default-clause-advanced c = c.loop-name.invariant.0

pub returns-in_default-clause-used : goal.returns-in_default-clause-used
returns-in_default-clause-used c =
    let b = c.args.context.now in
    let i = id_of c.args.node.id.now in
    record { declared = each_seen text_view (HasEnabled b c.loop-name.found i) c.deref-name-items.result.now c.args.dependency.now.features.items c.loop-name.name-index c.deref-name-items.ensures.value (omega arith) c.loop-name.invariant.1; by_default = λ uses lists. absurd (c.in_default.ensures.number i c.requires.node.at lists) }

pub returns-in_default-clause-same_links : goal.returns-in_default-clause-same_links
returns-in_default-clause-same_links c = c.loop-name.invariant.2

pub returns-clause-advanced : goal.returns-clause-advanced
returns-clause-advanced c = advances_trans c.args.context.now c.args.found.now c.loop-name.found c.put_feature.new.found c.loop-name.invariant.0 c.in_ok-put_feature.ensures.advanced

pub returns-clause-used : goal.returns-clause-used
returns-clause-used c =
    let b = c.args.context.now in
    let i = id_of c.args.node.id.now in
    let step = c.in_ok-put_feature.ensures in
    let declared = each_seen text_view (HasEnabled b c.loop-name.found i) c.deref-name-items.result.now c.args.dependency.now.features.items c.loop-name.name-index c.deref-name-items.ensures.value (omega arith) c.loop-name.invariant.1 in
    record {
      declared = λ g among. named_grows b c.loop-name.found c.put_feature.new.found i g step.advanced.grows.found (declared g among);
      by_default = λ uses lists. record { number = c.in-Some.number; among = step.put; at = c.in-Some.ensures.number i c.requires.node.at };
    }

pub returns-clause-same_links : goal.returns-clause-same_links
returns-clause-same_links c = c.in_ok-put_feature.ensures.same_links ∙ c.loop-name.invariant.2
