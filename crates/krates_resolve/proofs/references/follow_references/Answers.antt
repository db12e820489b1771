use Rattle.std.proofs.Common.{ℕ, String, Global, map, refl, sym, subst, arith, string_bytes}
use Rattle.krates_cm.specs.Document.{Text, text_view}
use Rattle.krates_text.specs.FeatureReference.{Reference, IsReference}
use Rattle.krates_rules.specs.Facts.{Id, Crate, Feature}
use Rattle.krates_search.specs.SearchState.{HasFollowed, HasFollowedReferences, IsValueOfEnabled}
use Rattle.std.specs.List.{sum}
use Rattle.krates_selection.specs.Selection.{CountsText, HasReferences}
use Rattle.krates_rules.specs.Resolved.{id_of}
use Rattle.krates_search.proofs.Growing.{advances_refl, advances_trans, followed_grows}
use Rattle.krates_questions.proofs.FeatureNumbers.{listed_place}
use Rattle.krates_resolve.proofs.ReferenceLemmas.{listed_found, one_feature, value_of_enabled, value_of_step, followed_all_here, none_counted, one_counted, references_here}
use Rattle.krates_questions.proofs.FeatureValues.{value_at}
use Rattle.krates_rules.proofs.Seen.{seen_more, each_seen}
use Rattle.krates_rules.proofs.Zips.{zip_all}
use Rattle.krates_questions.specs.Context.{document_of, IsFeatureAt}
use Rattle.krates_questions.specs.NodeEntry.{AreParts}
use Rattle.krates_search.specs.SearchContext.{IsValueStep}
use Rattle.krates_resolve.proofs.references.follow_references.Goals as goal

pub listed_feature-feature-requires : goal.listed_feature-feature-requires
listed_feature-feature-requires c = record { within = omega (arith, c.requires.within, c.number.ensures, c.requires.sound.features_size) }

pub parts_of-parts-requires : goal.parts_of-parts-requires
parts_of-parts-requires c =
    let b = c.args.context.now in
    let feature = c.listed_feature-feature.result in
    let at = c.listed_feature-feature.ensures in
    record { within = listed_place (document_of b) c.number.result feature.place.index feature.name.now at }

pub values_at-values-requires : goal.values_at-values-requires
values_at-values-requires c =
    let parts = c.parts_of-parts.result in
    let p = c.parts_of-parts.ensures in
    record { parts = subst (λ (n : ℕ). AreParts (document_of c.args.context.now) n parts) (sym p.place_is) p }

pub loop-text-init : goal.loop-text-init
loop-text-init c = (advances_refl c.args.context.now c.args.found.now c.requires.sound, λ k d lt. absurd (omega (arith, lt)), none_counted c.args.context.now (id_of c.parts_of-parts.result.parent.now) c.values_at-values.result.now)

pub follow-requires-clause-sound : goal.follow-requires-clause-sound
follow-requires-clause-sound c = c.loop-text.invariant.0.sound

pub follow-requires-clause-kept : goal.follow-requires-clause-kept
follow-requires-clause-kept c =
    let b = c.args.context.now in
    let x = c.args.found.now in
    let feature = c.listed_feature-feature.result in
    let f = feature.name.now in
    let i = id_of c.parts_of-parts.result.parent.now in
    let at = c.listed_feature-feature.ensures in
    let enabled = listed_found b x c.args.taken c.number.result i feature.place.index f c.requires.put c.number.ensures at c.parts_of-parts.ensures.at in
    c.loop-text.invariant.0.grows.found (Crate i) (c.requires.sound.enabled i f enabled)

pub follow-requires-clause-value : goal.follow-requires-clause-value
follow-requires-clause-value c =
    let b = c.args.context.now in
    let x = c.args.found.now in
    let feature = c.listed_feature-feature.result in
    let f = feature.name.now in
    let i = id_of c.parts_of-parts.result.parent.now in
    let at = c.listed_feature-feature.ensures in
    let enabled = listed_found b x c.args.taken c.number.result i feature.place.index f c.requires.put c.number.ensures at c.parts_of-parts.ensures.at in
    let texts = c.values_at-values.result.now in
    let among = value_at texts c.loop-text.text-index c.text-item.result c.loop-text-test.true c.text-item.is in
    subst (λ (t : Text). IsValueOfEnabled b i t) (sym c.as_str.ensures.value)
    (value_of_enabled b i f (map text_view texts) (string_bytes c.text-item.result) (c.requires.sound.derivable (Feature i f) enabled) c.values_at-values.ensures.references among)

pub follow-requires-clause-step : goal.follow-requires-clause-step
follow-requires-clause-step c =
    let b = c.args.context.now in
    let x = c.args.found.now in
    let trace = c.loop-text.found.trace.items in
    let feature = c.listed_feature-feature.result in
    let f = feature.name.now in
    let i = id_of c.parts_of-parts.result.parent.now in
    let at = c.listed_feature-feature.ensures in
    let numbered : IsFeatureAt b i f c.number.result = record { place = feature.place.index; at = at; node = c.parts_of-parts.ensures.at } in
    let here = c.requires.step i f (subst (λ (n : ℕ). IsFeatureAt b i f n) c.number.ensures numbered) in
    let texts = c.values_at-values.result.now in
    let among = value_at texts c.loop-text.text-index c.text-item.result c.loop-text-test.true c.text-item.is in
    subst (λ (t : Text). IsValueStep b trace c.args.step i t) (sym c.as_str.ensures.value)
    (value_of_step b trace c.args.step i f (map text_view texts) (string_bytes c.text-item.result) (c.loop-text.invariant.0.grows.steps c.args.step (Feature i f) here) c.values_at-values.ensures.references among)

pub loop-text-preserved : goal.loop-text-preserved
loop-text-preserved c =
    let b = c.args.context.now in
    let i = id_of c.parts_of-parts.result.parent.now in
    let x = c.loop-text.found in
    let y = c.follow.new.found in
    let inv = c.loop-text.invariant in
    let step = c.in_ok-counts.ensures in
    let followed = subst (λ (t : Text). (reference : Reference) → IsReference t reference → HasFollowed b y i reference) c.as_str.ensures.value step.followed in (
      advances_trans b c.args.found.now x y inv.0 step.advanced,
      seen_more (λ (text : String Global). (reference : Reference) → IsReference (string_bytes text) reference → HasFollowed b y i reference) c.values_at-values.result.now c.loop-text.text-index c.text-item.result c.loop-text-test.true
          c.text-item.is (λ k d lt reference is. followed_grows b x y i reference step.advanced.grows.found step.advanced.grows.waits (inv.1 k d lt reference is)) followed,
      one_counted b i c.values_at-values.result.now c.loop-text.text-index c.loop-text.references c.in_ok-counts.counts _ c.text-item.result c.loop-text-test.true c.text-item.is (subst (λ (t : Text). CountsText (document_of b) b.setting.now.all_named i t c.in_ok-counts.counts) c.as_str.ensures.value step.counted) c.saturating_add-references.ensures inv.2,
    )

pub returns-clause-advanced : goal.returns-clause-advanced
returns-clause-advanced c = c.loop-text.invariant.0

pub returns-clause-followed_all : goal.returns-clause-followed_all
returns-clause-followed_all c krate f there =
    let b = c.args.context.now in
    let x = c.loop-text.found in
    let number = c.number.result in
    let feature = c.listed_feature-feature.result in
    let i = id_of c.parts_of-parts.result.parent.now in
    let at = c.listed_feature-feature.ensures in
    let same = one_feature c.one_reading.ensures.once (document_of b) i krate feature.place.index number feature.name.now f c.parts_of-parts.ensures.at at (subst (λ (n : ℕ). IsFeatureAt b krate f n) (sym c.number.ensures) there) in
    let texts = c.values_at-values.result.now in
    let each = each_seen text_view (λ (t : Text). (reference : Reference) → IsReference t reference → HasFollowed b x i reference) texts texts c.loop-text.text-index refl (omega arith) c.loop-text.invariant.1 in
    let followed_all : HasFollowedReferences b x i feature.name.now = followed_all_here b x i feature.name.now (map text_view texts) c.values_at-values.ensures.references each in
    subst (λ (j : Id). HasFollowedReferences b x j f) same.0 (subst (λ (g : Text). HasFollowedReferences b x i g) same.1 followed_all)

pub returns-clause-counted : goal.returns-clause-counted
returns-clause-counted c =
    let b = c.args.context.now in
    let x = c.args.found.now in
    let number = c.number.result in
    let feature = c.listed_feature-feature.result in
    let i = id_of c.parts_of-parts.result.parent.now in
    let at = c.listed_feature-feature.ensures in
    let enabled = listed_found b x c.args.taken number i feature.place.index feature.name.now c.requires.put c.number.ensures at c.parts_of-parts.ensures.at in
    let so_far = c.loop-text.invariant.2 in
    let texts = c.values_at-values.result.now in
    let each = zip_all (CountsText (document_of b) b.setting.now.all_named i) text_view texts c.loop-text.text-index so_far.counts (omega arith) so_far.each in
    let n = sum so_far.counts in
    let here = references_here b i feature.name.now (map text_view texts) so_far.counts (c.requires.sound.derivable (Feature i feature.name.now) enabled) c.values_at-values.ensures.named each in
    record {
      number = n;
      has = λ krate f there. (
          let same = one_feature c.one_reading.ensures.once (document_of b) i krate feature.place.index number feature.name.now f c.parts_of-parts.ensures.at at (subst (λ (k : ℕ). IsFeatureAt b krate f k) (sym c.number.ensures) there) in
          subst (λ (j : Id). HasReferences (document_of b) b.setting.now j f n) same.0 (subst (λ (g : Text). HasReferences (document_of b) b.setting.now i g n) same.1 here));
      count = so_far.count;
    }
