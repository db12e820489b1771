use Rattle.std.proofs.Common.{◌≡◌, ◌∷◌, None, map, rules, sym, ap, subst}
use Rattle.krates_cm.specs.Document.{features_view, text_view}
use Rattle.krates_ids.specs.Correction.{named}
use Rattle.krates_ids.proofs.CorrectionLemmas.{entries_view}
use Rattle.krates_build_tables.specs.FeatureLists.{AddsFeature, under}
use Rattle.krates_build_tables.proofs.FeatureLemmas.{left_none}
use Rattle.krates_build_tables.proofs.features.read_features.Goals as goal

pub loop-name-init : goal.loop-name-init
loop-name-init c = λ f.
    let e : under f c.new-read.result ≡ None = search rules in
    let start : c.into_iter-name-iterator.result ≡ c.args.features.now.entries = c.into_iter-name-iterator.ensures.into_iter_gives.0 in
    rw e (ap (λ es. named (entries_view es) f) (sym start))

pub loop-name-preserved : goal.loop-name-preserved
loop-name-preserved c f =
    let l = c.loop-name in
    let step : l.name-iterator ≡ (c.in-Some.name.now, c.in-Some.values.now) ∷ c.next.new.self = c.in-Some.ensures.steps in
    let adds = rw c.as_str.ensures.value at c.in_ok-add_feature.ensures in
    let more = subst (λ vs. AddsFeature (text_view c.in-Some.name.now) (map text_view vs) l.read c.add_feature.new.read) c.deref.ensures.value adds in
    more f (named (features_view c.args.features.now) f) (named (entries_view c.next.new.self) f) (rw step at l.invariant f)

pub returns : goal.returns
returns c f =
    left_none (named (features_view c.args.features.now) f) (under f c.loop-name.read) (rw c.in-None.ensures.steps.0 at c.loop-name.invariant f)
