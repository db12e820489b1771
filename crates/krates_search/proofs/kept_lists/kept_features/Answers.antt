use Rattle.std.proofs.Common.{◌≡◌, ◌+◌, ◌∷◌, [], ◌++◌, get_or, take, rules, sym, subst, arith}
use Rattle.std.proofs.lemmas.List.{get_or_default}
use Rattle.std.specs.List.{AllZip}
use Rattle.krates_cm.specs.Document.{text_view}
use Rattle.krates_selection.specs.KeptTables.{kids_in}
use Rattle.krates_selection.specs.declared.selection.EnabledFeature.{EnabledFeature}
use Rattle.krates_selection.proofs.ByNumber.{zip_more, zip_whole}
use Rattle.krates_search.proofs.KeptLists.{feature_here, features_sorted, home_kept}
use Rattle.krates_search.specs.KeptLists.{IsFeatureOf}
use Rattle.krates_search.proofs.kept_lists.kept_features.Goals as goal

pub listed_feature-feature-requires : goal.listed_feature-feature-requires
listed_feature-feature-requires c = record { within = c.requires.within c.loop-number.number-index 0 c.loop-number-test.true }

pub crate_at-requires : goal.crate_at-requires
crate_at-requires c =
    let number = get_or c.args.found.now c.loop-number.number-index 0 in
    record { kept = home_kept c.args.tables.now number c.listed_feature-feature.result c.listed_feature-feature.ensures (c.requires.kept c.loop-number.number-index 0 c.loop-number-test.true) }

pub loop-number-preserved : goal.loop-number-preserved
loop-number-preserved c =
    let t = c.args.tables.now in
    let i = c.loop-number.number-index in
    let found = c.args.found.now in
    let old = c.loop-number.features.items in
    let number = get_or found i 0 in
    let x = c.listed_feature-feature.result in
    let y : EnabledFeature = record { krate = c.crate_at.result; name = c.in_ok-from_str.field-0 } in
    let there = c.listed_feature-feature.ensures in
    let home = home_kept t number x there (c.requires.kept i 0 c.loop-number-test.true) in
    let name : text_view y.name ≡ x.name.now = search rules in
    let here = feature_here t number x y there home c.crate_at.ensures name in
    let pushed : c.push.new.self.items ≡ old ++ y ∷ [] = search rules in
    let features = IsFeatureOf t.context (kids_in t) in
    subst (AllZip features (take (i + 1) found)) (sym pushed) (zip_more features found i number old y c.loop-number-test.true (sym (get_or_default found i number 0 c.loop-number-test.true)) here c.loop-number.invariant)

pub returns : goal.returns
returns c =
    let t = c.args.tables.now in
    let numbered = zip_whole (IsFeatureOf t.context (kids_in t)) c.args.found.now c.loop-number.number-index c.loop-number.features.items (omega arith) c.loop-number.invariant in
    features_sorted c.one_reading.ensures.once t.context (kids_in t) c.args.found.now c.loop-number.features.items c.in_ok-sorted.sorted.items numbered c.in_ok-sorted.ensures.whole record {
      ascending = c.in_ok-sorted.ensures.ascending;
      from = c.in_ok-sorted.ensures.from;
      each = c.in_ok-sorted.ensures.kept;
    }
