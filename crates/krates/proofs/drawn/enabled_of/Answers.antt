use Rattle.std.proofs.Common.{◌≡◌, ◌∷◌, ◌++◌, [], ◌∙◌, List, length, map, sym, ap, subst}
use Rattle.std.proofs.IntoIterSteps.{takes, taken}
use Rattle.std.proofs.lemmas.Iterator.{YieldsList}
use Rattle.std.proofs.lemmas.Iterator.Consumers.{YieldsList-end}
use Rattle.std.proofs.lemmas.List.{map-append, with_items_is}
use Rattle.std.proofs.lemmas.List.Elements.{All-contains}
use Rattle.std.specs.BTreeSet.{BTreeSet}
use Rattle.std.specs.Prelude.{String}
use Rattle.std.specs.declared.alloc.Global.{Global}
use mathlib.Core.List.{map-id}
use Rattle.krates_drawing.specs.declared.outline.FeatureRow.{FeatureRow}
use Rattle.krates_rules.proofs.Members.{Member, contains_of}
use Rattle.krates_selection.specs.Selection.{HasHome}
use Rattle.krates_selection.specs.declared.selection.EnabledFeature.{EnabledFeature}
use Rattle.krates.specs.Enabled.{AreEnabledSets, IsPut}
use Rattle.krates.proofs.EnabledLemmas.{none_enabled, one_more_enabled, taken_item}
use Rattle.krates.proofs.drawn.enabled_of.Goals as goal

abbrev in_row : FeatureRow → EnabledFeature
in_row row = row.feature

pub loop-row-init : goal.loop-row-init
loop-row-init c = (tt, tt, c.in_ok-sets.ensures.matched, none_enabled c.in_ok-sets.sets.items c.in_ok-sets.ensures.empty)

pub put-requires : goal.put-requires
put-requires c =
    let l = c.loop-row in
    let start = c.into_iter-row-iterator.result in
    let rows = c.args.outline.features.items in
    let made : start.rest.items ≡ rows = c.into_iter-row-iterator.ensures.into_iter_gives.0 in
    let item = taken_item start l.row-iterator c.next.new.self l.yielded c.in-Some.row l.yielded_by c.in-Some.ensures.steps in
    let among = contains_of rows c.in-Some.row (subst (λ (rs : List FeatureRow). Member rs c.in-Some.row) made item) in
    let home = All-contains (λ (row : FeatureRow). HasHome c.args.krates row.feature) rows c.in-Some.row c.requires among in
    subst (λ n. HasHome n c.in-Some.row.feature) (sym (ap length c.deref_mut.ensures.value ∙ l.invariant.2)) home

pub loop-row-preserved : goal.loop-row-preserved
loop-row-preserved c =
    let l = c.loop-row in
    let feature = c.in-Some.row.feature in
    let after = c.put.new.sets in
    let as_before : length after ≡ length l.sets.items = c.put.ensures.matched ∙ ap length c.deref_mut.ensures.value in
    let is = with_items_is l.sets after (as_before ∙ sym l.sets.ok.0) in
    let put : IsPut feature l.sets.items after = subst (λ before. IsPut feature before after) c.deref_mut.ensures.value c.in_ok-put.ensures.put in
    let more = one_more_enabled (map in_row l.yielded) feature l.sets.items after l.invariant.3 put in
    let told = subst (λ (sets : List (BTreeSet (String Global))). AreEnabledSets (map in_row l.yielded ++ feature ∷ []) sets) (sym is) more in
    (tt, tt, ap length is ∙ (as_before ∙ l.invariant.2), rw (map-append in_row l.yielded (c.in-Some.row ∷ [])) told)

pub returns-clause-enabled : goal.returns-clause-enabled
returns-clause-enabled c =
    let start = c.into_iter-row-iterator.result in
    let road : YieldsList takes (λ (x : FeatureRow). x) start start.rest.items = record { runs = taken start } in
    let made : start.rest.items ≡ c.args.outline.features.items = c.into_iter-row-iterator.ensures.into_iter_gives.0 in
    let end = YieldsList-end road c.loop-row.yielded c.loop-row.row-iterator c.loop-row.yielded_by c.next.result c.next.new.self c.in-None.is c.next.ensures.steps in
    let all : c.loop-row.yielded ≡ c.args.outline.features.items = sym (map-id c.loop-row.yielded) ∙ end.0 ∙ made in
    subst (λ (rows : List FeatureRow). AreEnabledSets (map in_row rows) c.loop-row.sets.items) all c.loop-row.invariant.3
