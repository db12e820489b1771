use Rattle.std.proofs.Common.{◌<◌, ◌∙◌, ℕ, IfSome, List, Option, length, map, subst, sym}
use Rattle.std.proofs.lemmas.List.{length-set}
use Rattle.krates_selection.specs.KeptFacts.{key_view}
use Rattle.krates_selection.proofs.FactPlaces.{IsFirstPlace, IsNumberFor, IsPlaceBelow, all_numbered, home_answers, low_home, no_places_yet, number_there, numbers_more, places_more}
use Rattle.krates_selection.proofs.PickedSteps.{none_yet}
use Rattle.krates_questions.proofs.NodeParts.{within_vec}
use Rattle.krates_selection.proofs.key.fact_numbers.Goals as goal

pub loop-place-init : goal.loop-place-init
loop-place-init c = (
  c.in_ok-homes.ensures.long,
  no_places_yet c.args.keys.now c.args.count c.in_ok-homes.homes.items c.in_ok-homes.ensures,
  none_yet (IsFirstPlace (map key_view c.args.keys.now)) c.in_ok-numbers.numbers.items c.in_ok-numbers.ensures.items,
)

pub index_mut-requires : goal.index_mut-requires
index_mut-requires c =
    let l = c.loop-place in
    within_vec l.homes c.home_of.result (low_home c.args.keys.now c.args.count l.place c.home_of.result c.index-keys-place.result l.homes.items c.requires c.loop-place-test.true c.index-keys-place.is c.home_of.ensures l.invariant.0)

pub number_for-requires : goal.number_for-requires
number_for-requires c =
    let l = c.loop-place in
    let keys = c.args.keys.now in
    let k = c.index-keys-place.result in
    let low = low_home keys c.args.count l.place c.home_of.result k l.homes.items c.requires c.loop-place-test.true c.index-keys-place.is c.home_of.ensures l.invariant.0 in
    let there = home_answers keys l.place c.home_of.result k l.homes.items c.index_mut.result.now c.home_of.ensures low c.index_mut.ensures.value l.invariant.1 in
    let known = subst (λ (o : Option ℕ). IsPlaceBelow (map key_view keys) (key_view k) l.place o) (sym c.in_ok-earlier.ensures.old) there in
    subst (λ (ns : List ℕ). IfSome c.in_ok-earlier.earlier (λ at. at < length ns)) (sym c.deref.ensures.value) (number_there (map key_view keys) (key_view k) l.place c.in_ok-earlier.earlier l.numbers.items l.invariant.2.long known)

pub loop-place-preserved : goal.loop-place-preserved
loop-place-preserved c =
    let l = c.loop-place in
    let keys = c.args.keys.now in
    let k = c.index-keys-place.result in
    let is = c.index-keys-place.is in
    let lt = c.loop-place-test.true in
    let at = c.home_of.result in
    let was = c.index_mut.result.now in
    let low = low_home keys c.args.count l.place at k l.homes.items c.requires lt is c.home_of.ensures l.invariant.0 in
    let there = home_answers keys l.place at k l.homes.items was c.home_of.ensures low c.index_mut.ensures.value l.invariant.1 in (
      length-set l.homes.items at c.insert.new.self ∙ l.invariant.0,
      places_more keys l.place at k l.homes.items was c.insert.new.self lt is c.home_of.ensures low c.index_mut.ensures.value c.in_ok-earlier.ensures.updates.0 l.invariant.1,
      numbers_more keys l.place k was c.in_ok-earlier.earlier c.number_for.result l.numbers.items c.push.new.self.items lt is c.in_ok-earlier.ensures.old there
          (subst (λ (ns : List ℕ). IsNumberFor ns l.place c.in_ok-earlier.earlier c.number_for.result) c.deref.ensures.value c.number_for.ensures) c.in_ok-push.ensures.items l.invariant.2,
    )

pub returns : goal.returns
returns c = all_numbered c.args.keys.now c.loop-place.place c.loop-place.numbers.items c.loop-place.auto.place-end c.loop-place-test.false c.loop-place.invariant.2
