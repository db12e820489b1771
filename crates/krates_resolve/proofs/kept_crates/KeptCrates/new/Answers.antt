use Rattle.std.proofs.Common.{◌<◌, List, Option, length, refl, sym, subst, arith, rules}
use Rattle.std.proofs.lemmas.List.{take_all}
use Rattle.std.proofs.lemmas.Option.{slice_get_read}
use Rattle.krates_ids.specs.Identity.{Identity}
use Rattle.krates_questions.specs.declared.lookup.NodePlace.{NodePlace}
use Rattle.krates_resolve.proofs.KeptCrates.{AreRanked, kept_whole, place_low, ranked_none, ranked_some}
use Rattle.krates_resolve.proofs.kept_crates.KeptCrates.new.Goals.{in-Some+in_ok-push-in-Some+in_ok-clone-in-Some+in_ok-push-in-Some-2, in-None+in_ok-push-in-None}
use Rattle.krates_resolve.specs.KeptCrates.{AreNodePlaces}
use Rattle.krates_resolve.proofs.kept_crates.KeptCrates.new.Goals as goal

pub bounds-ids-place : goal.bounds-ids-place
bounds-ids-place c =
    let d = c.args.document.now in
    let places = c.args.places.now in
    let so = subst (AreNodePlaces d places) (sym c.deref-place-items.ensures.value) c.in_ok-kept.ensures in
    let low = place_low d places c.deref-place-items.result.now c.loop-place.place-index c.in-Some.place c.agrees.ensures c.requires.within so c.loop-place-test.true c.in-Some.is in
    subst (λ (ids : List Identity). c.in-Some.place.index < length ids) (sym c.node_ids-ids.ensures) low

pub offset_bounds-ids-place : goal.offset_bounds-ids-place
offset_bounds-ids-place c = let within = bounds-ids-place c in search rules

pub loop-place-preserved : goal.loop-place-preserved
loop-place-preserved c =
    let d = c.args.document.now in
    let places = c.args.places.now in
    let ids = c.node_ids-ids.result.now in
    let kept = c.deref-place-items.result.now in
    let k = c.loop-place.place-index in
    let kids = c.loop-place.krates.items in
    let numbers = c.loop-place.numbers.items in
    elim c.match-place.branch [
      | in-Some+in_ok-push-in-Some+in_ok-clone-in-Some+in_ok-push-in-Some-2 w ↦ (
          let p = w.in-Some.place in
          let kid = w.index-ids-place.result in
          let so = subst (AreNodePlaces d places) (sym c.deref-place-items.ensures.value) c.in_ok-kept.ensures in
          let low = place_low d places kept k p c.agrees.ensures c.requires.within so c.loop-place-test.true w.in-Some.is in
          let at = slice_get_read ids (length ids) p.index kid refl (subst (λ (is : List Identity). p.index < length is) (sym c.node_ids-ids.ensures) low) w.index-ids-place.is in
          let more = ranked_some ids kept k p kid kids numbers c.loop-place-test.true w.in-Some.is at c.loop-place.invariant in
          rw (w.krates-is, w.numbers-is, w.in_ok-push-in-Some-2.ensures.items, w.in_ok-clone-in-Some.ensures.cases, w.in_ok-push-in-Some.ensures.items, w.len-in-Some.ensures, c.loop-place.krates.ok.0) more)
      | in-None+in_ok-push-in-None w ↦ (
          let more = ranked_none ids kept k kids numbers c.loop-place-test.true w.in-None.is c.loop-place.invariant in
          rw (w.krates-is, w.numbers-is, w.in_ok-push-in-None.ensures.items) more)
    ]

pub returns : goal.returns
returns c =
    let d = c.args.document.now in
    let kept = c.deref-place-items.result.now in
    let kids = c.loop-place.krates.items in
    let numbers = c.loop-place.numbers.items in
    let so = subst (AreNodePlaces d c.args.places.now) (sym c.deref-place-items.ensures.value) c.in_ok-kept.ensures in
    let all = subst (λ (os : List (Option NodePlace)). AreRanked c.node_ids-ids.result.now os kids numbers) (take_all c.loop-place.place-index kept (omega arith)) c.loop-place.invariant in
    kept_whole d c.args.places.now kept kids numbers c.agrees.ensures so (subst (λ (ids : List Identity). AreRanked ids kept kids numbers) c.node_ids-ids.ensures all)
