use Rattle.std.proofs.Common.{◌<◌, List, [], Option, None, Some, ℕ, ◌+◌, length, take, get_or, replicate, rules, sym, ap, ◌∙◌, subst, arith}
use Rattle.std.proofs.lemmas.List.{get_or_default, take_all}
use Rattle.std.specs.Global.{Vec}
use Rattle.krates_ids.specs.Identity.{Identity}
use Rattle.krates_rules.specs.Facts.{Id}
use Rattle.krates_rules.specs.Resolved.{NodeAt}
use Rattle.krates_questions.specs.Lookup.{IsNumberIn, resolved_view}
use Rattle.krates_questions.specs.declared.lookup.NodePlace.{NodePlace}
use Rattle.krates_resolve.proofs.KeptCrates.{no_places, node_there, number_low, put_place, some_number}
use Rattle.krates_resolve.proofs.kept_crates.places_by_number.Goals.{in-Some, in_default}
use Rattle.krates_resolve.specs.KeptCrates.{AreNodePlaces}
use Rattle.krates_resolve.proofs.kept_crates.places_by_number.Goals as goal

pub loop-index-init : goal.loop-index-init
loop-index-init c =
    let d = c.args.document.now in
    subst (AreNodePlaces d []) (sym (c.in_ok-kept.ensures.items_if_clones_equal (search rules) ∙ ap (λ (n : ℕ). replicate n None) (ap (λ (is : List Identity). length is) c.crate_ids.ensures))) (no_places d)

pub index_mut-requires : goal.index_mut-requires
index_mut-requires c =
    let d = c.args.document.now in
    let place = c.loop-index.index-index in
    let places = c.args.places.now in
    let lt = number_low d (get_or places place 0) c.in-Some.number c.agrees.ensures (c.requires.within place 0 c.loop-index-test.true) (λ i node. subst (IsNumberIn d i) c.in-Some.is (c.node_number.ensures.number i node)) in
    omega (arith, lt, c.loop-index.invariant.long, c.loop-index.kept.ok.0)

pub loop-index-preserved : goal.loop-index-preserved
loop-index-preserved c =
    let d = c.args.document.now in
    let place = c.loop-index.index-index in
    let places = c.args.places.now in
    elim c.match-node_number.branch [
      | in-Some w ↦ (
          let told : (i : Id) → NodeAt (resolved_view d) i (get_or places place 0) → IsNumberIn d i (Some w.in-Some.number) = λ i node. subst (IsNumberIn d i) w.in-Some.is (c.node_number.ensures.number i node) in
          let low : w.in-Some.number < length c.loop-index.kept.items = omega (arith, number_low d (get_or places place 0) w.in-Some.number c.agrees.ensures (c.requires.within place 0 c.loop-index-test.true) told, c.loop-index.invariant.long) in
          subst (λ (v : Vec (Option NodePlace)). AreNodePlaces d (take (place + 1) places) v.items) (sym w.kept-is)
          (put_place d places place w.in-Some.number (record { index = get_or places place 0 }) c.loop-index.kept.items c.agrees.ensures c.requires.within c.requires.once c.loop-index-test.true (get_or_default places place 0 (get_or places place 0) c.loop-index-test.true) told low c.loop-index.invariant))
      | in_default w ↦ absurd (
          let node = node_there d (get_or places place 0) c.agrees.ensures (c.requires.within place 0 c.loop-index-test.true) in
          some_number c.node_number.result (c.node_number.ensures.has_one node.0 node.1) w.in_default.not-Some)
    ]

pub returns : goal.returns
returns c = subst (λ (places : List ℕ). AreNodePlaces c.args.document.now places c.loop-index.kept.items) (take_all c.loop-index.index-index c.args.places.now (omega arith)) c.loop-index.invariant
