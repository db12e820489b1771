use Rattle.std.proofs.Common.{◌≡◌, ℕ, ◌<◌, List, Contains, length, get_or, map, refl, subst, arith}
use Rattle.std.proofs.lemmas.List.{get_or_default}
use Rattle.krates_cm.specs.Document.{dep_kind_info_view}
use Rattle.krates_cm.specs.declared.resolve.DepKindInfo.{DepKindInfo}
use Rattle.krates_rules.specs.Facts.{Kept}
use Rattle.krates_rules.proofs.Standings.{contains_at}
use Rattle.krates_search.specs.SearchState.{IsAny, TakenWhen}
use Rattle.krates_questions.specs.NodeEntry.{child_of, declared_in, edge_for, parent_of}
use Rattle.krates_search.proofs.FirstKinds.{first_info, first_within, info_there}
use Rattle.krates_search.proofs.Growing.{advances_refl, advances_trans}
use Rattle.krates_search.proofs.Growth.{asked_advances, with_links}
use Rattle.krates_search.proofs.EntriesTried.{noted_tried}
use Rattle.krates_rules.proofs.Elements.{both, contains_or}
use Rattle.krates_search.proofs.Finding.{finds_grow}
use Rattle.krates_search.proofs.TriedKinds.{kinds_in, kinds_more, kinds_whole}
use Rattle.krates_search.specs.Found.{AreFirstKinds}
use Rattle.krates_search.proofs.expansion.expand_entry.Goals as goal

pub loop-kind-init : goal.loop-kind-init
loop-kind-init c = (advances_refl c.args.context.now c.args.found.now c.requires.sound, λ k d lt. absurd (omega (arith, lt)), λ so k d lt. absurd (omega (arith, lt)), λ so. refl)

-- the place that was taken
kinds_there : (kinds items : List ℕ) (i : ℕ) → items ≡ kinds → i < length items → Contains kinds (get_or items i 0)
kinds_there kinds items i same lt = subst (λ (ks : List ℕ). Contains ks (get_or items i 0)) same (contains_or items i 0 lt)

-- the list is that of the dependency
same_infos : (infos items : List DepKindInfo) (kinds : List ℕ) → infos ≡ items → AreFirstKinds (map dep_kind_info_view infos) kinds → AreFirstKinds (map dep_kind_info_view items) kinds
same_infos infos items kinds same first = subst (λ (is : List DepKindInfo). AreFirstKinds (map dep_kind_info_view is) kinds) same first

pub info_at-requires : goal.info_at-requires
info_at-requires c =
    let kinds = c.in_ok-kinds.kinds.items in
    let list = c.as_slice-kind-items.result.now in
    let among = kinds_there kinds list c.loop-kind.kind-index c.as_slice-kind-items.ensures.value c.loop-kind-test.true in
    first_within c.as_slice-infos.result.now kinds (get_or list c.loop-kind.kind-index 0) c.in_ok-kinds.ensures among

pub expand_edge-requires-clause-places : goal.expand_edge-requires-clause-places
expand_edge-requires-clause-places c = c.places_for-places.ensures (declared_in c.args.entry.now) c.requires.entry.declares

pub expand_edge-requires-clause-listed : goal.expand_edge-requires-clause-listed
expand_edge-requires-clause-listed c =
    let infos = c.as_slice-infos.result.now in
    let items = c.args.entry.now.dep.now.dep_kinds.items in
    let kinds = c.in_ok-kinds.kinds.items in
    let list = c.as_slice-kind-items.result.now in
    let kind = get_or list c.loop-kind.kind-index 0 in
    let info = c.info_at.result.now in
    let among = kinds_there kinds list c.loop-kind.kind-index c.as_slice-kind-items.ensures.value c.loop-kind-test.true in
    contains_at (kinds_in c.args.entry.now) kind (dep_kind_info_view info) (info_there infos items kind info c.as_slice-infos.ensures.value c.info_at.ensures)

pub expand_edge-requires-clause-first : goal.expand_edge-requires-clause-first
expand_edge-requires-clause-first c =
    let infos = c.as_slice-infos.result.now in
    let items = c.args.entry.now.dep.now.dep_kinds.items in
    let kinds = c.in_ok-kinds.kinds.items in
    let list = c.as_slice-kind-items.result.now in
    let kind = get_or list c.loop-kind.kind-index 0 in
    let info = c.info_at.result.now in
    let among = kinds_there kinds list c.loop-kind.kind-index c.as_slice-kind-items.ensures.value c.loop-kind-test.true in
    let here = info_there infos items kind info c.as_slice-infos.ensures.value c.info_at.ensures in
    first_info items kinds kind info (same_infos infos items kinds c.as_slice-infos.ensures.value c.in_ok-kinds.ensures) among here

pub child_number_at-number-requires : goal.child_number_at-number-requires
child_number_at-number-requires c = record { there = (parent_of c.args.entry.now, child_of c.args.entry.now, c.requires.entry.at) }

pub availability_at-availability-requires-clause-number : goal.availability_at-availability-requires-clause-number
availability_at-availability-requires-clause-number c = (child_of c.args.entry.now, (c.child_number_at-number.ensures.number (parent_of c.args.entry.now) (child_of c.args.entry.now) c.requires.entry.at))

pub expand_edge-requires-clause-availability : goal.expand_edge-requires-clause-availability
expand_edge-requires-clause-availability c = c.availability_at-availability.ensures (child_of c.args.entry.now) (c.child_number_at-number.ensures.number (parent_of c.args.entry.now) (child_of c.args.entry.now) c.requires.entry.at)

pub expand_edge-requires-clause-sound : goal.expand_edge-requires-clause-sound
expand_edge-requires-clause-sound c = c.loop-kind.invariant.0.sound

pub expand_edge-requires-clause-may : goal.expand_edge-requires-clause-may
expand_edge-requires-clause-may c = c.requires.may (dep_kind_info_view c.info_at.result.now)

pub expand_edge-requires-clause-step : goal.expand_edge-requires-clause-step
expand_edge-requires-clause-step c d wanted taken stands =
    let k = dep_kind_info_view c.info_at.result.now in
    finds_grow c.args.context.now c.args.found.now c.loop-kind.found c.args.reason (Kept (edge_for c.args.entry.now k)) c.loop-kind.invariant.0.grows
    (c.requires.step k d wanted taken stands)

pub loop-kind-preserved : goal.loop-kind-preserved
loop-kind-preserved c =
    let b = c.args.context.now in
    let entry = c.args.entry.now in
    let x = c.loop-kind.found in
    let y = c.expand_edge.new.found in
    let inv = c.loop-kind.invariant in
    let step = c.in_ok-tried.ensures in
    let infos = c.as_slice-infos.result.now in
    let items = entry.dep.now.dep_kinds.items in
    let kinds = c.in_ok-kinds.kinds.items in
    let list = c.as_slice-kind-items.result.now in
    let at = c.loop-kind.kind-index in
    let kind = get_or list at 0 in
    let info = c.info_at.result.now in
    let is = get_or_default list at 0 kind c.loop-kind-test.true in
    let here = info_there infos items kind info c.as_slice-infos.ensures.value c.info_at.ensures in (
      advances_trans b c.args.found.now x y inv.0 step.advanced,
      kinds_more b x y entry (TakenWhen c.args.asked) list at kind (dep_kind_info_view info) step.advanced.grows c.loop-kind-test.true is here inv.1 step.tried,
      λ so. (
          let parts = both c.loop-kind.whole c.in_ok-tried.tried so in
          kinds_more b x y entry IsAny list at kind (dep_kind_info_view info) step.advanced.grows c.loop-kind-test.true is here (inv.2 parts.0) (step.whole parts.1)),
      λ so. rw (inv.3 so, step.all_tried so) refl,
    )

pub returns-then-not-whole-clause-advanced : goal.returns-then-not-whole-clause-advanced
returns-then-not-whole-clause-advanced c = c.loop-kind.invariant.0

pub returns-then-not-whole-clause-tried : goal.returns-then-not-whole-clause-tried
returns-then-not-whole-clause-tried c =
    let b = c.args.context.now in
    let entry = c.args.entry.now in
    let kinds = c.in_ok-kinds.kinds.items in
    let first = same_infos c.as_slice-infos.result.now entry.dep.now.dep_kinds.items kinds c.as_slice-infos.ensures.value c.in_ok-kinds.ensures in
    kinds_whole b c.loop-kind.found entry (TakenWhen c.args.asked) c.as_slice-kind-items.result.now kinds c.loop-kind.kind-index first c.as_slice-kind-items.ensures.value (omega arith) c.loop-kind.invariant.1

pub returns-then-not-whole-clause-noted : goal.returns-then-not-whole-clause-noted
returns-then-not-whole-clause-noted c so = absurd (cc (c.loop-kind.invariant.3 so, c.if-not-whole.true))

pub note_asked-requires : goal.note_asked-requires
note_asked-requires c =
    let entry = c.args.entry.now in
    c.loop-kind.invariant.0.sound.has_links (parent_of entry) (child_of entry) entry.place.index entry.index c.requires.entry.at

pub returns-clause-advanced : goal.returns-clause-advanced
returns-clause-advanced c =
    let b = c.args.context.now in
    let entry = c.args.entry.now in
    let x = c.loop-kind.found in
    let l = c.note_asked.new.self in
    let inv = c.loop-kind.invariant in
    let kinds = c.in_ok-kinds.kinds.items in
    let first = same_infos c.as_slice-infos.result.now entry.dep.now.dep_kinds.items kinds c.as_slice-infos.ensures.value c.in_ok-kinds.ensures in
    let tried = kinds_whole b x entry IsAny c.as_slice-kind-items.result.now kinds c.loop-kind.kind-index first c.as_slice-kind-items.ensures.value (omega arith) (inv.2 c.if-not-whole.false) in
    advances_trans b c.args.found.now x (with_links x l) inv.0
    (asked_advances b x l entry.place.index entry.index inv.0.sound c.note_asked.ensures (noted_tried c.one_reading.ensures.once b x entry c.agrees.ensures.distinct c.requires.entry tried))

pub returns-clause-tried : goal.returns-clause-tried
returns-clause-tried c k among =
    let b = c.args.context.now in
    let entry = c.args.entry.now in
    let kinds = c.in_ok-kinds.kinds.items in
    let first = same_infos c.as_slice-infos.result.now entry.dep.now.dep_kinds.items kinds c.as_slice-infos.ensures.value c.in_ok-kinds.ensures in
    let tried =
    kinds_whole b c.loop-kind.found entry (TakenWhen c.args.asked) c.as_slice-kind-items.result.now kinds c.loop-kind.kind-index first c.as_slice-kind-items.ensures.value (omega arith) c.loop-kind.invariant.1 k among in
    record { kept = tried.kept; has_package = tried.has_package; has_node = tried.has_node; declared = tried.declared }

pub returns-clause-noted : goal.returns-clause-noted
returns-clause-noted c so = c.note_asked.ensures.asked
