use Rattle.std.proofs.Common.{◌≡◌, List, [], get_or, Contains, refl, sym, ◌∙◌, subst, arith}
use Rattle.std.proofs.lemmas.List.{get_or_default}
use Rattle.krates_rules.specs.Facts.{Id, Crate, Toggled}
use Rattle.krates_search.specs.SearchContext.{FindsToggled}
use Rattle.krates_search.specs.SearchState.{HasFound, IsEdgeStep, MayToggle, HasToggled}
use Rattle.krates_selection.specs.Trace.{by_two}
use Rattle.krates_search.specs.Links.{IsMarked, HasMarked}
use Rattle.krates_questions.specs.NodeEntry.{parent_of, child_of}
use Rattle.krates_search.specs.declared.links.Links.{Links}
use Rattle.krates_search.specs.declared.links.Waiting.{Waiting}
use Rattle.krates_search.proofs.Finding.{finds_grow, finds_woken, for_reason}
use Rattle.krates_search.proofs.Growing.{advances_refl, advances_trans, toggled_grows}
use Rattle.krates_search.proofs.Growth.{mark_sound, mark_grows, with_links}
use Rattle.krates_rules.proofs.Elements.{contains_or}
use Rattle.krates_selection.proofs.Steps.{one_way}
use Rattle.krates_rules.proofs.Seen.{seen_more}
use Rattle.krates_search.proofs.LinkLemmas.{is_marked}
use Rattle.krates_search.proofs.Waking.{may_wake}
use Rattle.krates_questions.specs.Context.{document_of, IsDepAt}
use Rattle.krates_search.proofs.enabling.wake.Goals as goal

pub kept-requires : goal.kept-requires
kept-requires c = c.requires.sound.has_links (parent_of c.args.entry.now) (child_of c.args.entry.now) c.args.entry.now.place.index c.args.entry.now.index c.requires.entry.at

pub returns-then-is_some-clause-marked : goal.returns-then-is_some-clause-marked
returns-then-is_some-clause-marked c =
    let e = c.args.entry.now in
    (is_marked c.args.found.now.links e.place.index e.index c.kept.result c.kept.ensures).0 (sym c.is_some.ensures ∙ c.if-is_some.true)

pub mark-waiters-requires : goal.mark-waiters-requires
mark-waiters-requires c = c.requires.sound.has_links (parent_of c.args.entry.now) (child_of c.args.entry.now) c.args.entry.now.place.index c.args.entry.now.index c.requires.entry.at

pub loop-waiter-init : goal.loop-waiter-init
loop-waiter-init c =
    let b = c.args.context.now in
    let e = c.args.entry.now in
    let x = c.args.found.now in
    let n = c.args.step in
    let links = c.mark-waiters.new.self in
    let way : (p i : Id) → IsDepAt b p i e.place.index e.index → (parent_of e ≡ p) × (child_of e ≡ i) = λ p i at. one_way c.one_reading.ensures.once (document_of b) (parent_of e) (child_of e) p i e.place.index e.index c.requires.entry.at at in
    let items = c.as_slice-waiter-items.result.now in
    let marked : HasMarked x.links links e.place.index e.index n items = subst (λ (ws : List Waiting). HasMarked x.links links e.place.index e.index n ws) (sym c.as_slice-waiter-items.ensures.value) c.mark-waiters.ensures in
    let sound = mark_sound b x links e.place.index e.index n items c.requires.sound marked
    (λ p i at. (
      subst (λ (j : Id). HasFound b x (Crate j)) (way p i at).1 c.requires.kept,
      subst (λ (j : Id). IsEdgeStep b x.trace.items p j n) (way p i at).1 (subst (λ (q : Id). IsEdgeStep b x.trace.items q (child_of e) n) (way p i at).0 c.requires.step),
    )) in
    (links, marked, advances_refl b (with_links x links) sound, λ k d lt. absurd (omega (arith, lt)), refl)

pub toggle-requires-clause-by : goal.toggle-requires-clause-by
toggle-requires-clause-by c = record { at = c.requires.entry.at.node; read = c.requires.entry.parent_read }

pub toggle-requires-clause-sound : goal.toggle-requires-clause-sound
toggle-requires-clause-sound c = c.loop-waiter.invariant.2.sound

pub toggle-requires-clause-kept : goal.toggle-requires-clause-kept
toggle-requires-clause-kept c =
    let x = c.loop-waiter.found in
    subst (λ (i : Id). HasFound c.args.context.now x (Crate i)) (sym c.requires.of_child) (c.loop-waiter.invariant.2.grows.found (Crate (child_of c.args.entry.now)) c.requires.kept)

pub toggle-requires-clause-may : goal.toggle-requires-clause-may
toggle-requires-clause-may c =
    let b = c.args.context.now in
    let x = c.args.entry.now in
    let items = c.as_slice-waiter-items.result.now in
    let none : Waiting = record { name = record { ref_ptr = (0, 0); now = [] }; step = 0 } in
    let w : Waiting = get_or items c.loop-waiter.waiter-index none in
    let waits = c.loop-waiter.invariant.1.took w (contains_or items c.loop-waiter.waiter-index none c.loop-waiter-test.true) in
    let asking = c.requires.sound.numbered.waiting (parent_of x) (child_of x) x.place.index x.index w c.requires.entry.at waits in
    subst (λ (i : Id). MayToggle b (parent_of x) i w.name.now) (sym c.requires.of_child)
    (may_wake c.one_reading.ensures.once b c.args.found.now (parent_of x) (child_of x) w.name.now w.step c.args.step c.requires.sound asking c.requires.step)

pub toggle-requires-clause-step : goal.toggle-requires-clause-step
toggle-requires-clause-step c =
    let b = c.args.context.now in
    let x = c.args.entry.now in
    let p = parent_of x in
    let i = child_of x in
    let n = c.args.step in
    let items = c.as_slice-waiter-items.result.now in
    let none : Waiting = record { name = record { ref_ptr = (0, 0); now = [] }; step = 0 } in
    let w : Waiting = get_or items c.loop-waiter.waiter-index none in
    let g = w.name.now in
    let waits = c.loop-waiter.invariant.1.took w (contains_or items c.loop-waiter.waiter-index none c.loop-waiter-test.true) in
    let asking = c.requires.sound.numbered.waiting p i x.place.index x.index w c.requires.entry.at waits in
    let old = c.args.found.now in
    let now = c.loop-waiter.found in
    let here : FindsToggled b now c.by_two.result p i g = λ lists.
    for_reason b now _ _ (Toggled p i g) c.by_two.ensures
    (finds_grow b (with_links old c.loop-waiter.invariant.0) now (by_two 7 w.step n) (Toggled p i g) c.loop-waiter.invariant.2.grows (finds_woken b old w.step n p i c.requires.step.0 g asking c.requires.step.1 lists)) in
    subst (λ (j : Id). FindsToggled b c.loop-waiter.found c.by_two.result p j g) (sym c.requires.of_child) here

pub loop-waiter-preserved : goal.loop-waiter-preserved
loop-waiter-preserved c =
    let b = c.args.context.now in
    let e = c.args.entry.now in
    let x = c.loop-waiter.found in
    let y = c.toggle.new.found in
    let items = c.as_slice-waiter-items.result.now in
    let at = c.loop-waiter.waiter-index in
    let none : Waiting = record { name = record { ref_ptr = (0, 0); now = [] }; step = 0 } in
    let w : Waiting = get_or items at none in
    let inv = c.loop-waiter.invariant in
    let step = c.in_ok-toggle.ensures in (
      inv.0,
      inv.1,
      advances_trans b (with_links c.args.found.now inv.0) x y inv.2 step.advanced,
      seen_more (λ (v : Waiting). HasToggled b y (parent_of e) (child_of e) v.name.now) items at w c.loop-waiter-test.true (get_or_default items at none w c.loop-waiter-test.true)
          (λ k d lt. toggled_grows b x y (parent_of e) (child_of e) _ step.advanced.grows.found (inv.3 k d lt)) (subst (λ (i : Id). HasToggled b y (parent_of e) i w.name.now) c.requires.of_child step.toggled),
      step.same_links ∙ inv.4,
    )

pub returns-clause-advanced : goal.returns-clause-advanced
returns-clause-advanced c =
    let b = c.args.context.now in
    let e = c.args.entry.now in
    let x = c.loop-waiter.found in
    let inv = c.loop-waiter.invariant in
    let items = c.as_slice-waiter-items.result.now in
    let toggled : (w : Waiting) → Contains items w → HasToggled b x (parent_of e) (child_of e) w.name.now =
    λ w (k, lt, is). subst (λ (v : Waiting). HasToggled b x (parent_of e) (child_of e) v.name.now) is (inv.3 k w (omega (arith, lt))) in
    record {
      sound = inv.2.sound;
      grows = mark_grows b c.args.found.now inv.0 x e.place.index e.index c.args.step items inv.1 inv.2.grows (λ p i w at among.
          let way = one_way c.one_reading.ensures.once (document_of b) (parent_of e) (child_of e) p i e.place.index e.index c.requires.entry.at at in
          subst (λ (j : Id). HasToggled b x p j w.name.now) way.1 (subst (λ (q : Id). HasToggled b x q (child_of e) w.name.now) way.0 (toggled w among)));
    }

pub returns-clause-marked : goal.returns-clause-marked
returns-clause-marked c =
    let inv = c.loop-waiter.invariant in
    subst (λ (l : Links). IsMarked l c.args.entry.now.place.index c.args.entry.now.index) (sym inv.4) (c.args.step, inv.1.marked)
