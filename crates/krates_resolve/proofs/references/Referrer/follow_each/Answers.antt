use Rattle.std.proofs.Common.{get_or, rules}
use Rattle.krates_questions.specs.declared.referent.Referent.{Referent}
use Rattle.krates_text.specs.FeatureReference.{reference_of}
use Rattle.krates_rules.proofs.Seen.{seen_more}
use Rattle.krates_search.proofs.Growing.{advances_trans}
use Rattle.krates_resolve.specs.References.{HasFollowedAt}
use Rattle.krates_resolve.proofs.ReferenceLemmas.{refers_more}
use Rattle.krates_resolve.proofs.Referred.{AreMeant, each_among, followed_at_grows, followed_each, item_among, meant_here, reference_counts, referent_within, refers_to}
use Rattle.krates_resolve.proofs.references.Referrer.follow_each.Goals.{After-deref-referent-items}
use Rattle.krates_resolve.proofs.references.Referrer.follow_each.Goals as goal

meant : (c : After-deref-referent-items) → AreMeant c.args.self.now (reference_of c.args.reference) c.deref-referent-items.result.now
meant c =
    meant_here c.args.self.now (reference_of c.args.reference) c.name_in-name.result.now c.is_all_named-all.result c.in_ok-referents.referents.items c.deref-referent-items.result.now c.name_in-name.ensures c.is_all_named-all.ensures c.deref-referent-items.ensures.value c.in_ok-referents.ensures

pub follow_at-requires-clause-within : goal.follow_at-requires-clause-within
follow_at-requires-clause-within c =
    let xs = c.deref-referent-items.result.now in
    let x = c.referent-item.result in
    referent_within c.args.self.now (reference_of c.args.reference) xs x (meant (goal.at.follow_at-requires-clause-within c).After-deref-referent-items) (item_among xs c.loop-referent.referent-index x c.loop-referent-test.true c.referent-item.is)

pub follow_at-requires-clause-refers : goal.follow_at-requires-clause-refers
follow_at-requires-clause-refers c =
    let by = c.args.self.now in
    let reference = reference_of c.args.reference in
    let xs = c.deref-referent-items.result.now in
    let x = c.referent-item.result in
    let refers = refers_more by c.args.found.now c.loop-referent.found reference c.loop-referent.invariant.0.grows c.requires.refers in
    refers_to c.one_reading.ensures.once by c.loop-referent.found reference xs x (meant (goal.at.follow_at-requires-clause-refers c).After-deref-referent-items) (item_among xs c.loop-referent.referent-index x c.loop-referent-test.true c.referent-item.is) refers

pub loop-referent-preserved : goal.loop-referent-preserved
loop-referent-preserved c =
    let by = c.args.self.now in
    let reference = reference_of c.args.reference in
    let x = c.loop-referent.found in
    let y = c.follow_at.new.found in
    let inv = c.loop-referent.invariant in
    let step = c.in_ok-follow_at.ensures in (
      advances_trans by.context c.args.found.now x y inv.0 step.advanced,
      seen_more (λ (z : Referent). HasFollowedAt by y reference z.place) c.deref-referent-items.result.now c.loop-referent.referent-index c.referent-item.result c.loop-referent-test.true c.referent-item.is
          (λ k d lt. followed_at_grows by x y reference (get_or c.deref-referent-items.result.now k d).place step.advanced.grows (inv.1 k d lt)) step.followed,
    )

pub returns-clause-followed : goal.returns-clause-followed
returns-clause-followed c =
    let by = c.args.self.now in
    let reference = reference_of c.args.reference in
    let xs = c.deref-referent-items.result.now in
    followed_each by c.loop-referent.found reference xs c.agrees.ensures.distinct c.requires.named (meant (goal.at.returns-clause-followed c).After-deref-referent-items)
    (each_among (λ (z : Referent). HasFollowedAt by c.loop-referent.found reference z.place) xs c.loop-referent.referent-index c.loop-referent-test.false c.loop-referent.invariant.1)

pub returns-clause-counted : goal.returns-clause-counted
returns-clause-counted c =
    let xs = c.deref-referent-items.result.now in
    reference_counts c.args.self.now (reference_of c.args.reference) xs c.max.result c.len.result c.requires.named (meant (goal.at.returns-clause-counted c).After-deref-referent-items) (search rules) (search rules)
