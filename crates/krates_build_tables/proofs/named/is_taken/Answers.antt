use Rattle.std.proofs.Common.{arith, refl}
use Rattle.krates_rules.proofs.Seen.{seen_more}
use Rattle.krates_units.specs.Answered.{TakesSome}
use Rattle.krates_build_tables.specs.References.{reference_view}
use Rattle.krates_build_tables.specs.RequestsFlags.{flagged}
use Rattle.krates_build_tables.specs.Unanswered.{model_taking, setting_taking}
use Rattle.krates_build_tables.specs.declared.selection.CrateFlags.{CrateFlags}
use Rattle.krates_build_tables.proofs.SeenFlags.{contains_item, seen_in}
use Rattle.krates_build_tables.proofs.TakingCrates.{none_flagged, taking_member}
use Rattle.krates_build_tables.proofs.named.is_taken.Goals as goal

pub takes_some-requires-clause-krate : goal.takes_some-requires-clause-krate
takes_some-requires-clause-krate c =
    let x = c.krate-item.result in
    c.requires.flags.each x (contains_item c.args.taking.now.flags.now c.loop-krate.krate-index x (omega arith) c.krate-item.is)

pub loop-krate-preserved : goal.loop-krate-preserved
loop-krate-preserved c =
    let t = c.args.taking.now in
    let r = model_taking t in
    let s = setting_taking t in
    let v = reference_view c.args.given.now in
    seen_more (λ (x : CrateFlags). TakesSome r s v (flagged x) → ⊥) t.flags.now c.loop-krate.krate-index c.krate-item.result (omega arith) c.krate-item.is c.loop-krate.invariant
    (λ h. absurd (cc (c.takes_some.ensures.1 h, c.if-takes_some.false)))

pub returns-then-takes_some : goal.returns-then-takes_some
returns-then-takes_some c = (λ t. (flagged c.krate-item.result, c.takes_some.ensures.0 c.if-takes_some.true), λ h. refl)

pub returns : goal.returns
returns c =
    let t = c.args.taking.now in
    let r = model_taking t in
    let s = setting_taking t in
    let v = reference_view c.args.given.now in
    let none = seen_in (λ (x : CrateFlags). TakesSome r s v (flagged x) → ⊥) t.flags.now c.loop-krate.krate-index (omega arith) c.loop-krate.invariant in (
      λ t. absurd cc,
      λ h. absurd (none_flagged c.one_reading.ensures.once t.document.now c.agrees.ensures s t.flags.now c.requires.flags (TakesSome r s v) (taking_member r s v) none h.0 h.1),
    )
