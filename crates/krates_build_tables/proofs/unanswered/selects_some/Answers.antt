use Rattle.std.proofs.Common.{IsTrue, arith, refl}
use Rattle.krates_build_tables.specs.RequestsFlags.{flagged}
use Rattle.krates_build_tables.specs.Unanswered.{setting_taking}
use Rattle.krates_build_tables.specs.declared.selection.CrateFlags.{CrateFlags}
use Rattle.krates_build_tables.proofs.SeenFlags.{contains_item, seen_in}
use Rattle.krates_build_tables.proofs.TakingCrates.{none_selected_there}
use Rattle.krates_build_tables.proofs.unanswered.selects_some.Goals as goal

pub returns-then-krate : goal.returns-then-krate
returns-then-krate c =
    let x = c.krate-item.result in
    let says = c.requires.flags.each x (contains_item c.args.taking.now.flags.now c.loop-krate.krate-index x (omega arith) c.krate-item.is) in
    (λ t. (flagged x, says.selected.0 c.if-krate.true), λ h. refl)

pub returns : goal.returns
returns c =
    let t = c.args.taking.now in
    let none = seen_in (λ (x : CrateFlags). IsTrue x.is_selected → ⊥) t.flags.now c.loop-krate.krate-index (omega arith) c.loop-krate.invariant in (
      λ e. absurd cc,
      λ some. absurd (none_selected_there c.one_reading.ensures.once t.document.now c.agrees.ensures (setting_taking t) t.flags.now c.requires.flags none some),
    )
