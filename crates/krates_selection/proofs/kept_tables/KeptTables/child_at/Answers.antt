use Rattle.std.proofs.Common.{◌∙◌, subst, sym}
use Rattle.std.proofs.lemmas.Option.{same_Some}
use Rattle.krates_selection.proofs.KeptNumbers.{child_number, number_within}
use Rattle.krates_selection.specs.KeptTables.{IsChildAt}
use Rattle.krates_selection.proofs.kept_tables.KeptTables.child_at.Goals as goal

pub child_number_at-number-requires : goal.child_number_at-number-requires
child_number_at-number-requires c = let k = c.requires.kept in record { there = (k.parent, k.child, k.at) }

pub at_number-requires : goal.at_number-requires
at_number-requires c =
    let k = c.requires.kept in
    number_within c.args.self.now k.child c.child_number_at-number.result (c.child_number_at-number.ensures.number k.parent k.child k.at)

pub unreachable-requires : goal.unreachable-requires
unreachable-requires c =
    let t = c.args.self.now in
    let k = c.requires.kept in
    let n = c.child_number_at-number.ensures.number k.parent k.child k.at in
    let some = c.child_number_at-number.ensures.has_one k.parent k.child k.at k.kept.1 in
    let h = child_number c.one_reading.ensures.once t c.args.place.index c.args.index c.child_number_at-number.result c.at_number.result k some n c.at_number.ensures in
    absurd (let no = sym h.answered ∙ c.in_default.is in cc)

pub returns : goal.returns
returns c =
    let t = c.args.self.now in
    let k = c.requires.kept in
    let n = c.child_number_at-number.ensures.number k.parent k.child k.at in
    let some = c.child_number_at-number.ensures.has_one k.parent k.child k.at k.kept.1 in
    let h = child_number c.one_reading.ensures.once t c.args.place.index c.args.index c.child_number_at-number.result c.at_number.result k some n c.at_number.ensures in
    subst (IsChildAt t c.args.place.index c.args.index) (same_Some h.number c.in-Some.kept (sym h.answered ∙ c.in-Some.is)) h.is
