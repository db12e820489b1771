use Rattle.std.proofs.Common.{◌<◌, None, Some, false, length, get_or, arith, ap, ◌∙◌}
use Rattle.std.proofs.lemmas.List.Elements.{Contains-append_left, Contains-append_right}
use Rattle.std.proofs.lemmas.Option.{slice_get-get_or, get_or_from_slice_get}
use Rattle.krates_rules.specs.Uses.{number_in}
use Rattle.krates_rules.specs.declared.uses.Uses.{Uses}
use Rattle.krates_selection.specs.PartOfSteps.{IsMarked}
use Rattle.krates_selection.proofs.Marks.{both_marked, marked_down, unmarked_down}
use Rattle.krates_selection.proofs.part_of_steps.mark_step.Goals as goal

pub mark-requires : goal.mark-requires
mark-requires c k among =
    let none : Uses = record { first = None; second = None } in
    let n = c.args.number in
    let x = get_or c.args.steps.now n none in
    let low = c.requires.backward n x (slice_get-get_or c.args.steps.now n none c.requires.here) k (Contains-append_left (number_in x.first) (number_in x.second) k among) in
    omega (arith, low, c.requires.here, c.requires.marked.long)

pub mark-requires-then-marks-number : goal.mark-requires-then-marks-number
mark-requires-then-marks-number c k among =
    let none : Uses = record { first = None; second = None } in
    let n = c.args.number in
    let x = get_or c.args.steps.now n none in
    let low = c.requires.backward n x (slice_get-get_or c.args.steps.now n none c.requires.here) k (Contains-append_right (number_in x.first) (number_in x.second) k among) in
    omega (arith, low, c.requires.here, c.requires.marked.long, c.mark.ensures.long)

pub returns-then-marks-number : goal.returns-then-marks-number
returns-then-marks-number c =
    let none : Uses = record { first = None; second = None } in
    let n = c.args.number in
    let marks = c.args.marks.now in
    let x = get_or c.args.steps.now n none in
    let here : n < length marks = omega (arith, c.requires.here, c.requires.marked.long) in
    let marked : IsMarked marks n = slice_get-get_or marks n false here ∙ ap (λ b. Some b) c.if-marks-number.true in
    let told = both_marked marks c.mark.new.marks c.mark-then-marks-number.new.marks x c.mark.ensures.marked c.mark-then-marks-number.ensures.marked in
    marked_down c.args.steps.now c.args.last n x marks c.mark-then-marks-number.new.marks c.requires.backward (slice_get-get_or c.args.steps.now n none c.requires.here) marked (c.mark-then-marks-number.ensures.long ∙ c.mark.ensures.long) told c.requires.marked

pub returns-else-marks-number : goal.returns-else-marks-number
returns-else-marks-number c =
    unmarked_down c.args.steps.now c.args.last c.args.number c.args.marks.now (λ m. absurd (cc (get_or_from_slice_get c.args.marks.now c.args.number _ false m, c.if-marks-number.false))) c.requires.marked
