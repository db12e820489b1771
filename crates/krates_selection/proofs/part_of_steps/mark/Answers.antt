use Rattle.std.proofs.Common.{length, refl}
use Rattle.krates_selection.proofs.Marks.{one_marked, within_of}
use Rattle.krates_selection.proofs.part_of_steps.mark.Goals as goal

pub bounds-marks-number : goal.bounds-marks-number
bounds-marks-number c = within_of c.args.used c.in-Some.number (length c.args.marks.now) c.in-Some.is c.requires

pub returns-in-Some-clause-marked : goal.returns-in-Some-clause-marked
returns-in-Some-clause-marked c =
    one_marked c.args.marks.now _ c.args.used c.in-Some.number c.in-Some.is (within_of c.args.used c.in-Some.number (length c.args.marks.now) c.in-Some.is c.requires) refl
