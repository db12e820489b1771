use Rattle.krates_cm.specs.Document.{package_view}
use Rattle.krates_rules.specs.Resolved.{id_of}
use Rattle.krates_questions.proofs.questions.Document.availability.Goals as goal

pub package_at-requires : goal.package_at-requires
package_at-requires c = record { number = (id_of c.args.krate.now, c.crate_number-number.ensures) }

pub returns-in_default : goal.returns-in_default
returns-in_default c = c.in_default.ensures (id_of c.args.krate.now) c.crate_number-number.ensures

pub availability_with-requires : goal.availability_with-requires
availability_with-requires c = record { number = (id_of c.args.krate.now, c.crate_number-number.ensures) }

pub returns : goal.returns
returns c =
    let i = id_of c.args.krate.now in
    let h = c.crate_number-number.ensures in
    c.availability_with.ensures c.args.setting.now i (package_view c.in-Some.pkg.now) h (c.in-Some.ensures i h) c.excludes.ensures
