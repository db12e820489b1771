use Rattle.krates_rules.specs.Resolved.{id_of}
use Rattle.krates_questions.proofs.questions.Document.package_of.Goals as goal

pub package_at-requires : goal.package_at-requires
package_at-requires c = record { number = (id_of c.args.krate.now, c.crate_number.ensures) }

pub returns : goal.returns
returns c = c.package_at.ensures (id_of c.args.krate.now) c.crate_number.ensures
