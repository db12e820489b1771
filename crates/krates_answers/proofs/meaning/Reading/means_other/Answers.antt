use Rattle.std.proofs.Common.{◌↔◌, IfOk, IsTrue, subst, sym}
use Rattle.krates_answers.specs.Meaning.{IsMeantBy, other}
use Rattle.krates_answers.specs.declared.meaning.Reading.{Reading}
use Rattle.krates_answers.proofs.meaning.Reading.means_other.Goals as goal

pub returns-in-Id : goal.returns-in-Id
returns-in-Id c = subst (λ (r : Reading). IfOk c.has_id.result (λ is_meant. IsTrue is_meant ↔ IsMeantBy r (other c.args.pkg.now))) (sym c.in-Id.is) c.has_id.ensures
