use Rattle.std.proofs.Common.{sym, ap, map}
use Rattle.krates_cm.specs.Document.{dependency_view, package_view}
use Rattle.krates_questions.specs.Lookup.{resolved_view}
use Rattle.krates_questions.proofs.Declared.{declared_here, none_declared}
use Rattle.krates_questions.proofs.questions.Document.declared_by.Goals as goal

pub returns-in-Some : goal.returns-in-Some
returns-in-Some c i h =
    declared_here (resolved_view c.args.self.now) i (package_view c.in-Some.pkg.now) (map dependency_view c.deref.result.now) c.agrees.ensures.distinct (c.in-Some.ensures i h)
    (ap (map dependency_view) (sym c.deref.ensures.value))

pub returns-in-None : goal.returns-in-None
returns-in-None c i h = none_declared (resolved_view c.args.self.now) i (c.in-None.ensures i h)
