use Rattle.std.proofs.Common.{map, sym, ap}
use Rattle.krates_cm.specs.Document.{dependency_view, package_view}
use Rattle.krates_questions.specs.Lookup.{resolved_view}
use Rattle.krates_rules.specs.Resolved.{id_of}
use Rattle.krates_build_tables.proofs.PackageContents.{declared_here, no_declared}
use Rattle.krates_build_tables.proofs.contents.declared_by.Goals as goal

pub returns-in-Some : goal.returns-in-Some
returns-in-Some c =
    declared_here (resolved_view c.args.document.now) (id_of c.args.krate.now) (package_view c.in-Some.pkg.now) (map dependency_view c.deref.result.now) c.agrees.ensures.distinct c.in-Some.ensures
    (ap (map dependency_view) (sym c.deref.ensures.value))

pub returns-in-None : goal.returns-in-None
returns-in-None c = no_declared (resolved_view c.args.document.now) (id_of c.args.krate.now) c.in-None.ensures
