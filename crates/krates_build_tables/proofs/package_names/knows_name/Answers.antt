use Rattle.std.proofs.Common.{◌↔◌, IsTrue, List, subst, map, false}
use Rattle.krates_cm.specs.Document.{package_view, dependency_view}
use Rattle.krates_cm.specs.declared.dependency.Dependency.{Dependency}
use Rattle.krates_questions.specs.Lookup.{resolved_view}
use Rattle.krates_rules.specs.Resolved.{id_of}
use Rattle.krates_build_tables.specs.RequestsTaken.{DeclaresNamed}
use Rattle.krates_build_tables.proofs.PackageNames.{name_told}
use Rattle.krates_build_tables.proofs.package_names.knows_name.Goals as goal

pub returns-in-Some : goal.returns-in-Some
returns-in-Some c =
    let name = c.args.name.now in
    let told = subst (λ (ds : List Dependency). IsTrue c.declares.result ↔ DeclaresNamed (map dependency_view ds) name false) c.deref.ensures.value c.declares.ensures in
    name_told (resolved_view c.args.document.now) (id_of c.args.id.now) name (package_view c.in-Some.pkg.now) c.declares.result c.agrees.ensures.distinct c.in-Some.ensures told

pub returns-in-None : goal.returns-in-None
returns-in-None c = (λ t. absurd cc, λ h. absurd (c.in-None.ensures h.1.pkg h.1.has_package))
