use Rattle.std.proofs.Common.{◌≡◌, ◌↔◌, IsTrue, rules, tests}
use Rattle.krates_cm.specs.Document.{package_view, node_dep_view}
use Rattle.krates_rules.specs.DependencyName.{IsNameOf}
use Rattle.krates_questions.specs.Lookup.{resolved_view}
use Rattle.krates_rules.specs.Referent.{IsLibraryRename}
use Rattle.krates_rules.specs.Resolved.{id_of}
use Rattle.krates_questions.proofs.Referents.{answers_told, not_answering}
use Rattle.krates_questions.proofs.questions.Document.answers_to.Goals as goal

pub returns-in-Some : goal.returns-in-Some
returns-in-Some c =
    let d = node_dep_view c.args.dep.now in
    let child = id_of c.args.child.now in
    let other : IsNameOf d.name c.args.name.now → ⊥ = search (rules, tests) in
    let is : c.args.name.now ≡ child.name = search rules in
    let p = package_view c.in-Some.pkg.now in
    let told : IsTrue c.is_library_rename.result ↔ IsLibraryRename p d.name = search rules in
    answers_told (resolved_view c.args.self.now) child d c.args.name.now p c.is_library_rename.result c.agrees.ensures.distinct other is c.in-Some.ensures told

pub returns-in-None : goal.returns-in-None
returns-in-None c =
    let d = node_dep_view c.args.dep.now in
    let other : IsNameOf d.name c.args.name.now → ⊥ = search (rules, tests) in
    (λ t. absurd cc, λ a. absurd (not_answering (resolved_view c.args.self.now) (id_of c.args.child.now) d c.args.name.now other c.in-None.ensures a))
