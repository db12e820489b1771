use Rattle.std.proofs.Common.{◌≡◌, ◌↔◌, IsTrue, rules}
use Rattle.krates_cm.specs.Document.{package_view, target_view, text_view}
use Rattle.krates_rules.specs.DependencyName.{IsNameOf}
use Rattle.krates_questions.proofs.LibraryNames.{renamed_told, not_renamed, no_library}
use Rattle.krates_questions.proofs.name_index.is_library_rename.Goals as goal

pub returns-then-eq : goal.returns-then-eq
returns-then-eq c =
    let p = package_view c.args.pkg.now in
    let name = c.args.name.now in
    let library = c.in-Some.ensures in
    let is : text_view c.in-Some.library.now.name ≡ name = search rules in
    let told : IsTrue c.is_name_of.result ↔ IsNameOf name p.name = search rules in
    renamed_told p name library.0 (target_view c.in-Some.library.now) c.is_name_of.result library.1 is told

pub returns-else-eq : goal.returns-else-eq
returns-else-eq c =
    let p = package_view c.args.pkg.now in
    let name = c.args.name.now in
    let library = c.in-Some.ensures in
    let other : text_view c.in-Some.library.now.name ≡ name → ⊥ = search rules in
    (λ t. absurd cc, λ l. absurd (not_renamed p name library.0 (target_view c.in-Some.library.now) library.1 other l))

pub returns-in-None : goal.returns-in-None
returns-in-None c = (λ t. absurd cc, λ l. absurd (no_library (package_view c.args.pkg.now) c.args.name.now c.in-None.ensures l))
