use Rattle.std.proofs.Common.{map, rules, tests, sym, ap}
use Rattle.std.proofs.lemmas.Iterator.{first_from_find, YieldsList-from_slice}
use Rattle.krates_cm.specs.Document.{package_view, target_view}
use Rattle.krates_cm.specs.declared.target.Target.{Target}
use Rattle.krates_questions.proofs.LibraryNames.{IsLibrary, library_found}
use Rattle.krates_questions.proofs.name_index.library_of.Goals as goal

pub returns : goal.returns
returns c =
    library_found (package_view c.args.pkg.now) c.deref.result.now c.find.result (ap (map target_view) (sym c.deref.ensures.value))
    (first_from_find _ _ c.find.result (λ (t : Target). IsLibrary (target_view t)) (λ (t : Target). IsLibrary (target_view t) → ⊥) c.find.ensures.ran (YieldsList-from_slice c.deref.result.now (cc))
    (λ x q k. search (rules, tests)) (λ x q k. search (rules, tests)))
