use Rattle.std.proofs.Common.{◌↔◌, List, IsTrue, Contains, rules, tests, subst}
use Rattle.krates_cm.specs.declared.target.TargetKind.{TargetKind}
use Rattle.krates_cm.specs.declared.target.TargetKind.TheVariants.{Lib}
use Rattle.krates_questions.proofs.LibraryNames.{contains_told}
use Rattle.krates_questions.proofs.name_index.is_library.Goals as goal

pub returns : goal.returns
returns c =
    subst (λ (kinds : List TargetKind). IsTrue c.contains.result ↔ Contains kinds Lib) c.deref.ensures.value
    (contains_told _ Lib c.deref.result.now c.contains.result c.contains.ensures.value (λ y e. search (rules, tests)) (search (rules, tests)))
