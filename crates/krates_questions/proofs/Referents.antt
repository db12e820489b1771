-- Whether a dependency answers to a name.
use Rattle.std.proofs.Common.{◌≡◌, ◌↔◌, Bool, IsTrue, subst}
use Rattle.krates_cm.specs.Document.{Text, PackageModel, NodeDepModel}
use Rattle.krates_rules.specs.Admission.{NoneDoubled}
use Rattle.krates_rules.specs.DependencyName.{IsNameOf}
use Rattle.krates_rules.specs.Facts.{Id}
use Rattle.krates_rules.specs.Referent.{IsLibraryRename, AnswersTo, by_name, by_library}
use Rattle.krates_rules.specs.Resolved.{Resolved, HasPackage, NoPackage}
use Rattle.krates_rules.proofs.OnlyOne.{one_package}

answers_back : (r : Resolved) (child : Id) (d : NodeDepModel) (name : Text) (q : PackageModel) (b : Bool) → NoneDoubled r.metadata r.graph → (IsNameOf d.name name → ⊥) → HasPackage r child q
    → (IsLibraryRename q d.name → IsTrue b) → AnswersTo r child d name → IsTrue b
answers_back r child d name q b none other has told (by_name same) = absurd (other same)
answers_back r child d name q b none other has told (by_library {p} e h l) = told (subst (λ (m : PackageModel). IsLibraryRename m d.name) (one_package r child p q none h has) l)

-- its own name is another, and it has a package
pub answers_told : (r : Resolved) (child : Id) (d : NodeDepModel) (name : Text) (p : PackageModel) (b : Bool) → NoneDoubled r.metadata r.graph → (IsNameOf d.name name → ⊥) → name ≡ child.name → HasPackage r child p
    → (IsTrue b ↔ IsLibraryRename p d.name) → IsTrue b ↔ AnswersTo r child d name
answers_told r child d name p b none other is has told = (λ t. by_library is has (told.0 t), answers_back r child d name p b none other has told.1)

-- its own name is another, and it has no package
pub not_answering : (r : Resolved) (child : Id) (d : NodeDepModel) (name : Text) → (IsNameOf d.name name → ⊥) → NoPackage r child → AnswersTo r child d name → ⊥
not_answering r child d name other lacks (by_name same) = other same
not_answering r child d name other lacks (by_library {p} e h l) = lacks p h
