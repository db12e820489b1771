-- Declared dependencies: as the code finds them at their places, and as the definitions see them.
use Rattle.std.proofs.Common.{◌≡◌, ℕ, List, [], ap, ◌∙◌, subst, arith}
use Rattle.krates_cm.specs.Document.{DependencyModel, PackageModel}
use Rattle.krates_rules.specs.Admission.{NoneDoubled}
use Rattle.krates_rules.specs.Facts.{Id}
use Rattle.krates_questions.specs.NodeEntry.{AreDeclaredBy}
use Rattle.krates_document.specs.DeclaredPlaces.{AreDeclaredPlaces}
use Rattle.krates_document.specs.declared.named_places.NamedPlace.{NamedPlace}
use Rattle.krates_rules.specs.Resolved.{Resolved, HasPackage, NoPackage, PackageAt}
use Rattle.krates_rules.proofs.OnlyOne.{one_package}
use Rattle.krates_rules.proofs.Standings.{contains_at}

-- the declared dependencies of the package with the id
pub declared_here : (r : Resolved) (i : Id) (p : PackageModel) (ds : List DependencyModel) → NoneDoubled r.metadata r.graph → HasPackage r i p → p.dependencies ≡ ds → AreDeclaredBy r i ds
declared_here r i p ds none has is = record { each = λ q h. ap (λ (m : PackageModel). m.dependencies) (one_package r i q p none h has) ∙ is; from = λ k d h. (p, has) }

pub none_declared : (r : Resolved) (i : Id) → NoPackage r i → AreDeclaredBy r i []
none_declared r i none = record { each = λ p h. absurd (none p h); from = λ k d h. absurd (cc) }

-- ---- their places by name

pub placed_here : (r : Resolved) (i : Id) (place : ℕ) → (at : PackageAt r i place) → (ds : List DependencyModel) (places : List NamedPlace) → AreDeclaredBy r i ds → AreDeclaredPlaces at.pkg.dependencies places → AreDeclaredPlaces ds places
placed_here r i place at ds places by_package h =
    subst (λ (es : List DependencyModel). AreDeclaredPlaces es places) (by_package.each at.pkg (record { among = contains_at r.metadata.packages place at.pkg at.at; id = at.id })) h

pub none_placed : (r : Resolved) (i : Id) (ds : List DependencyModel) → NoPackage r i → AreDeclaredBy r i ds → AreDeclaredPlaces ds []
none_placed r i ds none by_package = record {
  sorted = λ k d low lt. absurd (omega (arith, lt));
  each = λ k d at. let p = by_package.from k d at in absurd (none p.0 p.1);
}
