-- Why it isn't said what cargo builds: what is lost, and what depends on the order of cargo's visits.
use Rattle.std.specs.Prelude.{◌≡◌, ◌<◌, ⊤, ℕ, List, Some}
use Rattle.std.specs.declared.cmp.Ordering.TheVariants.{Less}
use Rattle.krates_cm.specs.Document.{DependencyModel, PackageModel, dependency_view, package_view}
use Rattle.krates_rules.specs.Facts.{Id}
use Rattle.krates_rules.specs.Resolved.{HasPackage, Resolved}
use Rattle.krates_units.specs.Answered.{IsAnswered}
use Rattle.krates_units.specs.BuildFacts as means
use Rattle.krates_units.specs.BuildSetting.{BuildSettingModel}
use Rattle.krates_units.specs.Built.{IsComplete, IsDerivable}
use Rattle.krates_units.specs.VisitOrder.{DependsOnOrder}
use Rattle.krates_build_tables.specs.CrateParts.{AreTablesOf}
use Rattle.krates_build_tables.specs.TablesOf.{CrateAt}
use Rattle.krates_build_tables.specs.Unanswered.{TellsUnanswered}
use Rattle.krates_build_tables.specs.declared.tables.Tables.{Tables}
use Rattle.krates_build_facts.specs.Meanings.{Follows, LackingMeans}
use Rattle.krates_built.specs.BuildLists.{lost_cmp, lost_fact}
use Rattle.krates_built.specs.OrderAt.{IsFirstDependent}
use Rattle.krates_built.specs.declared.not_built.NotBuilt.{NotBuilt}
use Rattle.krates_built.specs.declared.not_built.NotBuilt.TheVariants.{NamesNothing, Lost, DependsOnOrder as DependsOnVisits, Memory}
use Rattle.krates_built.specs.declared.places.LostPlace.{LostPlace}

-- the place is that of a dependency that is lost, and none before it is lost, by the number of its crate and its place there
pub record IsFirstLost (t : Tables) (place : LostPlace) : Type 0 where
  pub lost : Follows t (lost_fact place)
  pub first : (other : LostPlace) → Follows t (lost_fact other) → ¬ (lost_cmp other place ≡ Less)

-- nothing is lost
abbrev pub LosesNothing : Tables → Type 0
LosesNothing t = (place : LostPlace) → ¬ Follows t (lost_fact place)

-- ---- by number

-- the crate with this number has this package
pub record IsPackageAt (r : Resolved) (ids : List Id) (number : ℕ) (pkg : PackageModel) : Type 0 where
  pub id : Id
  pub at : CrateAt ids number id
  pub has_package : HasPackage r id pkg

-- the package declares the dependency at the place
pub record IsLostOf (r : Resolved) (ids : List Id) (t : Tables) (place : LostPlace) (pkg : PackageModel) (d : DependencyModel) : Type 0 where
  pub id : Id
  pub at : LackingMeans ids t place.krate place.index id d
  pub has_package : HasPackage r id pkg

-- the refusal is that of the dependency at the place
abbrev pub TellsLost : Resolved → List Id → Tables → LostPlace → NotBuilt → Type 0
TellsLost r ids t place (Lost pkg dep) = IsLostOf r ids t place (package_view pkg.now) (dependency_view dep.now)
TellsLost r ids t place _ = ⊥

-- the refusal is true of the tables
abbrev pub IsRefusalAt : Resolved → List Id → Tables → NotBuilt → Type 0
IsRefusalAt r ids t (Lost pkg dep) = (place : LostPlace) × IsFirstLost t place × IsLostOf r ids t place (package_view pkg.now) (dependency_view dep.now)
IsRefusalAt r ids t (DependsOnVisits pkg) = LosesNothing t × ((krate : ℕ) × IsFirstDependent t krate × IsPackageAt r ids krate (package_view pkg.now))
IsRefusalAt r ids t (NamesNothing request) = ⊥
IsRefusalAt r ids t Memory = ⊥

-- ---- in words of the document

-- each request names something, and the first dependency that is lost is this one of this package
pub record NamesLost (r : Resolved) (s : BuildSettingModel) (ids : List Id) (pkg : PackageModel) (d : DependencyModel) : Type 0 where
  pub answered : IsAnswered r s
  pub tables : Tables
  pub are : AreTablesOf r s ids tables
  pub place : LostPlace
  pub first : IsFirstLost tables place
  pub of_package : IsLostOf r ids tables place pkg d
  pub lost : IsDerivable r s (means.Lost of_package.id d)

-- each request names something, nothing is lost, and the first crate by number that depends on the order of visits has this package
pub record NamesDependent (r : Resolved) (s : BuildSettingModel) (ids : List Id) (pkg : PackageModel) : Type 0 where
  pub answered : IsAnswered r s
  pub complete : IsComplete r s
  pub number : ℕ
  pub of_package : IsPackageAt r ids number pkg
  pub depends : DependsOnOrder r s of_package.id
  pub first : (other : ℕ) (i : Id) → other < number → CrateAt ids other i → ¬ DependsOnOrder r s i

-- the refusal is true
abbrev pub IsRefusal : Resolved → BuildSettingModel → List Id → NotBuilt → Type 0
IsRefusal r s ids (NamesNothing request) = TellsUnanswered r s (Some request)
IsRefusal r s ids (Lost pkg dep) = NamesLost r s ids (package_view pkg.now) (dependency_view dep.now)
IsRefusal r s ids (DependsOnVisits pkg) = NamesDependent r s ids (package_view pkg.now)
IsRefusal r s ids Memory = ⊤
