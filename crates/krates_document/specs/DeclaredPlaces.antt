-- The places of declared dependencies, by name and target, and which of them are considered.
use Rattle.std.specs.Prelude.{◌≡◌, ◌≤◌, ◌++◌, ℕ, Bool, false, true, List, Option, Some, None, MatchOption, Contains, map, slice_get, unwrap_or, cond, nat_lt, ◌<◌, ⊤}
use Rattle.semver.specs.Identifiers.{parts_of}
use Rattle.krates_cm.specs.Document.{Text, DependencyModel, DepKindInfoModel, dep_kind_info_view, dependency_view, node_dep_view}
use Rattle.krates_cm.specs.Names.{version_named}
use Rattle.krates_rules.specs.DeclaredDependency.{DependencyEntry, Fits, declared_name, dependency_entry}
use Rattle.krates_rules.specs.DeclaredSource.{HasSource}
use Rattle.krates_rules.specs.Resolved.{id_of}
use Rattle.krates_document.specs.NamedPlaces.{AreNamed, StandsUnder, no_target, places_in}
use Rattle.krates_document.specs.declared.declared_dependency.Candidates.{Candidates}
use Rattle.krates_document.specs.declared.declared_dependency.Sought.{Sought}
use Rattle.krates_document.specs.declared.declared_dependency.Wanted.{Wanted}
use Rattle.krates_document.specs.declared.named_places.NamedPlace.{NamedPlace}

-- ---- what is sought

-- the dependency of a node, with its id
abbrev pub entry_in : Sought → DependencyEntry
entry_in x = dependency_entry (id_of x.kid.now) (node_dep_view x.dep.now)

-- its kind and target
abbrev pub kind_in : Sought → DepKindInfoModel
kind_in x = dep_kind_info_view x.info.now

-- the version is that of the id
abbrev pub HasItsVersion : Sought → Type 0
HasItsVersion x = version_named x.kid.now.version ≡ Some (parts_of x.version.now)

-- ---- the places of declared dependencies

-- the text under which a target is listed
abbrev pub target_key : Option Text → Text
target_key target = unwrap_or target no_target

-- the places are in order, and each declared dependency is listed under its name and target
abbrev pub AreDeclaredPlaces : List DependencyModel → List NamedPlace → Type 0
AreDeclaredPlaces = AreNamed declared_name (λ d. target_key d.target)

-- all candidates
abbrev pub among : Candidates → List ℕ
among all = places_in all.of_dep.now ++ places_in all.of_package.now

-- each place under one of the two names that are sought, and the target, is among these
pub record AreCandidates (places : List NamedPlace) (x : Sought) (all : Candidates) : Type 0 where
  pub of_dep : (k : ℕ) → StandsUnder places (entry_in x).dep.name (target_key (kind_in x).target) k → Contains (among all) k
  pub of_package : (k : ℕ) → StandsUnder places (entry_in x).id.name (target_key (kind_in x).target) k → Contains (among all) k

-- ---- which of them is the least that fits

-- the number has the property and none below it has it; or none has it
abbrev pub IsLeast : (ℕ → Type 0) → Option ℕ → Type 0
IsLeast P least = MatchOption least ((k : ℕ) → P k → ⊥) (λ n. P n × ((k : ℕ) → P k → n ≤ k))

-- less than the other number, or there is no other
abbrev pub IsBelow : ℕ → Option ℕ → Type 0
IsBelow n other = MatchOption other ⊤ (λ m. n < m)

-- the declared dependency fits, and its source is that of the dependency's id
pub record FitsBySource (n : DependencyEntry) (k : DepKindInfoModel) (d : DependencyModel) : Type 0 where
  pub fits : Fits n k d
  pub source : HasSource n.dep.pkg n.id.source d

-- the declared dependency fits; if the source counts, it has that too
abbrev pub FitsWhere : Bool → DependencyEntry → DepKindInfoModel → DependencyModel → Type 0
FitsWhere false = Fits
FitsWhere true = FitsBySource

abbrev pub FitsAs : Wanted → DependencyModel → Type 0
FitsAs x = FitsWhere x.by_source (entry_in x.sought.now) (kind_in x.sought.now)

-- a declared dependency that fits is at the place
pub record FitsAt (x : Wanted) (place : ℕ) : Type 0 where
  pub dependency : DependencyModel
  pub at : slice_get (map dependency_view x.declared.now) place ≡ Some dependency
  pub fits : FitsAs x dependency

-- and the place is one of these, from the least place that is wanted on
pub record IsWantedAmong (x : Wanted) (places : List ℕ) (place : ℕ) : Type 0 where
  pub among : Contains places place
  pub from_there : x.from ≤ place
  pub fits : FitsAt x place

-- the lesser of two numbers, if there are any
abbrev pub lesser : Option ℕ → Option ℕ → Option ℕ
lesser None other = other
lesser (Some one) None = Some one
lesser (Some one) (Some other) = Some (cond (nat_lt one other) one other)
