-- The facts about crates, features and edges that the rules derive.
use Rattle.std.specs.Prelude.{Option}
use Rattle.krates_cm.specs.Document.{Text}
use Rattle.krates_cm.specs.declared.dependency.DependencyKind.{DependencyKind}

-- a package id: two ids are equal where their three parts are
pub record Id : Type 0 where
  pub name : Text
  pub version : Text
  pub source : Text

-- an edge of the resolved graph: a dependency of a node, of one kind and for one target
pub record Edge : Type 0 where
  pub parent : Id
  pub child : Id
  pub kind : DependencyKind
  pub cfg : Option Text

-- why a document that is read can't be resolved
pub data Cause : Type 0 where
  LostPackage : (id : Id) → Cause
  LostNode : (id : Id) → Cause
  LostFeature : (krate : Id) (name : Text) → Cause
  Undeclared : (krate dep : Id) → Cause

-- what may have a derivation
pub data Fact : Type 0 where
  Crate : (id : Id) → Fact  -- the crate is kept
  Feature : (krate : Id) (name : Text) → Fact  -- the feature of the crate is enabled
  Kept : (edge : Edge) → Fact  -- the edge is kept
  Toggled : (by krate : Id) (name : Text) → Fact  -- a feature of the first crate enables the feature of the second
  Lost : (cause : Cause) → Fact  -- something is required that the document lacks
