-- What two builds have in common: of documents that differ only in order, and under a setting and one that keeps less; and how
-- the dependencies and the dependents in one of them agree.
use Rattle.std.specs.Prelude.{◌≡◌, ◌⊎◌, ◌↔◌, List, Option, true, false, Contains, map}
use Rattle.std.specs.List.{AllZip}
use Rattle.krates_cm.specs.Document.{MetadataModel, metadata_view, package_view}
use Rattle.krates_cm.specs.declared.metadata.Metadata.{Metadata}
use Rattle.krates_cm.specs.declared.package.Package.{Package}
use Rattle.krates_drawing.specs.Alike.{DrawAlike}
use Rattle.krates_drawing.specs.Narrower.{DrawsNoMore}
use Rattle.krates_drawing.specs.Outline.{Outline}
use Rattle.krates_drawing.specs.declared.edge.Edge.{Edge}
use Rattle.krates_drawing.specs.declared.node.Node.{Node}
use Rattle.krates_graph.specs.Graph.{StoredGraph}
use Rattle.krates_ids.specs.Identity.{Identity}
use Rattle.krates_ids.specs.declared.error.Error.{Error}
use Rattle.krates_ids.specs.declared.error.Error.TheVariants.{NoRootKrates, Memory}
use Rattle.krates_ids.specs.declared.index.IndexAnswer.{IndexAnswer}
use Rattle.krates_ids.specs.declared.index.PackageNames.{PackageNames}
use Rattle.krates_rules.specs.Facts.{Id, Cause, Fact, Lost}
use Rattle.krates_rules.specs.Naming.{naming}
use Rattle.krates_rules.specs.Narrowing.{IsNarrower}
use Rattle.krates_rules.specs.Reordering.{Reorders, ReordersPackage, ResolveAlike}
use Rattle.krates_rules.specs.Resolved.{id_of}
use Rattle.krates_rules.specs.Setting.{SettingModel}
use Rattle.krates_rules.specs.Resolution.{IsDerived}
use Rattle.krates.specs.Build.{IsResolvable, KeepsCrate, DropsCrate, DependentsAgree, IsRefusedSeeing}
use Rattle.krates_drawing.specs.Listed.{AreThosePackages}
use Rattle.krates_queries.specs.Drawn.{CanBeNumbered, IsDrawn, IsOutlineFor}
use Rattle.krates.specs.Indexed.{HasNames, IsSeenBy}
use Rattle.krates_queries.specs.Kept.{AreOrdered}

-- ---- documents in another order

-- the packages are equal, except for the order in which their features are listed
abbrev pub IsSamePackage : Package → Package → Type 0
IsSamePackage a b = ReordersPackage (package_view a) (package_view b)

-- The same packages of both documents are listed, those with these ids: at the same places, with the same ids.
pub record ListAlike (p q : Metadata) (P Q : Id → Type 0) : Type 0 where
  pub ids : (is js : List Identity) (xs ys : List Package) → AreThosePackages p.packages.items P is xs
      → AreThosePackages q.packages.items Q js ys → is ≡ js
  pub packages : (is js : List Identity) (xs ys : List Package) → AreThosePackages p.packages.items P is xs
      → AreThosePackages q.packages.items Q js ys → AllZip IsSamePackage xs ys

-- Builds of the documents `m` and `n`, which resolve `p` and `q`, keep and report the same, and are refused alike.
pub record BuildAlike (m n p q : Metadata) (s : SettingModel) : Type 0 where
  -- an index is asked about the same names
  pub names : (names : PackageNames) → HasNames m.packages.items names ↔ HasNames n.packages.items names
  -- the same crates, features and edges are derivable
  pub facts : (f : Fact) → IsDerived (metadata_view p) s f ↔ IsDerived (metadata_view q) s f
  -- the ids are equal place by place, so kept crates have the same numbers
  pub kept : ListAlike p q (KeepsCrate (metadata_view p) s) (KeepsCrate (metadata_view q) s)
  pub reported : ListAlike p q (DropsCrate (metadata_view p) s) (DropsCrate (metadata_view q) s)
  -- the same graph is drawn of both: the nodes with their mappings and the edges are equal, number by number
  pub drawn : IsResolvable (metadata_view m) → (t v : Outline) → IsOutlineFor (metadata_view p) s t → IsOutlineFor (metadata_view q) s v → DrawAlike t v
  -- and what is drawn of the one may be drawn of the other
  pub outlines : IsResolvable (metadata_view m) → (t : Outline) → IsOutlineFor (metadata_view p) s t ↔ IsOutlineFor (metadata_view q) s t
  pub refused : (e : Error) → IsRefusedSeeing m p s e ↔ IsRefusedSeeing n q s e

-- What is resolved of two documents differs only in order, so it resolves alike and builds alike.
pub record IsSeenAlike (m n p q : Metadata) : Type 0 where
  pub reorders : Reorders (metadata_view p) (metadata_view q)
  pub resolves : ResolveAlike (metadata_view p) (metadata_view q)
  pub builds : (s : SettingModel) → BuildAlike m n p q s

-- builds of documents that differ only in order are alike, without an index or with one answer of it
abbrev pub IsBuildOrderFree : Type 0
IsBuildOrderFree = (answer : Option IndexAnswer) (m n p q : Metadata) → Reorders (metadata_view m) (metadata_view n)
    → IsSeenBy answer m p → IsSeenBy answer n q → IsSeenAlike m n p q

-- ---- settings that keep less

-- A build of the document m, which looks at p, succeeds: both can be resolved, nothing is lost, the crates that have to be
-- kept are numbered by their places among these ids, and what is drawn can be numbered. A build promises this of the crates
-- that it keeps.
pub record Succeeds (m p : Metadata) (s : SettingModel) (ids : List Identity) : Type 0 where
  pub resolvable : IsResolvable (metadata_view m)
  pub seen : IsResolvable (metadata_view p)
  pub none_lost : (c : Cause) → IsDerived (metadata_view p) s (Lost c) → ⊥
  pub kept : (i : Id) → KeepsCrate (metadata_view p) s i ↔ Contains (map id_of ids) i
  pub ordered : AreOrdered ids
  pub outline : Outline
  pub is_outline : IsOutlineFor (metadata_view p) s outline
  pub numbered : CanBeNumbered outline

-- the same package is listed, except for the order of its features
pub record ListsSame (listed : List Package) (pkg : Package) : Type 0 where
  pub other : Package
  pub among : Contains listed other
  pub same : IsSamePackage pkg other

-- The narrower setting keeps of `q` a part of what the wider one keeps of `p`: both are what is resolved of the document `m`.
pub record KeepsPart (m p q : Metadata) (wide narrow : SettingModel) : Type 0 where
  -- each fact that is derivable under the narrower setting is derivable under the wider one, lost facts too
  pub facts : (f : Fact) → IsDerived (metadata_view q) narrow f → IsDerived (metadata_view p) wide f
  -- so each package that the narrower setting keeps is one that the wider keeps
  pub packages : (is js : List Identity) (xs ys : List Package) → AreThosePackages q.packages.items (KeepsCrate (metadata_view q) narrow) is xs
      → AreThosePackages p.packages.items (KeepsCrate (metadata_view p) wide) js ys → (pkg : Package) → Contains xs pkg → ListsSame ys pkg
  -- the crates, the edges and the features that are drawn are a part, and no more nodes and edges are
  pub drawn : IsResolvable (metadata_view m) → (t v : Outline) → IsOutlineFor (metadata_view q) narrow t → IsOutlineFor (metadata_view p) wide v → DrawsNoMore t v
  -- if the wider build succeeds, the narrower is refused only because no crate is left, or when out of memory
  pub refusals : (ids : List Identity) → Succeeds m p wide ids → (e : Error) → IsRefusedSeeing m q narrow e
      → (e ≡ NoRootKrates) ⊎ (e ≡ Memory)

-- a build under a narrower setting keeps a part, without an index or with one answer of it for both builds
abbrev pub IsBuildNarrowing : Type 0
IsBuildNarrowing = (answer : Option IndexAnswer) (m p q : Metadata) (wide narrow : SettingModel) → IsNarrower wide narrow
    → IsSeenBy answer m p → IsSeenBy answer m q → KeepsPart m p q wide narrow

-- of one document that is resolved, each package that the narrower setting keeps is kept by the wider one
abbrev pub KeepsPackages : Type 0
KeepsPackages = (p : Metadata) (wide narrow : SettingModel) → IsNarrower wide narrow → (is js : List Identity) (xs ys : List Package)
    → AreThosePackages p.packages.items (KeepsCrate (metadata_view p) narrow) is xs
    → AreThosePackages p.packages.items (KeepsCrate (metadata_view p) wide) js ys → (pkg : Package) → Contains xs pkg → Contains ys pkg

-- ---- what a name means

-- What q keeps where a name means only the least that matches it is a part of what p keeps where it means all: both are
-- what is looked at of one document. So where both builds succeed, the crates, features and edges of the first are in the second.
pub record KeepsNamedPart (p q : Metadata) (s : SettingModel) : Type 0 where
  -- each fact that is derivable where it means the least is derivable where it means all, lost facts too
  pub facts : (f : Fact) → IsDerived (metadata_view q) (naming s false) f → IsDerived (metadata_view p) (naming s true) f
  -- so each package that is kept where it means the least is kept where it means all
  pub packages : (is js : List Identity) (xs ys : List Package) → AreThosePackages q.packages.items (KeepsCrate (metadata_view q) (naming s false)) is xs
      → AreThosePackages p.packages.items (KeepsCrate (metadata_view p) (naming s true)) js ys → (pkg : Package) → Contains xs pkg → ListsSame ys pkg

-- a build where a name means the least keeps a part, without an index or with one answer of it for both builds
abbrev pub IsBuildNamedPart : Type 0
IsBuildNamedPart = (answer : Option IndexAnswer) (m p q : Metadata) (s : SettingModel) → IsSeenBy answer m p → IsSeenBy answer m q → KeepsNamedPart p q s

-- ---- direct dependencies and dependents

-- Where the document can be resolved and the graph is drawn of it, as a build promises: direct dependencies and direct dependents
-- agree.
abbrev pub IsBuildAgreeing : {N E : Type 0} → (Edge → E → Type 0) → MetadataModel → SettingModel → StoredGraph (Node N) E → Type 0
IsBuildAgreeing made m s g = IsResolvable m → IsDrawn made m s g → DependentsAgree m s g
