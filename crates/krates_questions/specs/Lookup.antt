-- What look-ups in a document return.
use Rattle.std.specs.Prelude.{◌≡◌, ℕ, Bool, [], Option, MatchOption, MatchBool, map, option_map}
use Rattle.krates_cm.specs.Document.{MetadataModel, PackageModel, metadata_view, node_view, package_view, resolve_view, NodeModel}
use Rattle.krates_cm.specs.declared.metadata.Metadata.{Metadata}
use Rattle.krates_cm.specs.declared.package.Package.{Package}
use Rattle.krates_cm.specs.declared.resolve.Resolve.{Resolve}
use Rattle.krates_document.specs.declared.ids.Ids.{Ids}
use Rattle.std.specs.Borrow.{Bor}
use denote.Ref.{NamedLft}
use mir.Syntax.{named}
use Rattle.krates_rules.specs.Admission.{AreIdsOf, NoneDoubled}
use Rattle.krates_rules.specs.Facts.{Id}
use Rattle.krates_questions.specs.FeatureTable.{AreNumbered, listed_in, features_from}
use Rattle.krates_document.specs.Ids.{ids_view}
use Rattle.krates_rules.specs.Resolved.{HasGraphWith, Resolved, resolved, HasPackage, NoPackage, NoNode, IsMember, NodeAt, PackageAt, id_of, HasNode}
use Rattle.krates_document.specs.CrateTable.{IsNumberOf, numbers_in}
use Rattle.krates_questions.specs.NameIndex.{IsNameIndex, lists_in, AreRenamedIn}
use Rattle.krates_questions.specs.declared.lookup.Lookup.{Lookup}
use Rattle.krates_questions.specs.declared.lookup.NodePlace.{NodePlace}

abbrev pub resolved_view : Lookup → Resolved
resolved_view d = record { metadata = metadata_view d.metadata.now; graph = resolve_view d.resolve.now }

-- the ids are those of the document, none is doubled, and what was made of it agrees with it
pub record IsLookup (d : Lookup) : Type 0 where
  pub ids : AreIdsOf (metadata_view d.metadata.now) (resolve_view d.resolve.now) (ids_view d.ids.now)
  pub distinct : NoneDoubled (metadata_view d.metadata.now) (resolve_view d.resolve.now)
  pub features : listed_in d.features ≡ features_from 0 (map node_view d.resolve.now.nodes.items)
  pub numbered : AreNumbered d.features
  pub names : IsNameIndex (metadata_view d.metadata.now).packages (resolve_view d.resolve.now).nodes (ids_view d.ids.now).deps d.names
  pub renamed : AreRenamedIn (metadata_view d.metadata.now).packages d.ids.now.table.packages.items (resolve_view d.resolve.now).nodes (ids_view d.ids.now).deps (numbers_in d.ids.now.table.dep_numbers) (lists_in d.renamed)

-- whether the crate is a member of the workspace
abbrev pub TellsMember : Resolved → Id → Bool → Type 0
TellsMember r i is_member = MatchBool is_member (IsMember r i) (IsMember r i → ⊥)

-- a place of the package with the id, or none where the document has no such package
abbrev pub IsPackagePlace : Resolved → Id → Option ℕ → Type 0
IsPackagePlace r i answer = MatchOption answer (NoPackage r i) (PackageAt r i)

-- the package with the id, or none where the document has no such package
abbrev pub IsPackageOf : Resolved → Id → Option PackageModel → Type 0
IsPackageOf r i answer = MatchOption answer (NoPackage r i) (HasPackage r i)

-- a place of the node with the id, or none where the graph has no such node
abbrev pub IsNodePlace : Resolved → Id → Option NodePlace → Type 0
IsNodePlace r i answer = MatchOption answer (NoNode r i) (λ place. NodeAt r i place.index)

abbrev pub TellsPackage : Resolved → Id → Option (Bor Package) → Type 0
TellsPackage r i answer = IsPackageOf r i (option_map (λ pkg. package_view pkg.now) answer)

-- the look-ups are those of this document, this graph and these ids
abbrev pub IsOf : Metadata → Resolve → Ids → Lookup → Type 0
IsOf metadata resolve ids d = (d.metadata.now ≡ metadata) × (d.resolve.now ≡ resolve) × (d.ids.now ≡ ids)

-- ---- by number

-- the number of the crate, or none where it has none
abbrev pub IsNumberIn : Lookup → Id → Option ℕ → Type 0
IsNumberIn d i number = IsNumberOf (map id_of d.ids.now.table.ids.items) i number

-- the number is that of some crate, or none of one that has none
abbrev pub IsNumber : Lookup → Option ℕ → Type 0
IsNumber d number = (i : Id) × IsNumberIn d i number

-- ---- the document

-- it is this document, with its resolved graph
abbrev pub IsDocumentOf : MetadataModel → Lookup → Type 0
IsDocumentOf m d = HasGraphWith m (λ g. resolved_view d ≡ resolved m g)

-- a lifetime, which a code doesn't go by
abbrev pub at_any : NamedLft
at_any = record { mir = named 0; lft = [] }

-- the node with the id, or none if the graph has no such node
abbrev pub IsNodeOf : Resolved → Id → Option NodeModel → Type 0
IsNodeOf r i answer = MatchOption answer (NoNode r i) (HasNode r i)
