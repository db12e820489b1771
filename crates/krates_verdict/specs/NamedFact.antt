-- Facts that are named by the id texts of a document's packages, and whether the document has what a fact speaks of.
use Rattle.std.specs.Prelude.{◌≡◌, [], ◌∷◌, Contains, List, option_map, ⊤}
use Rattle.std.specs.List.{AllByRecursion}
use Rattle.krates_cm.specs.Document.{MetadataModel, NodeDepModel, Text, id_view, text_view}
use Rattle.krates_rules.specs.Admission.{package_texts}
use Rattle.krates_rules.specs.Facts.{Crate, Edge, Fact, Feature, Id, Kept, Lost, Toggled}
use Rattle.krates_rules.specs.Features.{ListsFeature}
use Rattle.krates_rules.specs.Kind.{written_of}
use Rattle.krates_rules.specs.Questions.{ListsEdge}
use Rattle.krates_rules.specs.Resolved.{HasGraphWith, ReadsAs, Resolved, resolved}
use Rattle.krates_verdict.specs.declared.named_fact.NamedFact.{NamedFact}
use Rattle.krates_verdict.specs.declared.named_fact.NamedFact.TheVariants as named

-- ---- what is named

-- It names this fact: its id texts are read as the crates, and what else it says is the same.
abbrev pub Names : NamedFact → Fact → Type 0
Names (named.Crate krate) (Crate i) = ReadsAs (id_view krate) i
Names (named.Feature krate name) (Feature i feature) = ReadsAs (id_view krate) i × (text_view name ≡ feature)
Names (named.Kept parent child kind cfg) (Kept e) =
    ReadsAs (id_view parent) e.parent × (ReadsAs (id_view child) e.child × ((written_of kind ≡ e.kind) × (option_map text_view cfg ≡ e.cfg)))
Names (named.Toggled parent child name) (Toggled by krate feature) = ReadsAs (id_view parent) by × (ReadsAs (id_view child) krate × (text_view name ≡ feature))
Names _ _ = ⊥

-- its id texts
abbrev pub id_texts : NamedFact → List Text
id_texts (named.Crate krate) = id_view krate ∷ []
id_texts (named.Feature krate name) = id_view krate ∷ []
id_texts (named.Kept parent child kind cfg) = id_view parent ∷ id_view child ∷ []
id_texts (named.Toggled parent child name) = id_view parent ∷ id_view child ∷ []

-- It names the fact as the document does: by the id texts of its packages.
pub record NamesIn (m : MetadataModel) (f : Fact) (fact : NamedFact) : Type 0 where
  pub names : Names fact f
  pub own : AllByRecursion (Contains (package_texts m)) (id_texts fact)

-- ---- what the document has

-- the id text of a package is read as this id
abbrev pub IsOfPackage : MetadataModel → Id → Type 0
IsOfPackage m i = (text : Text) × Contains (package_texts m) text × ReadsAs text i

-- a node of the graph lists the edge
abbrev pub IsListed : Resolved → Edge → Type 0
IsListed r e = (d : NodeDepModel) × ListsEdge r e d

-- The document has what the fact speaks of: packages with its ids, a node of its crate that lists its feature, or its edge with this
-- kind and target.
abbrev pub HasSpoken : Resolved → Fact → Type 0
HasSpoken r (Crate i) = IsOfPackage r.metadata i
HasSpoken r (Feature i feature) = IsOfPackage r.metadata i × ListsFeature r i feature
HasSpoken r (Kept e) = IsOfPackage r.metadata e.parent × (IsOfPackage r.metadata e.child × IsListed r e)
HasSpoken r (Toggled by i feature) = IsOfPackage r.metadata by × (IsOfPackage r.metadata i × ListsFeature r i feature)
HasSpoken r (Lost cause) = ⊤

-- the document has a graph, and with it what the fact speaks of
abbrev pub IsAbout : MetadataModel → Fact → Type 0
IsAbout m f = HasGraphWith m (λ g. HasSpoken (resolved m g) f)
