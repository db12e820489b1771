-- What a search is made against, a document and a setting, in words of the document.
use Rattle.krates_cm.specs.Document.{DependencyModel, Text, dep_kind_info_view}
use Rattle.krates_ids.specs.declared.error.Error.{Error}
use Rattle.krates_questions.specs.Lookup.{resolved_view}
use Rattle.krates_questions.specs.NodeEntry.{AreParts, IsEntry, declared_in, edge_of, entry_of}
use Rattle.krates_questions.specs.FeatureTable.{FeatureAt}
use Rattle.krates_questions.specs.declared.node_entry.EntryEdge.{EntryEdge}
use Rattle.krates_questions.specs.declared.node_entry.NodeEntry.{NodeEntry}
use Rattle.krates_questions.specs.declared.node_entry.NodeParts.{NodeParts}
use Rattle.krates_questions.specs.DocumentAnswers.{AsksFor}
use Rattle.krates_questions.specs.declared.context.Context.{Context}
use Rattle.krates_rules.specs.DeclaredDependency.{IsDeclared}
use Rattle.krates_rules.specs.Derivation.{Derivable}
use Rattle.krates_rules.specs.Facts.{Edge, Fact, Id}
use Rattle.krates_rules.specs.Features.{ListsFeature}
use Rattle.krates_rules.specs.NamedIds.{NamesIdsOf}
use Rattle.krates_rules.specs.Questions.{IsWanted, questions}
use Rattle.krates_rules.specs.Resolved.{DepAt, IsMember, NodeAt, Resolved}
use Rattle.krates_rules.specs.Roots.{IsRoot}
use Rattle.krates_rules.specs.Rules.{Questions}
use Rattle.krates_rules.specs.SelectionRefusals.{SelectionRefusal}
use Rattle.std.specs.Prelude.{Bool, ℕ}

abbrev pub document_of : Context → Resolved
document_of b = resolved_view b.document.now

abbrev pub rules_of : Context → Questions
rules_of b = questions (document_of b) b.setting.now

-- the fact is derivable
abbrev pub Derives : Context → Fact → Type 0
Derives b = Derivable (rules_of b)

-- why nothing is selected; the ids that are named are read from the document
abbrev pub Refuses : Context → Error → Type 0
Refuses b e = SelectionRefusal (rules_of b) e × NamesIdsOf (document_of b) e

-- the crate's node is at the place
abbrev pub IsNodeAt : Context → Id → ℕ → Type 0
IsNodeAt b = NodeAt (document_of b)

-- the dependency of the node at these places leads from the one crate to the other
abbrev pub IsDepAt : Context → Id → Id → ℕ → ℕ → Type 0
IsDepAt b = DepAt (document_of b)

-- the number is that of the crate's feature
abbrev pub IsFeatureAt : Context → Id → Text → ℕ → Type 0
IsFeatureAt b = FeatureAt (document_of b)

-- the crate lists the feature
abbrev pub Lists : Context → Id → Text → Type 0
Lists b = ListsFeature (document_of b)

-- the crate is a member of the workspace
abbrev pub HasMember : Context → Id → Type 0
HasMember b = IsMember (document_of b)

-- the crate is a root
abbrev pub HasRoot : Context → Id → Type 0
HasRoot b = IsRoot (document_of b) b.setting.now

-- the setting asks for all members, or for those with its manifests
abbrev pub AsksForRoots : Context → Bool → Type 0
AsksForRoots b = AsksFor (document_of b) b.setting.now

-- the entry is one of the document
abbrev pub HasEntry : Context → NodeEntry → Type 0
HasEntry b = IsEntry (document_of b)

-- the parts are those of the node at the place
abbrev pub HasParts : Context → ℕ → NodeParts → Type 0
HasParts b = AreParts (document_of b)

-- the edge is wanted as this declared dependency
abbrev pub Wants : Context → Edge → DependencyModel → Type 0
Wants b = IsWanted (document_of b) b.setting.now

-- the edge of an entry is wanted as the declared dependency at this place
abbrev pub IsWantedAt : Context → EntryEdge → ℕ → Type 0
IsWantedAt b x place =
    (d : DependencyModel) × IsDeclared (declared_in x.entry.now) (entry_of x.entry.now) (dep_kind_info_view x.info.now) place d × Wants b (edge_of x) d
