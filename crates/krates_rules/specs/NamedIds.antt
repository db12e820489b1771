-- The ids that a refusal names: each is read from a text of the document, and keeps all that an id shows of that text.
use Rattle.std.specs.Prelude.{List, [], ◌∷◌}
use Rattle.std.specs.List.{AllByRecursion}
use Rattle.krates_cm.specs.Document.{MetadataModel, Text}
use Rattle.krates_ids.specs.Identity.{Identity, Reads}
use Rattle.krates_ids.specs.declared.error.Error.{Error}
use Rattle.krates_ids.specs.declared.error.Error.TheVariants as errors
use Rattle.krates_ids.specs.declared.error.Lost.{Lost}
use Rattle.krates_ids.specs.declared.error.Lost.TheVariants as losts
use Rattle.krates_rules.specs.Admission.{StandsForId}
use Rattle.krates_rules.specs.Resolved.{HasGraphWith, Resolved, resolved}

-- a text of the document that must be an id is read as this one
abbrev pub IsReadOf : Resolved → Identity → Type 0
IsReadOf r id = (t : Text) × StandsForId r.metadata r.graph t × Reads t id

-- the ids of what a document lacks
abbrev pub lost_ids : Lost → List Identity
lost_ids (losts.Package id) = id ∷ []
lost_ids (losts.Node id) = id ∷ []
lost_ids (losts.Feature krate name) = krate ∷ []
lost_ids (losts.Undeclared krate dep) = krate ∷ dep ∷ []

-- the ids that a refusal names
abbrev pub named_ids : Error → List Identity
named_ids (errors.Doubled id) = id ∷ []
named_ids (errors.Lost what) = lost_ids what
named_ids _ = []

-- each of them is read of the document
abbrev pub NamesIdsOf : Resolved → Error → Type 0
NamesIdsOf r e = AllByRecursion (IsReadOf r) (named_ids e)

-- the document has a graph if an id is named, and each is read of it
abbrev pub NamesReadIds : MetadataModel → Error → Type 0
NamesReadIds m e = AllByRecursion (λ id. HasGraphWith m (λ g. IsReadOf (resolved m g) id)) (named_ids e)
