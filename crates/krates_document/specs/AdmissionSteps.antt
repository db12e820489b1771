-- How a document is found to be admitted or refused, step by step.
use Rattle.std.specs.Prelude.{string_bytes, ⊤, List, Contains, ◌≡◌, ◌⊎◌, None}
use Rattle.krates_cm.specs.Document.{ResolveModel, MetadataModel, Text, NodeModel}
use Rattle.krates_ids.specs.declared.error.Error.{Error}
use Rattle.krates_ids.specs.declared.error.Error.TheVariants as errors
use Rattle.krates_rules.specs.Admission.{IsInvalidId, dep_texts, IdsModel}
use Rattle.krates_ids.specs.Identity.{Identity, Reads}
use Rattle.krates_cm.specs.Names.{version_named}
use Rattle.krates_rules.specs.DistinctIds.{IsDoubledAmong, AreDistinct}
use Rattle.krates_rules.specs.Resolved.{id_of}
use Rattle.std.specs.List.{AllByRecursion}

-- an id is invalid, and `P` holds of its text; memory may always run out
abbrev pub IsInvalidBy : (Text → Type 0) → Error → Type 0
IsInvalidBy P (errors.InvalidId t) = P (string_bytes t)
IsInvalidBy P errors.Memory = ⊤
IsInvalidBy P _ = ⊥

-- an id of the document is invalid
abbrev pub InvalidIdRefusal : MetadataModel → ResolveModel → Error → Type 0
InvalidIdRefusal m g = IsInvalidBy (IsInvalidId m g)

-- the text isn't an id
abbrev pub IsNoId : Text → Type 0
IsNoId t = (i : Identity) → Reads t i → ⊥

-- one of the texts isn't an id
abbrev pub UnreadRefusal : List Text → Error → Type 0
UnreadRefusal texts = IsInvalidBy (λ t. Contains texts t × IsNoId t)

-- the text isn't an id, or is one of a dependency without a semantic version
abbrev pub IsBadText : Text → Type 0
IsBadText t = IsNoId t ⊎ ((i : Identity) × Reads t i × (version_named i.version ≡ None))

-- one of the texts is bad
abbrev pub InvalidDepRefusal : List Text → Error → Type 0
InvalidDepRefusal texts = IsInvalidBy (λ t. Contains texts t × IsBadText t)

-- a dependency of one of the nodes has a bad id
abbrev pub InvalidNodeRefusal : List NodeModel → Error → Type 0
InvalidNodeRefusal nodes = IsInvalidBy (λ t. (n : NodeModel) × Contains nodes n × Contains (dep_texts n) t × IsBadText t)

-- an id is doubled, and `P` holds of it; memory may always run out
abbrev pub IsDoubledBy : (Identity → Type 0) → Error → Type 0
IsDoubledBy P (errors.Doubled kid) = P kid
IsDoubledBy P errors.Memory = ⊤
IsDoubledBy P _ = ⊥

-- this id of the list is at two places of it
abbrev pub HasDoubled : List Identity → Identity → Type 0
HasDoubled ids kid = Contains ids kid × IsDoubledAmong ids (id_of kid)

abbrev pub DoubledRefusal : List Identity → Error → Type 0
DoubledRefusal ids = IsDoubledBy (HasDoubled ids)

-- this id occurs twice in one of the lists
abbrev pub DoubledInRefusal : List (List Identity) → Error → Type 0
DoubledInRefusal lists = IsDoubledBy (λ kid. (ids : List Identity) × Contains lists ids × HasDoubled ids kid)

pub record AreAllDistinct (ids : IdsModel) : Type 0 where
  pub packages : AreDistinct ids.packages
  pub nodes : AreDistinct ids.nodes
  pub deps : AllByRecursion AreDistinct ids.deps

-- this id occurs twice among the packages, the nodes, or the dependencies of a node
pub data IsDoubledWithin (ids : IdsModel) (kid : Identity) : Type 0 where
  among_packages : HasDoubled ids.packages kid → IsDoubledWithin ids kid
  among_nodes : HasDoubled ids.nodes kid → IsDoubledWithin ids kid
  among_deps : (list : List Identity) → Contains ids.deps list → HasDoubled list kid → IsDoubledWithin ids kid

abbrev pub DoubledWithinRefusal : IdsModel → Error → Type 0
DoubledWithinRefusal ids = IsDoubledBy (IsDoubledWithin ids)
