-- What a name means among the dependencies of a node.
use Rattle.std.specs.Prelude.{◌≡◌, ◌≢◌, ◌++◌, ℕ, Bool, List, false, Option, Some, MatchOption, Contains, map, slice_get, ⊤}
use Rattle.std.specs.declared.cmp.Ordering.TheVariants.{Greater, Less}
use Rattle.krates_cm.specs.Document.{Text, NodeDepModel, node_dep_view}
use Rattle.krates_cm.specs.declared.resolve.NodeDep.{NodeDep}
use Rattle.krates_ids.specs.Identity.{Identity, id_cmp}
use Rattle.krates_rules.specs.Resolved.{DepAt, Resolved, id_of}
use Rattle.krates_rules.specs.Referent.{AnswersTo, AreReferents, IsReferent}
use Rattle.krates_rules.specs.Facts.{Id}
use Rattle.krates_questions.specs.NodeEntry.{krate_of}
use Rattle.krates_questions.specs.declared.node_entry.NodeParts.{NodeParts}
use Rattle.krates_questions.specs.declared.referent.Referent.{Referent}

-- the dependency at this place is the least of those that the name means
pub record IsReferentAt (r : Resolved) (parts : NodeParts) (name : Text) (index : ℕ) : Type 0 where
  pub child : Identity
  pub at : slice_get parts.children.now index ≡ Some child
  pub dep : DepAt r (id_of parts.parent.now) (id_of child) parts.place.index index
  pub is : IsReferent r false (id_of parts.parent.now) name (id_of child)

-- the dependency is at its place, and the name means it
pub record IsReferentIn (r : Resolved) (all : Bool) (parts : NodeParts) (name : Text) (x : Referent) : Type 0 where
  pub at : slice_get parts.children.now x.place ≡ Some x.id.now
  pub dep : DepAt r (krate_of parts) (id_of x.id.now) parts.place.index x.place
  pub is : IsReferent r all (krate_of parts) name (id_of x.id.now)

-- the crate that is meant
abbrev pub referent_id : Referent → Id
referent_id x = id_of x.id.now

-- these are all that the name means, in the order of ids
pub record AreReferentsIn (r : Resolved) (all : Bool) (parts : NodeParts) (name : Text) (xs : List Referent) : Type 0 where
  pub each : (x : Referent) → Contains xs x → IsReferentIn r all parts name x
  pub are : AreReferents r all (krate_of parts) name (map referent_id xs)

-- the id comes before the one at the place of the list, or there is no place
abbrev pub IsBefore : List Identity → Identity → Option ℕ → Type 0
IsBefore ids id place = MatchOption place ⊤ (λ at. (there : Identity) × (slice_get ids at ≡ Some there) × (id_cmp id there ≡ Less))

-- the place of the least that the name means, or none where it means nothing
abbrev pub TellsReferent : Resolved → NodeParts → Text → Option ℕ → Type 0
TellsReferent r parts name answer =
    MatchOption answer ((child : Id) → IsReferent r false (krate_of parts) name child → ⊥) (IsReferentAt r parts name)

-- the dependency on this crate answers to the name
abbrev pub AnswersAs : Resolved → Identity → NodeDep → Text → Type 0
AnswersAs r child dep name = AnswersTo r (id_of child) (node_dep_view dep) name

-- ---- how all are found

-- the dependency at this place of the node, which has this id, answers to the name
pub record AnswersAt (r : Resolved) (parts : NodeParts) (name : Text) (k : ℕ) (child : Identity) : Type 0 where
  pub at : slice_get parts.children.now k ≡ Some child
  pub dep : NodeDepModel
  pub here : slice_get (map node_dep_view parts.deps.now) k ≡ Some dep
  pub answers : AnswersTo r (id_of child) dep name

-- these answer, and all at those places that answer are among them
pub record HasAnswering (r : Resolved) (parts : NodeParts) (name : Text) (places : List ℕ) (xs : List Referent) : Type 0 where
  pub each : (x : Referent) → Contains xs x → AnswersAt r parts name x.place x.id.now
  pub whole : (j : ℕ) (c : Identity) → Contains places j → AnswersAt r parts name j c → (x : Referent) × Contains xs x × (x.place ≡ j)

-- what answers at some places had been found, and now what answers at more places has been
abbrev pub FindsMore : Resolved → NodeParts → Text → List ℕ → List Referent → List Referent → Type 0
FindsMore r parts name these old new = (some : List ℕ) → HasAnswering r parts name some old → HasAnswering r parts name (some ++ these) new

-- ---- how the least is found

-- and its id comes before the one at a place
abbrev pub AnswersBefore : Resolved → NodeParts → Text → ℕ → Option ℕ → Type 0
AnswersBefore r parts name k place = (child : Identity) × AnswersAt r parts name k child × IsBefore parts.children.now child place

-- it is the least of these that answer
pub record IsLeastAt (r : Resolved) (parts : NodeParts) (name : Text) (these : List ℕ) (k : ℕ) : Type 0 where
  pub child : Identity
  pub answers : AnswersAt r parts name k child
  pub least : (j : ℕ) (other : Identity) → Contains these j → AnswersAt r parts name j other → id_cmp child other ≢ Greater

-- the least of these, or none of them answers
abbrev pub IsLeastOf : Resolved → NodeParts → Text → List ℕ → Option ℕ → Type 0
IsLeastOf r parts name these least =
    MatchOption least ((j : ℕ) (other : Identity) → Contains these j → AnswersAt r parts name j other → ⊥) (IsLeastAt r parts name these)

-- the least at some places is now the least at these places too
abbrev pub GoesOn : Resolved → NodeParts → Text → List ℕ → Option ℕ → Option ℕ → Type 0
GoesOn r parts name these before least = (some : List ℕ) → IsLeastOf r parts name some before → IsLeastOf r parts name (some ++ these) least
