-- How all that is kept is found, step by step, from the roots on, and how much work that was.
use Rattle.krates_questions.specs.Context.{document_of, IsNodeAt, HasMember, HasRoot, Derives, IsFeatureAt}
use Rattle.krates_questions.specs.declared.context.Context.{Context}
use Rattle.krates_search.specs.declared.search_state.SearchState.{SearchState}
use Rattle.krates_rules.specs.Facts.{Id, Fact}
use Rattle.krates_rules.specs.Questions.{Stands}
use Rattle.krates_rules.specs.Resolved.{id_of}
use Rattle.krates_graph.specs.Agenda.{PutNumbers}
use Rattle.krates_ids.specs.Identity.{Identity}
use Rattle.std.specs.Prelude.{◌≡◌, Contains, ℕ, length, ◌↔◌, ◌+◌, ◌-◌, ◌<◌, ◌≤◌, Bool, MatchBool, Some, slice_get, List}
use Rattle.krates_search.specs.SearchContext.{IsRead}
use Rattle.krates_search.specs.SearchState.{HasRooted, HasFound, HasRoots, HasExpanded, HasFollowedReferences, IsSound}
use Rattle.krates_cm.specs.Document.{Text}
use Rattle.std.specs.List.{sum}
use Rattle.krates_selection.specs.Selection.{HasReferences, counted}
use Rattle.krates_selection.specs.declared.work.Work.{Work}

-- ---- the roots

-- where the crate is a root, all that a root gives is in it
abbrev pub HasRootedRoot : Context → SearchState → Id → Type 0
HasRootedRoot b x i = HasRoot b i → HasRooted b x i

-- the agenda has room for each node, and all that a root gives is in it for the crate of each node that was put
pub record HasRootedEach (b : Context) (x : SearchState) (places : PutNumbers) : Type 0 where
  pub size : places.size ≡ length (document_of b).graph.nodes
  pub each : (place : ℕ) (krate : Id) → Contains places.put place → IsNodeAt b krate place → HasRooted b x krate

-- it is that of a member, or of a root
abbrev pub IsMemberOf : Context → Identity → Type 0
IsMemberOf b id = HasMember b (id_of id) × IsRead b id

abbrev pub IsRootOf : Context → Identity → Type 0
IsRootOf b id = HasRoot b (id_of id) × IsRead b id

-- the crate is a root that stands
abbrev pub IsStandingRoot : Context → Id → Type 0
IsStandingRoot b i = HasRoot b i × Stands (document_of b) b.setting.now i

-- what was found is right and has the roots, and what was taken has been expanded, and its references followed
pub record HasDone (b : Context) (x : SearchState) : Type 0 where
  pub sound : IsSound b x
  pub roots : HasRoots b x
  pub expanded : (k place : ℕ) (i : Id) → k < x.krates.taken → slice_get x.krates.put k ≡ Some place → IsNodeAt b i place → HasExpanded b x i
  pub followed_all : (k number : ℕ) (i : Id) (f : Text) → k < x.features.taken → slice_get x.features.put k ≡ Some number → IsFeatureAt b i f number → HasFollowedReferences b x i f
  -- no more were taken than put
  pub krates_within : x.krates.taken ≤ length x.krates.put
  pub features_within : x.features.taken ≤ length x.features.put

-- how many are left to be taken at most
abbrev pub left_in : SearchState → ℕ
left_in x = (x.krates.size - x.krates.taken) + (x.features.size - x.features.taken)

-- one more was taken, or none is left
abbrev pub TakesNext : Context → SearchState → SearchState → Bool → Type 0
TakesNext b old new more =
    HasDone b new × MatchBool more (left_in new < left_in old) ((length new.krates.put ≤ new.krates.taken) × (length new.features.put ≤ new.features.taken))

-- exactly the derivable facts have been found
abbrev pub HasExactly : Context → SearchState → Type 0
HasExactly b x = (f : Fact) → Derives b f ↔ HasFound b x f

-- ---- how much work it was

-- the feature of the number has this many references
abbrev pub NumberHasReferences : Context → ℕ → ℕ → Type 0
NumberHasReferences b number n = (i : Id) (f : Text) → IsFeatureAt b i f number → HasReferences (document_of b) b.setting.now i f n

-- the feature that was taken has this many references, counted
pub record TakenHasReferences (b : Context) (taken n : ℕ) : Type 0 where
  pub number : ℕ
  pub has : NumberHasReferences b taken number
  pub count : n ≡ counted number

-- the features that were taken have this many references together
pub record HaveTakenReferences (b : Context) (x : SearchState) (n : ℕ) : Type 0 where
  pub counts : List ℕ
  pub long : length counts ≡ x.features.taken
  pub each : (k number m : ℕ) → slice_get x.features.put k ≡ Some number → slice_get counts k ≡ Some m → NumberHasReferences b number m
  pub total : n ≡ sum counts

-- each crate and each feature that was taken is counted, and so are the references of these features
pub record HasCounted (b : Context) (x : SearchState) (work : Work) : Type 0 where
  pub krates : work.krates ≡ counted x.krates.taken
  pub features : work.features ≡ counted x.features.taken
  pub references : (n : ℕ) × HaveTakenReferences b x n × (work.references ≡ counted n)

-- each crate and each feature that was put is counted, and so are the references of these features
pub record HasCountedAll (b : Context) (x : SearchState) (work : Work) : Type 0 where
  pub counted : HasCounted b x work
  pub krates : x.krates.taken ≡ length x.krates.put
  pub features : x.features.taken ≡ length x.features.put
