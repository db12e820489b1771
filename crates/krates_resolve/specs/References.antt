-- What a reference of an enabled feature gives at each dependency that its name means, and what is known of the crate that refers.
use Rattle.krates_selection.specs.Selection.{CountsReference, CountsText}
use Rattle.krates_cm.specs.Document.{Text}
use Rattle.krates_questions.specs.Context.{document_of, HasParts, IsDepAt}
use Rattle.krates_questions.specs.NodeEntry.{krate_of}
use Rattle.krates_resolve.specs.declared.references.Referrer.{Referrer}
use Rattle.krates_rules.specs.Facts.{Id}
use Rattle.krates_rules.specs.Referent.{IsReferent}
use Rattle.krates_rules.specs.Demands.{Demands}
use Rattle.krates_search.specs.SearchContext.{IsAskedAt, IsToggledStronglyAt, IsWaitingAt, IsReferringStep, HasEnabledReference, FindsToggled}
use Rattle.krates_search.specs.declared.search_state.SearchState.{SearchState}
use Rattle.krates_selection.specs.declared.trace.Reason.{Reason}
use Rattle.krates_text.specs.FeatureReference.{Reference, krate, simple, strong, weak, IsReference}
use Rattle.std.specs.Prelude.{ℕ, ⊤}
use Rattle.krates_questions.specs.declared.context.Context.{Context}
use Rattle.krates_search.specs.SearchState.{HasFollowed, MayToggle, HasToggled}

-- the name that a reference begins with: that of a dependency, or of a feature of its own crate
abbrev pub name_of : Reference → Text
name_of (simple g) = g
name_of (krate c) = c
name_of (strong c g) = c
name_of (weak c g) = c

-- the name is that of a dependency
abbrev pub NamesDependency : Reference → Type 0
NamesDependency (simple g) = ⊥
NamesDependency _ = ⊤

-- its node is taken apart from the document
abbrev pub HasItsParts : Referrer → Type 0
HasItsParts by = HasParts by.context by.parts.place.index by.parts

-- the dependency at this place of its node is that on the child
abbrev pub DependsAt : Referrer → Id → ℕ → Type 0
DependsAt by child index = IsDepAt by.context (krate_of by.parts) child by.parts.place.index index

-- the reference is one of its enabled feature, which was found by the step
pub record Refers (by : Referrer) (x : SearchState) (reference : Reference) : Type 0 where
  pub may : HasEnabledReference by.context (krate_of by.parts) reference
  pub has_step : IsReferringStep by.context x.trace.items by.step (krate_of by.parts) reference

-- and its name means the dependency at this place
pub record RefersTo (by : Referrer) (x : SearchState) (reference : Reference) (index : ℕ) : Type 0 where
  pub refers : Refers by x reference
  pub child : Id
  pub dep : DependsAt by child index
  pub is : (other : Id) → DependsAt by other index → IsReferent (document_of by.context) by.context.setting.now.all_named (krate_of by.parts) (name_of reference) other

-- a reference of the feature asks for the dependency at this place
pub record DemandsAt (by : Referrer) (x : SearchState) (index : ℕ) : Type 0 where
  pub reference : Reference
  pub refers : RefersTo by x reference index
  pub demands : Demands reference (name_of reference)

-- the edges by the dependency at this place have been tried
abbrev pub HasAskedAt : Referrer → SearchState → ℕ → Type 0
HasAskedAt by x index = IsAskedAt by.context x (krate_of by.parts) by.parts.place.index index

-- all that the reference gives at this place: edges are tried, and the feature is toggled where one may be kept, or waits for one
abbrev pub HasFollowedAt : Referrer → SearchState → Reference → ℕ → Type 0
HasFollowedAt by x (simple g) index = ⊤
HasFollowedAt by x (krate c) index = HasAskedAt by x index
HasFollowedAt by x (strong c g) index =
    HasAskedAt by x index × IsToggledStronglyAt by.context x (krate_of by.parts) by.parts.place.index index g
HasFollowedAt by x (weak c g) index = IsWaitingAt by.context x (krate_of by.parts) by.parts.place.index index g

-- the feature of the dependency at this place may be toggled, or is, or it follows that it is
abbrev pub MayToggleAt : Referrer → Text → ℕ → Type 0
MayToggleAt by f index = (child : Id) → DependsAt by child index → MayToggle by.context (krate_of by.parts) child f

abbrev pub HasToggledAt : Referrer → SearchState → Text → ℕ → Type 0
HasToggledAt by x f index = (child : Id) → DependsAt by child index → HasToggled by.context x (krate_of by.parts) child f

abbrev pub FindsToggledAt : Referrer → SearchState → Reason → Text → ℕ → Type 0
FindsToggledAt by x reason f index =
    (child : Id) → DependsAt by child index → FindsToggled by.context x reason (krate_of by.parts) child f

-- whatever reference the text is, it has been followed
abbrev pub HasFollowedText : Context → SearchState → Id → Text → Type 0
HasFollowedText b x i text = (reference : Reference) → IsReference text reference → HasFollowed b x i reference

-- how often a reference counts, and its text
abbrev pub CountsReferenceOf : Context → Id → Reference → ℕ → Type 0
CountsReferenceOf b = CountsReference (document_of b) b.setting.now.all_named

abbrev pub CountsTextOf : Context → Id → Text → ℕ → Type 0
CountsTextOf b = CountsText (document_of b) b.setting.now.all_named
