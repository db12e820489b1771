-- A text of the opaque form, split into its parts.
use Rattle.std.specs.Prelude.{◌≡◌, ◌++◌, Option, MatchOption}
use Rattle.std.specs.Borrow.{Bor}
use Rattle.krates_cm.specs.Document.{Text}
use Rattle.krates_ids.specs.Identity.{IsOpaqueEnd, IsOpaqueForm}
use Rattle.krates_ids.specs.Spans.{part, AreSpans}
use Rattle.krates_ids.specs.declared.span.Parts.{Parts}

-- what follows the opening parenthesis: the source and the end
pub record IsBody (t body source : Text) : Type 0 where
  pub end : Text
  pub is : body ≡ source ++ end
  pub ends : IsOpaqueEnd t end

-- the source in a body, where there is one
abbrev pub FindsSource : Text → Text → Option (Bor Text) → Type 0
FindsSource t body r = MatchOption r ((source : Text) → IsBody t body source → ⊥) (λ source. IsBody t body source.now)

-- the spans mark the parts of a text of the opaque form
pub record MarksOpaque (t : Text) (parts : Parts) : Type 0 where
  pub placed : AreSpans t parts
  pub form : IsOpaqueForm t (part t parts.name) (part t parts.version) (part t parts.source)

-- the parts of a text of the opaque form, where it is one
abbrev pub GivesOpaqueParts : Text → Option Parts → Type 0
GivesOpaqueParts t r = MatchOption r ((name version source : Text) → IsOpaqueForm t name version source → ⊥) (MarksOpaque t)
