-- A text of the stable form, split into its parts.
use Rattle.std.specs.Prelude.{◌≡◌, ℕ, ◌+◌, ◌∷◌, ◌++◌, length, Option, MatchOption}
use Rattle.std.specs.Borrow.{Bor}
use Rattle.krates_cm.specs.Document.{Text}
use Rattle.krates_text.specs.Cuts.{FirstCut, Has}
use Rattle.krates_ids.specs.Identity.{NameInLeft, IsVersionAlone, IsGitQuery, IsSource}
use Rattle.krates_ids.specs.Separators.{hash_sign, percent_sign, at_sign}
use Rattle.krates_ids.specs.Spans.{StandsAt}

-- the name is in the left part after its last '/', which is at this place
pub record StandsInLeft (left name : Text) (start : ℕ) : Type 0 where
  pub found : NameInLeft left name
  pub start_is : start ≡ length found.before + 1

-- the name in a left part, where it has one
abbrev pub FindsName : Text → Option (ℕ × Bor Text) → Type 0
FindsName left r = MatchOption r ((name : Text) → NameInLeft left name → ⊥) (λ p. StandsInLeft left p.1.now p.0)

-- the parts of the fragment, and the place of a name that is in the left part
abbrev pub TellsName : Text → Text → Text → Text → Option ℕ → Type 0
TellsName left fragment name version place =
    MatchOption place (FirstCut at_sign fragment name version) (λ start. IsVersionAlone left fragment name version × StandsInLeft left name start)

-- the text is a source, '#' and the fragment, and a name that is in the left part is at the same place in the source
pub record IsWithSource (t source fragment name version : Text) (place : Option ℕ) : Type 0 where
  pub is : t ≡ source ++ hash_sign ∷ fragment
  pub named : MatchOption place (FirstCut at_sign fragment name version) (λ start. (version ≡ fragment) × StandsAt source name start)

-- the query that has to be decoded, and the part before its '?'; else the source is the left part as it is written
abbrev pub FindsEscapedQuery : Text → Option (Bor Text × Bor Text) → Type 0
FindsEscapedQuery left r = MatchOption r (IsSource left left) (λ p. IsGitQuery left p.0.now p.1.now × Has percent_sign p.1.now)
