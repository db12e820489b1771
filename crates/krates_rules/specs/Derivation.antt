-- What has a finite derivation by the rules.
use Rattle.std.specs.Prelude.{◌≡◌, ℕ, List, [], ◌∷◌, ◌⊎◌, Contains}
use Rattle.krates_rules.specs.Facts.{Fact}
use Rattle.krates_rules.specs.Rules.{Questions, Rule}

-- one of a list of facts
abbrev pub Among : Fact → List Fact → Type 0
Among f [] = ⊥
Among f (g ∷ gs) = (f ≡ g) ⊎ Among f gs

-- There is a finite tree with the fact at its top, in which each fact follows by one rule from the facts directly below it.
pub data Derivable (q : Questions) : Fact → Type 0 where
  follows : {rule : ℕ} {premises : List Fact} {f : Fact} → Rule q rule premises f → ((g : Fact) → Among g premises → Derivable q g) → Derivable q f

-- the list has every fact that follows by one rule from facts in it
abbrev pub IsClosed : Questions → List Fact → Type 0
IsClosed q fs = (rule : ℕ) (premises : List Fact) (f : Fact) → Rule q rule premises f → ((g : Fact) → Among g premises → Contains fs g) → Contains fs f
