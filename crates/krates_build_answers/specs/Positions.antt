-- The positions of links among the crates that are built.
use Rattle.std.specs.Prelude.{◌≡◌, ◌↔◌, ℕ, List, Some, Contains, slice_get}
use Rattle.krates_build_answers.specs.Adding.{IsOfSome}
use Rattle.krates_build_answers.specs.declared.built_crates.BuiltCrate.{BuiltCrate}
use Rattle.krates_build_answers.specs.declared.links.BuildLink.{BuildLink}

-- what needs stands at the first position, and what is needed at the second
pub record StandsAt (built : List BuiltCrate) (l : BuildLink) (p : ℕ × ℕ) : Type 0 where
  pub from : slice_get built p.0 ≡ Some l.from
  pub to : slice_get built p.1 ≡ Some l.to

-- the pairs are exactly those at which some of the links stands
abbrev pub ArePositionsOf : List BuiltCrate → List BuildLink → List (ℕ × ℕ) → Type 0
ArePositionsOf built links pairs = (p : ℕ × ℕ) → Contains pairs p ↔ IsOfSome (StandsAt built) links p
