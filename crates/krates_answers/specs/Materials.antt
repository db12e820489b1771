-- A bill of materials: the kept crates, each with those on which it depends directly.
use Rattle.std.specs.Prelude.{◌≡◌, ℕ, List, All, map}
use Rattle.krates_cm.specs.declared.package.Package.{Package}
use Rattle.krates_queries.specs.KrateNodes.{Match, crates_of, match_view}
use Rattle.krates_queries.specs.Kept.{KeptCrates}
use Rattle.krates_answers.specs.DirectLinks.{AreExactly, Needs}
use Rattle.krates_answers.specs.declared.materials.Material.{Material}

-- a crate with the numbers of those on which it depends
pub record Component (N : Type 0) : Type 0 where
  pub krate : Match N
  pub depends_on : List ℕ

-- the component that a material shows
abbrev pub material_view : Material → Component Package
material_view m = record { krate = match_view m.krate; depends_on = m.depends_on.items }

-- the numbers ascend, and are exactly those of the crates on which it depends directly
abbrev pub IsWhole : {N E : Type 0} → KeptCrates N E → Component N → Type 0
IsWhole k c = AreExactly (Needs k c.krate.number) c.depends_on

-- the kept crates, each once, by number, and so by id, each with exactly those on which it depends directly
pub record AreMaterials {N E : Type 0} (k : KeptCrates N E) (components : List (Component N)) : Type 0 where
  pub crates : map (λ c. c.krate) components ≡ crates_of k
  pub each : All (IsWhole k) components
