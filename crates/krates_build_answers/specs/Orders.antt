-- How the places of answers compare, and orders that tell all apart.
use Rattle.std.specs.Prelude.{◌≡◌}
use Rattle.std.specs.declared.cmp.Ordering.{Ordering}
use Rattle.std.specs.declared.cmp.Ordering.TheVariants.{Equal}
use Rattle.krates_build_answers.specs.contracts.built_crates.BuiltCrateOrd.TheImpl as built_order
use Rattle.krates_build_answers.specs.contracts.links.BuildLinkOrd.TheImpl as link_order
use Rattle.krates_build_answers.specs.declared.built_crates.BuiltCrate.{BuiltCrate}
use Rattle.krates_build_answers.specs.declared.links.BuildLink.{BuildLink}

-- what compares as equal is the same
abbrev pub TellsApart : {A : Type 0} → (A → A → Ordering) → Type 0
TellsApart {A} cmp = (x y : A) → cmp x y ≡ Equal → x ≡ y

-- by crate, and then by platform: the host, and machines by number
abbrev pub built_cmp : BuiltCrate → BuiltCrate → Ordering
built_cmp = (built_order.ghosts).cmp

-- by what needs, what is needed, and the kind
abbrev pub link_cmp : BuildLink → BuildLink → Ordering
link_cmp = (link_order.ghosts).cmp
