-- Packages with their ids, and how they are divided into the selected ones and the others.
use Rattle.std.specs.Prelude.{Bool, List, Contains, map}
use Rattle.std.specs.List.{list_any, zip}
use Rattle.std.specs.Ordering.{is_eq, on}
use Rattle.std.specs.declared.cmp.Ordering.{Ordering}
use Rattle.krates_cm.specs.declared.package.Package.{Package}
use Rattle.krates_drawing.specs.declared.outline.CrateRow.{CrateRow}
use Rattle.krates_ids.specs.Identity.{Identity, id_cmp}
use Rattle.krates_rules.specs.Facts.{Id}
use Rattle.krates_rules.specs.Resolved.{id_of}
use Rattle.krates_drawing.specs.Listed.{AreThosePackages}
use Rattle.krates_drawing.specs.declared.division.Division.{Division}
use Rattle.krates_drawing.specs.declared.division.Krate.{Krate}

-- the order of crates, by id
abbrev pub krate_cmp : Krate → Krate → Ordering
krate_cmp = on (λ k. k.id) id_cmp

abbrev pub krate_ids : List Krate → List Identity
krate_ids krates = map (λ k. k.id) krates

-- the packages of these crates
abbrev pub krate_packages : List Krate → List Package
krate_packages krates = map (λ k. k.pkg) krates

-- each package with the id at its place
abbrev pub paired : List Package → List Identity → List Krate
paired packages ids = map (λ pair. record { id = pair.1; pkg = pair.0 }) (zip packages ids)

-- the ids of the crates of an outline
abbrev pub outline_ids : List CrateRow → List Identity
outline_ids krates = map (λ k. k.id) krates

-- the id is one of the list
abbrev pub IsAmong : List Identity → Id → Type 0
IsAmong ids i = Contains (map id_of ids) i

-- whether an id of the list compares as equal to this one
abbrev pub has_same : List Identity → Identity → Bool
has_same ids id = list_any (λ i. is_eq (id_cmp i id)) ids

-- whether the crate's id is one of the list
abbrev pub is_selected : List Identity → Krate → Bool
is_selected ids k = has_same ids k.id

-- The packages with a selected id, and those without.
pub record IsDivision (packages : List Package) (selected : List Identity) (d : Division) : Type 0 where
  pub kept : AreThosePackages packages (IsAmong selected) (krate_ids d.kept.items) (krate_packages d.kept.items)
  pub others : AreThosePackages packages (λ i. IsAmong selected i → ⊥) (krate_ids d.others.items) (krate_packages d.others.items)
