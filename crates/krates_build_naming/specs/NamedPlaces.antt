-- Which number or place words name, in the tables of a document and a build: the first that they fit.
use Rattle.std.specs.Prelude.{◌≡◌, ◌==◌, ◌&&◌, ℕ, Bool, Option, Some, List, bytes_eq, codes, if◌then◌else◌, option_and_then, option_map, position, slice_get, string_bytes}
use Rattle.krates_cm.specs.Document.{Text}
use Rattle.krates_build_tables.specs.declared.tables.CrateEntry.{CrateEntry}
use Rattle.krates_build_tables.specs.declared.tables.Lacking.{Lacking}
use Rattle.krates_build_tables.specs.declared.tables.Link.{Link}
use Rattle.krates_build_tables.specs.declared.tables.LinkPlace.{LinkPlace}
use Rattle.krates_build_tables.specs.declared.tables.TargetEntry.{TargetEntry}
use Rattle.krates_build_tables.specs.declared.tables.TargetPlace.{TargetPlace}
use Rattle.krates_build_facts.specs.declared.facts.PlatformNumber.{PlatformNumber}
use Rattle.krates_build_facts.specs.declared.facts.PlatformNumber.TheVariants as platforms
use Rattle.krates_units.specs.Machines.{machine_view}
use Rattle.krates_build_naming.specs.PartTexts.{kind_text, target_text, target_kinds_text}
use Rattle.krates_build_naming.specs.declared.links.CalledLink.{CalledLink}
use Rattle.krates_build_naming.specs.declared.links.CalledLacking.{CalledLacking}
use Rattle.krates_build_naming.specs.declared.names.FactNames.{FactNames}
use Rattle.krates_build_naming.specs.declared.places.CalledTarget.{CalledTarget}

-- the crate with this id text
unfoldable pub crate_named : FactNames → Text → Option ℕ
crate_named n word = position (λ id. bytes_eq id.text word) n.ids.now

-- the entry of the crate with this number
abbrev pub entry_in : FactNames → ℕ → Option CrateEntry
entry_in n number = slice_get n.tables.now.crates.items number

-- the host, or the machine with this triple
unfoldable pub platform_named : FactNames → Text → Option PlatformNumber
platform_named n word =
    if bytes_eq word (codes "host") then Some platforms.Host
    else option_map (λ k. platforms.Machine k) (position (λ m. bytes_eq (machine_view m.now).triple word) n.tables.now.machines.items)

-- ---- links

-- a link by its crates, and the words for its kind, its target text and its name
pub record LinkNames : Type 0 where
  pub parent : ℕ
  pub child : ℕ
  pub kind : Text
  pub target : Text
  pub name : Text

abbrev pub link_names : CalledLink → LinkNames
link_names c = record { parent = c.parent; child = c.child; kind = c.kind.now; target = c.target.now; name = c.name.now }

abbrev pub fits_link : LinkNames → Link → Bool
fits_link c l = l.child == c.child && bytes_eq (kind_text l.kind) c.kind && bytes_eq (target_text (option_map (λ t. t.now) l.cfg)) c.target
    && bytes_eq l.name.now c.name

unfoldable pub link_named : FactNames → LinkNames → Option LinkPlace
link_named n c = option_and_then (λ e. option_map (λ k. record { krate = c.parent; index = k }) (position (fits_link c) e.links.items)) (entry_in n c.parent)

-- ---- what is lacking

-- a dependency that is lacking, by its crate and the words for its kind, its target text and its name
pub record LackingNames : Type 0 where
  pub krate : ℕ
  pub kind : Text
  pub target : Text
  pub name : Text

abbrev pub lacking_names : CalledLacking → LackingNames
lacking_names c = record { krate = c.krate; kind = c.kind.now; target = c.target.now; name = c.name.now }

abbrev pub fits_lacking : LackingNames → Lacking → Bool
fits_lacking c x = bytes_eq (kind_text x.kind) c.kind && bytes_eq (target_text (option_map string_bytes x.declared.now.target)) c.target
    && bytes_eq x.name.now c.name

-- its place among those of its crate
unfoldable pub lacking_named : FactNames → LackingNames → Option ℕ
lacking_named n c = option_and_then (λ e. position (fits_lacking c) e.lacking.items) (entry_in n c.krate)

-- ---- targets

-- a target by its crate, and the words for its kinds and its name
pub record TargetNames : Type 0 where
  pub krate : ℕ
  pub kind : Text
  pub name : Text

abbrev pub target_names : CalledTarget → TargetNames
target_names c = record { krate = c.krate; kind = c.kind.now; name = c.name.now }

abbrev pub fits_target : TargetNames → TargetEntry → Bool
fits_target c x = bytes_eq (target_kinds_text x.target.now.kind.items) c.kind && bytes_eq (string_bytes x.target.now.name) c.name

unfoldable pub target_named : FactNames → TargetNames → Option TargetPlace
target_named n c = option_and_then (λ e. option_map (λ k. record { krate = c.krate; index = k }) (position (fits_target c) e.targets.items)) (entry_in n c.krate)
