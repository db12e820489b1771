-- The words for the parts of a fact: what the tables call what has a number or a place, and nothing where they lack it.
use Rattle.std.specs.Prelude.{◌≡◌, ℕ, Option, Some, None, codes, option_and_then, option_map, slice_get, string_bytes}
use Rattle.std.specs.Option.{option_map_or}
use Rattle.krates_cm.specs.Document.{Text}
use Rattle.krates_text.specs.FeatureReference.{Reference, krate, weak, strong, simple}
use Rattle.krates_build_facts.specs.declared.facts.PlatformNumber.{PlatformNumber}
use Rattle.krates_build_facts.specs.declared.facts.PlatformNumber.TheVariants as platforms
use Rattle.krates_build_tables.specs.declared.tables.Lacking.{Lacking}
use Rattle.krates_build_tables.specs.declared.tables.Link.{Link}
use Rattle.krates_build_tables.specs.declared.tables.LinkPlace.{LinkPlace}
use Rattle.krates_build_tables.specs.declared.tables.TargetEntry.{TargetEntry}
use Rattle.krates_build_tables.specs.declared.tables.TargetPlace.{TargetPlace}
use Rattle.krates_units.specs.Machines.{machine_view}
use Rattle.krates_build_naming.specs.NamedParts.{ReferenceNames}
use Rattle.krates_build_naming.specs.NamedPlaces.{entry_in}
use Rattle.krates_build_naming.specs.PartTexts.{kind_text, target_kinds_text, target_text}
use Rattle.krates_build_naming.specs.declared.names.FactNames.{FactNames}
use Rattle.krates_build_naming.specs.declared.written_parts.WrittenDependency.{WrittenDependency}
use Rattle.krates_build_naming.specs.declared.written_parts.WrittenReference.{WrittenReference}
use Rattle.krates_build_naming.specs.declared.written_parts.WrittenTarget.{WrittenTarget}

-- the id text of a crate
abbrev pub crate_text : FactNames → ℕ → Text
crate_text n number = option_map_or (λ id. id.text) (slice_get n.ids.now number) (codes "")

-- the triple of a machine
abbrev pub machine_text : FactNames → ℕ → Text
machine_text n number = option_map_or (λ m. (machine_view m.now).triple) (slice_get n.tables.now.machines.items number) (codes "")

abbrev pub platform_text : FactNames → PlatformNumber → Text
platform_text n platforms.Host = codes "host"
platform_text n (platforms.Machine number) = machine_text n number

-- a reference, whose feature is empty where it names none of a dependency
abbrev pub reference_texts : Reference → ReferenceNames
reference_texts (krate name) = record { form = codes "dep"; name = name; feature = codes "" }
reference_texts (weak name feature) = record { form = codes "weak"; name = name; feature = feature }
reference_texts (strong name feature) = record { form = codes "strong"; name = name; feature = feature }
reference_texts (simple name) = record { form = codes "feature"; name = name; feature = codes "" }

pub record AreReferenceTexts (v : WrittenReference) (texts : ReferenceNames) : Type 0 where
  pub form : v.form.now ≡ texts.form
  pub name : v.name.now ≡ texts.name
  pub feature : v.feature.now ≡ texts.feature

-- ---- links

-- the words for the other crate, the kind, the target text and the name of a dependency
pub record DependencyTexts : Type 0 where
  pub child : Text
  pub kind : Text
  pub target : Text
  pub name : Text

pub record AreDependencyTexts (d : WrittenDependency) (texts : DependencyTexts) : Type 0 where
  pub child : d.child.now ≡ texts.child
  pub kind : d.kind.now ≡ texts.kind
  pub target : d.target.now ≡ texts.target
  pub name : d.name.now ≡ texts.name

abbrev pub no_dependency : DependencyTexts
no_dependency = record { child = codes ""; kind = codes ""; target = codes ""; name = codes "" }

abbrev pub texts_of_link : FactNames → Link → DependencyTexts
texts_of_link n l = record {
  child = crate_text n l.child;
  kind = kind_text l.kind;
  target = target_text (option_map (λ t. t.now) l.cfg);
  name = l.name.now;
}

abbrev pub link_in : FactNames → LinkPlace → Option Link
link_in n place = option_and_then (λ e. slice_get e.links.items place.index) (entry_in n place.krate)

abbrev pub link_texts : FactNames → LinkPlace → DependencyTexts
link_texts n place = option_map_or (texts_of_link n) (link_in n place) no_dependency

-- ---- what is lacking

-- it has no other crate
abbrev pub texts_of_lacking : Lacking → DependencyTexts
texts_of_lacking x = record {
  child = codes "";
  kind = kind_text x.kind;
  target = target_text (option_map string_bytes x.declared.now.target);
  name = x.name.now;
}

abbrev pub lacking_in : FactNames → ℕ → ℕ → Option Lacking
lacking_in n number index = option_and_then (λ e. slice_get e.lacking.items index) (entry_in n number)

abbrev pub lacking_texts : FactNames → ℕ → ℕ → DependencyTexts
lacking_texts n number index = option_map_or texts_of_lacking (lacking_in n number index) no_dependency

-- ---- targets

-- the words for the kinds and the name of a target
pub record TargetTexts : Type 0 where
  pub kind : Text
  pub name : Text

pub record AreTargetTexts (x : WrittenTarget) (texts : TargetTexts) : Type 0 where
  pub kind : x.kind.now ≡ texts.kind
  pub name : x.name.now ≡ texts.name

abbrev pub no_target : TargetTexts
no_target = record { kind = codes ""; name = codes "" }

abbrev pub texts_of_target : TargetEntry → TargetTexts
texts_of_target x = record { kind = target_kinds_text x.target.now.kind.items; name = string_bytes x.target.now.name }

abbrev pub target_in : FactNames → TargetPlace → Option TargetEntry
target_in n place = option_and_then (λ e. slice_get e.targets.items place.index) (entry_in n place.krate)

abbrev pub target_texts : FactNames → TargetPlace → TargetTexts
target_texts n place = option_map_or texts_of_target (target_in n place) no_target
