-- What the words of a fact name from a place on: the parts of a fact, each in as many words as it needs.
use Rattle.std.specs.Prelude.{◌+◌, ℕ, List, slice_get}
use Rattle.krates_cm.specs.Document.{Text}
use Rattle.krates_text.specs.FeatureReference.{Reference}
use Rattle.krates_build_facts.specs.declared.facts.PlacementNumber.{PlacementNumber}
use Rattle.krates_build_facts.specs.declared.facts.PlatformNumber.{PlatformNumber}
use Rattle.krates_build_facts.specs.declared.facts.UnitPlace.{UnitPlace}
use Rattle.krates_build_tables.specs.declared.tables.LinkPlace.{LinkPlace}
use Rattle.krates_build_tables.specs.declared.tables.TargetPlace.{TargetPlace}
use Rattle.krates_units.specs.declared.kinds.Mode.{Mode}
use Rattle.krates_units.specs.declared.sides.Meeting.{Meeting}
use Rattle.krates_units.specs.declared.sides.Side.{Side}
use Rattle.krates_build_naming.specs.NamedPlaces.{LinkNames, LackingNames, TargetNames, crate_named, link_named, lacking_named, platform_named, target_named}
use Rattle.krates_build_naming.specs.Naming.{Naming, ◌<*>◌, by_word, found_or, name_of, refused, then_by}
use Rattle.krates_build_naming.specs.PartTexts.{meeting_named, mode_named, reference_named, side_named}
use Rattle.krates_build_naming.specs.declared.names.FactNames.{FactNames}
use Rattle.krates_build_naming.specs.declared.names.NameFault.TheVariants as faults

-- ---- one word

unfoldable pub word_at : ℕ → List Text → Naming Text
word_at k ws = found_or (faults.Missing k) (slice_get ws k)

unfoldable pub crate_at : FactNames → ℕ → List Text → Naming ℕ
crate_at n k ws = by_word (faults.Missing k) (λ w. found_or (faults.Crate k) (crate_named n w)) (slice_get ws k)

unfoldable pub meeting_at : ℕ → List Text → Naming Meeting
meeting_at k ws = by_word (faults.Missing k) (λ w. found_or (faults.Meeting k) (meeting_named w)) (slice_get ws k)

unfoldable pub side_at : ℕ → List Text → Naming Side
side_at k ws = by_word (faults.Missing k) (λ w. found_or (faults.Side k) (side_named w)) (slice_get ws k)

unfoldable pub mode_at : ℕ → List Text → Naming Mode
mode_at k ws = by_word (faults.Missing k) (λ w. found_or (faults.Mode k) (mode_named w)) (slice_get ws k)

unfoldable pub platform_at : FactNames → ℕ → List Text → Naming PlatformNumber
platform_at n k ws = by_word (faults.Missing k) (λ w. found_or (faults.Platform k) (platform_named n w)) (slice_get ws k)

-- ---- several words

-- a form, a name, and a feature
pub record ReferenceNames : Type 0 where
  pub form : Text
  pub name : Text
  pub feature : Text

abbrev pub reference_words : ℕ → List Text → Naming ReferenceNames
reference_words k ws = name_of (λ form name feature. record { form = form; name = name; feature = feature })
    <*> word_at k ws
    <*> word_at (k + 1) ws
    <*> word_at (k + 2) ws

unfoldable pub reference_at : ℕ → List Text → Naming Reference
reference_at k ws = then_by (reference_words k ws) (λ c. found_or (faults.Reference k) (reference_named c.form c.name c.feature))

-- two crates, a kind, a target text, and a name
unfoldable pub link_words : FactNames → ℕ → List Text → Naming LinkNames
link_words n k ws = name_of (λ parent child kind target name. record { parent = parent; child = child; kind = kind; target = target; name = name })
    <*> crate_at n k ws
    <*> crate_at n (k + 1) ws
    <*> word_at (k + 2) ws
    <*> word_at (k + 3) ws
    <*> word_at (k + 4) ws

unfoldable pub link_at : FactNames → ℕ → List Text → Naming LinkPlace
link_at n k ws = then_by (link_words n k ws) (λ c. found_or (faults.Link k) (link_named n c))

-- a crate, a kind, a target text, and a name
unfoldable pub lacking_words : FactNames → ℕ → List Text → Naming LackingNames
lacking_words n k ws = name_of (λ krate kind target name. record { krate = krate; kind = kind; target = target; name = name })
    <*> crate_at n k ws
    <*> word_at (k + 1) ws
    <*> word_at (k + 2) ws
    <*> word_at (k + 3) ws

-- its crate, and its place among those that are lacking
unfoldable pub lacking_at : FactNames → ℕ → List Text → Naming (ℕ × ℕ)
lacking_at n k ws = then_by (lacking_words n k ws)
    (λ c. name_of (λ index. (c.krate, index)) <*> found_or (faults.Lacking k) (lacking_named n c))

-- a crate, a kind, and a name
unfoldable pub target_words : FactNames → ℕ → List Text → Naming TargetNames
target_words n k ws = name_of (λ krate kind name. record { krate = krate; kind = kind; name = name })
    <*> crate_at n k ws
    <*> word_at (k + 1) ws
    <*> word_at (k + 2) ws

unfoldable pub target_at : FactNames → ℕ → List Text → Naming TargetPlace
target_at n k ws = then_by (target_words n k ws) (λ c. found_or (faults.Target k) (target_named n c))

-- a platform, and a side
unfoldable pub placement_at : FactNames → ℕ → List Text → Naming PlacementNumber
placement_at n k ws = name_of (λ platform side. record { platform = platform; side = side })
    <*> platform_at n k ws
    <*> side_at (k + 1) ws

-- a target, a mode, and a placement
unfoldable pub unit_at : FactNames → ℕ → List Text → Naming UnitPlace
unit_at n k ws = name_of (λ target mode placement. record { target = target; mode = mode; placement = placement })
    <*> target_at n k ws
    <*> mode_at (k + 3) ws
    <*> placement_at n (k + 4) ws
