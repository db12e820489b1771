-- Which packages a build is asked for, where some are named.
use Rattle.std.proofs.Common.{◌≡◌, ◌≢◌, ◌∙◌, Bool, false, List, [], ◌∷◌, ap, if◌then◌else◌, length, map, refl, sym}
use Rattle.krates_ids.specs.PackageSpecification.{Specification, spec_view}
use Rattle.krates_units.specs.BuildSetting.{every_member, packages}
use Rattle.krates_words.specs.BuildWords.{named, selection_of}
use Rattle.krates_words.specs.declared.build_words.BuildWords.{BuildWords}

-- those that are named
named_some : (specs copies : List Specification) → length specs ≢ 0 → copies ≡ specs → packages copies ≡ named specs
named_some [] copies some same = absurd (some refl)
named_some (spec ∷ specs) copies some same = ap packages same

-- copies of those that are named, where not every member is asked for
pub selected : (words : BuildWords) (copies : List Specification) → words.workspace ≡ false → length (map spec_view words.packages.items) ≢ 0
    → copies ≡ map spec_view words.packages.items → packages copies ≡ selection_of words
selected words copies not_all some same =
    named_some (map spec_view words.packages.items) copies some same
    ∙ sym (ap (λ (all : Bool). if all then every_member else named (map spec_view words.packages.items)) not_all)
