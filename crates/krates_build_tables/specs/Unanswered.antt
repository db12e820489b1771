-- What is told of the requests of a build that name nothing.
use Rattle.std.specs.Prelude.{◌≡◌, ◌↔◌, ℕ, ◌<◌, List, Option, Some, None, MatchOption, IsTrue, Contains, map, slice_get}
use Rattle.krates_ids.specs.PackageSpecification.{spec_view}
use Rattle.krates_questions.specs.Lookup.{resolved_view}
use Rattle.krates_rules.specs.Facts.{Id}
use Rattle.krates_rules.specs.Resolved.{Resolved, id_of}
use Rattle.krates_units.specs.Answered.{HasIdleFlag, IsAnswered, NamesFeature, NamesFeatures, NamesPackage, NamesPackages, SelectsSome, specifications}
use Rattle.krates_units.specs.BuildSetting.{BuildSettingModel, build_setting_view}
use Rattle.krates_units.specs.Requests.{AsksAlike, SelectsNoMember}
use Rattle.krates_build_tables.specs.RequestsFlags.{AreFlags}
use Rattle.krates_build_tables.specs.declared.named.Taking.{Taking}
use Rattle.krates_build_tables.specs.declared.unanswered.Unanswered.{Unanswered}
use Rattle.krates_build_tables.specs.declared.unanswered.Unanswered.TheVariants as unanswered

-- ---- the first without a property

-- this is the first element of the list that doesn't have the property
pub record IsFirstWithout {A : Type 0} (P : A → Type 0) (xs : List A) (x : A) : Type 0 where
  pub place : ℕ
  pub here : slice_get xs place ≡ Some x
  pub lacks : ¬ P x
  pub before : (k : ℕ) (y : A) → k < place → slice_get xs k ≡ Some y → P y

-- it is the first element without the property, or there is none since each has it
abbrev pub TellsFirstWithout : {A : Type 0} → (A → Type 0) → List A → Option A → Type 0
TellsFirstWithout {A} P xs first = MatchOption first ((x : A) → Contains xs x → P x) (IsFirstWithout P xs)

-- ---- what is told

-- What is told of the requests of a build: the first specification that names no package; else, that no crate is asked for; else,
-- the first text that names no feature; else, that a flag for features is idle; or nothing, where each names something.
abbrev pub TellsUnanswered : Resolved → BuildSettingModel → Option Unanswered → Type 0
TellsUnanswered r s (Some (unanswered.Package spec)) =
    IsFirstWithout (NamesPackage r) (specifications s.selection) (spec_view spec.now)
TellsUnanswered r s (Some unanswered.Selection) = NamesPackages r s × ¬ SelectsSome r s
TellsUnanswered r s (Some (unanswered.Feature text)) =
    NamesPackages r s × SelectsSome r s × IsFirstWithout (NamesFeature r s) s.features text.now
TellsUnanswered r s (Some unanswered.FeatureFlag) =
    NamesPackages r s × SelectsSome r s × NamesFeatures r s × HasIdleFlag r s
TellsUnanswered r s None = IsAnswered r s

-- ---- what decides which crates take a reference

-- the document, the setting, and the ids of the crates
abbrev pub model_taking : Taking → Resolved
model_taking t = resolved_view t.document.now

abbrev pub setting_taking : Taking → BuildSettingModel
setting_taking t = build_setting_view t.setting.now

abbrev pub ids_taking : Taking → List Id
ids_taking t = map id_of t.document.now.ids.now.table.ids.items

-- the flags are those of the document and the setting
pub record IsTaking (t : Taking) : Type 0 where
  pub flags : AreFlags (model_taking t) (setting_taking t) (ids_taking t) t.flags.now
  pub alike : IsTrue t.alike ↔ AsksAlike (model_taking t) (setting_taking t)
  pub none_selected : IsTrue t.none_selected ↔ SelectsNoMember (model_taking t) (setting_taking t)
