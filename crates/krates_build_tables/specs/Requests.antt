-- What a build requests of each crate of a document.
use Rattle.std.specs.Prelude.{◌≡◌, ◌≢◌, ◌↔◌, ◌⊎◌, List, true, Some, IsTrue, Contains, map}
use Rattle.std.specs.List.{AllZip}
use Rattle.krates_cm.specs.Document.{Text, PackageModel}
use Rattle.krates_text.specs.FeatureReference.{Reference, simple}
use Rattle.krates_ids.specs.Correction.{named}
use Rattle.krates_rules.specs.Facts.{Id}
use Rattle.krates_rules.specs.Resolved.{Resolved, id_of}
use Rattle.krates_rules.specs.Rules.{default_name}
use Rattle.krates_questions.specs.Lookup.{resolved_view}
use Rattle.krates_units.specs.BuildSetting.{BuildSettingModel, build_setting_view}
use Rattle.krates_units.specs.Requests.{RootKind, AsksAlike, AsksDefaults, HasFeature, IsBuildRoot, IsGiven, IsRequested, IsSelected, SelectsNoMember, Takes, unselected}
use Rattle.krates_build_tables.specs.References.{reference_view}
use Rattle.krates_build_tables.specs.RequestsFlags.{AreFlags}
use Rattle.krates_build_tables.specs.declared.reference.FeatureReference.{FeatureReference}
use Rattle.krates_build_tables.specs.declared.requests.Asking.{Asking}
use Rattle.krates_build_tables.specs.declared.requests.Request.{Request}

-- ---- the requests

-- what is requested of the crate
pub record RequestSays (r : Resolved) (s : BuildSettingModel) (i : Id) (q : Request) : Type 0 where
  pub root : IsTrue q.is_root ↔ IsBuildRoot r s i
  pub selected : IsTrue q.is_selected ↔ IsSelected r s i
  pub requested : (v : Reference) → IsRequested r s i v ↔ Contains (map reference_view q.requested.items) v

-- these are the requests of the crates with these ids, by number
abbrev pub AreRequests : Resolved → BuildSettingModel → List Id → List Request → Type 0
AreRequests r s ids list = AllZip (RequestSays r s) ids list

-- ---- what decides them

-- the document, the setting, and the ids of the crates
abbrev pub model_asked : Asking → Resolved
model_asked a = resolved_view a.document.now

abbrev pub setting_asked : Asking → BuildSettingModel
setting_asked a = build_setting_view a.setting.now

abbrev pub ids_asked : Asking → List Id
ids_asked a = map id_of a.document.now.ids.now.table.ids.items

-- the references are those that the command line names
abbrev pub AreGiven : BuildSettingModel → List FeatureReference → Type 0
AreGiven s references = (v : Reference) → IsGiven s v ↔ Contains (map reference_view references) v

-- the flags and the references are those of the document and the setting
pub record IsAsking (a : Asking) : Type 0 where
  pub flags : AreFlags (model_asked a) (setting_asked a) (ids_asked a) a.flags.now
  pub given : AreGiven (setting_asked a) a.given.now
  pub alike : IsTrue a.alike ↔ AsksAlike (model_asked a) (setting_asked a)
  pub none_selected : IsTrue a.none_selected ↔ SelectsNoMember (model_asked a) (setting_asked a)

-- ---- what is requested of a root

-- the second list has what the first has, and what has the property
abbrev pub Adds : (Reference → Type 0) → List FeatureReference → List FeatureReference → Type 0
Adds P before after =
    (v : Reference) → Contains (map reference_view after) v ↔ (Contains (map reference_view before) v ⊎ P v)

-- the feature `default` of the root is requested
pub record AsksDefault (r : Resolved) (s : BuildSettingModel) (i : Id) (kind : RootKind) (v : Reference) : Type 0 where
  pub asks : AsksDefaults s kind
  pub has : HasFeature r i default_name
  pub is : v ≡ simple default_name

-- the package has the feature
pub record HasSimple (p : PackageModel) (v : Reference) : Type 0 where
  pub feature : Text
  pub values : List Text
  pub has : named p.features feature ≡ Some values
  pub is : v ≡ simple feature

-- all features of a root of this kind are requested
abbrev pub AsksAllOf : BuildSettingModel → RootKind → Type 0
AsksAllOf s kind = (kind ≢ unselected) × (s.all_features ≡ true)

-- each feature of the root is requested
pub record AsksEach (r : Resolved) (s : BuildSettingModel) (i : Id) (kind : RootKind) (v : Reference) : Type 0 where
  pub asks : AsksAllOf s kind
  pub feature : Text
  pub has : HasFeature r i feature
  pub is : v ≡ simple feature

-- the root takes the reference, of one that the command line names
pub record TakesGiven (r : Resolved) (s : BuildSettingModel) (i : Id) (kind : RootKind) (w : Reference) : Type 0 where
  pub reference : Reference
  pub given : IsGiven s reference
  pub takes : Takes r s i kind reference w

-- the reference is requested of the root, which is of this kind
abbrev pub IsRequestedAs : Resolved → BuildSettingModel → Id → RootKind → Reference → Type 0
IsRequestedAs r s i kind v = AsksDefault r s i kind v ⊎ (AsksEach r s i kind v ⊎ TakesGiven r s i kind v)
