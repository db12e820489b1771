-- The entries of crates, and the tables.
use Rattle.std.specs.Prelude.{◌≡◌, ◌↔◌, ℕ, List, Some, IsTrue, Contains, length, map, slice_get}
use Rattle.krates_cm.specs.Document.{Text}
use Rattle.krates_rules.specs.Facts.{Id}
use Rattle.krates_rules.specs.Resolved.{Resolved}
use Rattle.krates_units.specs.BuildSetting.{BuildSettingModel}
use Rattle.krates_units.specs.BuildTargets.{HasTargetThat, IsScript, LinksNatively}
use Rattle.krates_units.specs.Requests.{HasFeature, KnowsOptional}
use Rattle.krates_units.specs.Sides.{StartsOn}
use Rattle.krates_units.specs.declared.sides.Side.TheVariants as sides
use Rattle.krates_build_tables.specs.Builds.{ids_in, machines_in, resolved_in, setting_in}
use Rattle.krates_build_tables.specs.FeatureLists.{AreFeaturesOf}
use Rattle.krates_build_tables.specs.Judgements.{lent_machines}
use Rattle.krates_build_tables.specs.TablesOf.{AreLackingOf, AreLinksOf, AreTables, AreTargetsOf, CrateAt, CrateSays}
use Rattle.krates_build_tables.specs.declared.links.Build.{Build}
use Rattle.krates_build_tables.specs.declared.tables.CrateEntry.{CrateEntry}
use Rattle.krates_build_tables.specs.declared.tables.Tables.{Tables}
use Rattle.krates_build_tables.specs.declared.tables_of.CrateParts.{CrateParts}

-- the parts are of this crate
pub record PartsSay (b : Build) (number : ℕ) (i : Id) (x : CrateParts) : Type 0 where
  pub starts_on_host : IsTrue x.starts_on_host ↔ StartsOn (resolved_in b) (setting_in b) i sides.Host
  pub script : IsTrue x.has_script ↔ HasTargetThat (resolved_in b) i IsScript
  pub native : IsTrue x.links_natively ↔ LinksNatively (resolved_in b) i
  pub features : AreFeaturesOf (resolved_in b) i x.features
  pub implied : (c : Text) → (KnowsOptional (resolved_in b) i c × HasFeature (resolved_in b) i c) ↔ Contains (map (λ t. t.now) x.implied.items) c
  pub links : AreLinksOf (resolved_in b) (setting_in b) (ids_in b) (machines_in b) number i x.links.items
  pub lacking : AreLackingOf (resolved_in b) number i x.lacking.items
  pub targets : AreTargetsOf (resolved_in b) (setting_in b) number i x.targets.items

-- these are the entries of the crates with the numbers below n
pub record AreCrates (b : Build) (n : ℕ) (entries : List CrateEntry) : Type 0 where
  pub long : length entries ≡ n
  pub each : (number : ℕ) (i : Id) (e : CrateEntry) → CrateAt (ids_in b) number i → slice_get entries number ≡ Some e
      → CrateSays (resolved_in b) (setting_in b) (ids_in b) (machines_in b) number i e

-- the tables are those of the document and the build, where the crates have these ids, by number
abbrev pub AreTablesOf : Resolved → BuildSettingModel → List Id → Tables → Type 0
AreTablesOf r s ids t = AreTables r s ids (lent_machines t.machines.items) t
