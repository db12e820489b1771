-- Entries of lists that a package has.
use Rattle.std.specs.Prelude.{◌≡◌, ℕ, List, Some, Contains, slice_get}
use Rattle.std.specs.List.{AllZip}
use Rattle.krates_cm.specs.Document.{DependencyModel, TargetModel}
use Rattle.krates_cm.specs.declared.target.TargetKind.TheVariants as kinds
use Rattle.krates_units.specs.BuildSetting.{BuildSettingModel}
use Rattle.krates_build_tables.specs.TablesOf.{LackingSays, TargetSays}
use Rattle.krates_build_tables.specs.declared.tables.Lacking.{Lacking}
use Rattle.krates_build_tables.specs.declared.tables.TargetEntry.{TargetEntry}

-- an element of the list has the property
abbrev pub HasOneThat : {A : Type 0} → (A → Type 0) → List A → Type 0
HasOneThat {A} P xs = (x : A) × Contains xs x × P x

-- the target is a library of procedural macros
abbrev pub IsMacroLibrary : TargetModel → Type 0
IsMacroLibrary t = Contains t.kind kinds.ProcMacro

-- the entries are of these targets, each at its place
pub record AreTargetEntries (s : BuildSettingModel) (number : ℕ) (targets : List TargetModel) (entries : List TargetEntry) : Type 0 where
  pub says : AllZip (λ t x. TargetSays s x t) targets entries
  pub places : (k : ℕ) (x : TargetEntry) → slice_get entries k ≡ Some x → x.place ≡ record { krate = number; index = k }

-- the entries are of these dependencies, each at its place
pub record AreLackingEntries (number : ℕ) (declared : List DependencyModel) (entries : List Lacking) : Type 0 where
  pub says : AllZip (λ d x. LackingSays x d) declared entries
  pub places : (k : ℕ) (x : Lacking) → slice_get entries k ≡ Some x → (x.krate ≡ number) × (x.index ≡ k)
