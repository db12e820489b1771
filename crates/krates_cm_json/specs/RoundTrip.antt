-- When what was written for a value reads as that value.
use Rattle.std.specs.Prelude.{◌≡◌, Some, MatchOption, codes}
use Rattle.serde_json.specs.Data.{Data}
use Rattle.serde_json.specs.Find.{get}
use Rattle.krates_cm.specs.Document.{Text, DependencyModel, PackageModel, MetadataModel}
use Rattle.krates_cm_json.specs.Reading.{Reader}
use Rattle.krates_cm_json.specs.Tables.{requirement}
use Rattle.krates_cm_json.specs.Objects.{Writer, ListWritten}

-- the value was read of some data
abbrev pub WasRead : {A : Type 0} → Reader A → A → Type 0
WasRead read x = (key : Text) × (d : Data) × ((read key d).value ≡ Some x)

-- Whatever may be written for a value that was read, if it meets the condition, reads as that value.
abbrev pub WrittenIsRead : {A : Type 0} → Reader A → Writer A → Writer A → Type 0
WrittenIsRead {A} read Written Has = (x : A) (d : Data) → WasRead read x → Written x d → Has x d → (key : Text) → (read key d).value ≡ Some x

-- a property of the data under a key
abbrev pub Under : Text → (Data → Type 0) → Data → Type 0
Under key W d = MatchOption (get key d) ⊥ W

-- ---- each text that is written under `req` reads as its requirement

abbrev pub RequirementReads : Writer DependencyModel
RequirementReads m = Under (codes "req") (λ d. (requirement (codes "req") d).value ≡ Some m.req)

abbrev pub PackageRequirementsRead : Writer PackageModel
PackageRequirementsRead m = Under (codes "dependencies") (ListWritten RequirementReads m.dependencies)

abbrev pub RequirementsRead : Writer MetadataModel
RequirementsRead m = Under (codes "packages") (ListWritten PackageRequirementsRead m.packages)
