-- When what was written for a part of a certificate reads as that part.
use Rattle.std.specs.Prelude.{◌≡◌, Some}
use Rattle.serde_json.specs.Data.{Data}
use Rattle.krates_cm.specs.Document.{Text}
use Rattle.krates_cm_json.specs.Objects.{Writer}
use Rattle.krates_cm_json.specs.Reading.{Reader}

-- Whatever may be written for a part reads as that part.
abbrev pub WrittenIsRead : {A : Type 0} → Reader A → Writer A → Type 0
WrittenIsRead {A} read Written = (x : A) (d : Data) → Written x d → (key : Text) → (read key d).value ≡ Some x
