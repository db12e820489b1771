-- What cargo's output means.
use Rattle.std.specs.Prelude.{◌≡◌, Bool, true, false, Some, None, ⊤}
use Rattle.std.specs.Str.{IsUtf8}
use Rattle.krates_cm.specs.Document.{Text, MetadataModel, text_view}
use Rattle.krates_cm.specs.declared.error.Error.{Error}
use Rattle.krates_cm.specs.declared.error.Error.TheVariants as errors
use Rattle.krates_cm_json.specs.Parsing.{IsDocument, IsRefusal}
use Rattle.krates_text.specs.JsonLine.{json_line}

-- cargo succeeded, what it wrote is a text, and this is its JSON line
pub record Answers (success : Bool) (stdout line : Text) : Type 0 where
  pub ended_well : success ≡ true
  pub is_text : IsUtf8 stdout
  pub is_line : json_line stdout ≡ Some line

-- the JSON line is the document
pub record IsAnswer (success : Bool) (stdout : Text) (m : MetadataModel) : Type 0 where
  pub line : Text
  pub answers : Answers success stdout line
  pub document : IsDocument line m

-- the JSON line isn't a document, for this reason
pub record IsNoDocument (success : Bool) (stdout : Text) (e : Error) : Type 0 where
  pub line : Text
  pub answers : Answers success stdout line
  pub refused : IsRefusal line e

-- why there is no document in what cargo wrote; memory may always run out
abbrev pub IsNoAnswer : Bool → Text → Text → Error → Type 0
IsNoAnswer success stdout stderr (errors.CargoMetadata said) =
    (success ≡ false) × IsUtf8 stderr × (text_view said ≡ stderr)
IsNoAnswer success stdout stderr (errors.ErrUtf8 cause) = (success ≡ false) × (IsUtf8 stderr → ⊥)
IsNoAnswer success stdout stderr (errors.Utf8 cause) = (success ≡ true) × (IsUtf8 stdout → ⊥)
IsNoAnswer success stdout stderr errors.NoJson = (success ≡ true) × IsUtf8 stdout × (json_line stdout ≡ None)
IsNoAnswer success stdout stderr (errors.Json cause) = IsNoDocument success stdout (errors.Json cause)
IsNoAnswer success stdout stderr (errors.Value cause) = IsNoDocument success stdout (errors.Value cause)
IsNoAnswer success stdout stderr errors.Memory = ⊤
IsNoAnswer success stdout stderr _ = ⊥
