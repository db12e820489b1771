-- The document of bytes, and why there is none.
use Rattle.std.specs.Prelude.{IsUtf8, ⊤}
use Rattle.krates_cm.specs.Document.{Text, metadata_view}
use Rattle.krates_cm.specs.declared.metadata.Metadata.{Metadata}
use Rattle.krates_cm_json.specs.Parsing.{IsDocument}
use Rattle.krates_cli.specs.ListingRefusals.{ParseRefusal}
use Rattle.krates_foreign.specs.declared.refusal.CallRefusal.{CallRefusal}
use Rattle.krates_foreign.specs.declared.refusal.CallRefusal.TheVariants as refusals

-- The bytes are a text that is this document.
pub record IsDocumentIn (bytes : Text) (m : Metadata) : Type 0 where
  pub is_text : IsUtf8 bytes
  pub document : IsDocument bytes (metadata_view m)

-- They are a document, of which this is true.
abbrev pub OfDocument : Text → (Metadata → Type 0) → Type 0
OfDocument bytes P = (m : Metadata) × IsDocumentIn bytes m × P m

-- why they aren't one
abbrev pub IsNoDocumentIn : Text → CallRefusal → Type 0
IsNoDocumentIn bytes refusals.Utf8 = IsUtf8 bytes → ⊥
IsNoDocumentIn bytes (refusals.Parse cause) = IsUtf8 bytes × ParseRefusal bytes cause
IsNoDocumentIn bytes refusals.Memory = ⊤
IsNoDocumentIn bytes _ = ⊥
