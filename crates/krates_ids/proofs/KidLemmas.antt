-- What the two ways of reading a stable id give: its text as it is written, or with its query decoded.
use Rattle.std.proofs.Common.{◌≡◌, ℕ, ◌∷◌, ◌++◌, false, refl}
use Rattle.std.specs.Prelude.{Option, Ok, Err}
use Rattle.std.proofs.lemmas.Str.{IsUtf8-string_bytes}
use Rattle.percent_encoding.specs.Percent.{percent_decode}
use Rattle.krates_cm.specs.Document.{Text, id_view}
use Rattle.krates_cm.specs.declared.package_id.PackageId.{PackageId}
use Rattle.krates_ids.specs.Escapes.{AreEscapes}
use Rattle.krates_ids.specs.Identity.{IsStableForm, IsGitQuery, IsSource, decoded, IsFault, bad_escape}
use Rattle.krates_ids.specs.IdRefusals.{Converts}
use Rattle.krates_ids.specs.Separators.{hash_sign, question_mark}
use Rattle.krates_ids.specs.Spans.{AreSpans, MarksParts, identity_of}
use Rattle.krates_ids.specs.StableParts.{TellsName, IsWithSource}
use Rattle.krates_ids.specs.declared.id_error.IdError.TheVariants.{Escape}
use Rattle.krates_ids.specs.declared.span.Parts.{Parts}
use Rattle.krates_ids.proofs.IdentityLemmas.{Reads-stable}
use Rattle.krates_ids.proofs.RefusalsLemmas.{Converts-reads, Converts-fault}
use Rattle.krates_ids.proofs.SpansLemmas.{AreSpans-marks}
use Rattle.krates_ids.proofs.StableLemmas.{IsWithSource-written, IsWithSource-decoded}

-- what `parts_in` says of the spans that it returns
abbrev pub GivesParts : Text → Text → Text → Text → Option ℕ → Parts → Type 0
GivesParts text fragment name version place parts =
    (source : Text) → IsWithSource text source fragment name version place → MarksParts text parts name version source

-- an id is read: its spans are in order, and its text reads
abbrev pub ReadsAs : PackageId → Text → Parts → Type 0
ReadsAs id text parts = AreSpans text parts × Converts id (Ok (identity_of text parts false))

pub ReadsAs-written : (id : PackageId) (left fragment name version : Text) (place : Option ℕ) (parts : Parts) → IsStableForm (id_view id) left fragment name version → TellsName left fragment name version place → IsSource left left → GivesParts (id_view id) fragment name version place parts → ReadsAs id (id_view id) parts
ReadsAs-written id left fragment name version place parts form told source_is gives =
    let marks = gives left (IsWithSource-written (id_view id) left fragment name version place (IsUtf8-string_bytes id.repr) form told) in (
      AreSpans-marks (id_view id) parts name version left marks,
      Converts-reads id _ (Reads-stable (id_view id) left fragment name version left (id_view id) parts form source_is form.cut.is marks),
    )

pub ReadsAs-decoded : (id : PackageId) (left fragment name version front query text : Text) (place : Option ℕ) (parts : Parts) → IsStableForm (id_view id) left fragment name version → TellsName left fragment name version place → IsGitQuery left front query → AreEscapes query → text ≡ (front ++ question_mark ∷ percent_decode query) ++ hash_sign ∷ fragment → GivesParts text fragment name version place parts → ReadsAs id text parts
ReadsAs-decoded id left fragment name version front query text place parts form told q good is gives =
    let marks = gives _ (IsWithSource-decoded (id_view id) left fragment name version front query text place (IsUtf8-string_bytes id.repr) form told q good is) in (
      AreSpans-marks text parts name version _ marks,
      Converts-reads id _ (Reads-stable (id_view id) left fragment name version _ text parts form (decoded front query q good refl) is marks),
    )

pub Converts-bad_escape : (id : PackageId) (left fragment name version front query : Text) → IsStableForm (id_view id) left fragment name version → IsGitQuery left front query → (AreEscapes query → ⊥) → Converts id (Err (Escape id))
Converts-bad_escape id left fragment name version front query form q bad =
    let fault : IsFault (id_view id) bad_escape = (query, record { left = left; fragment = fragment; name = name; version = version; front = front; form = form; git_query = q }, bad) in
    Converts-fault id (Escape id) bad_escape fault (refl, fault)
