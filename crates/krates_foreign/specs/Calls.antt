-- What is answered of a document under the words of a setting, and why there is no answer.
use Rattle.std.specs.Prelude.{◌≡◌, IsUtf8, Some, ⊤}
use Rattle.krates_cm.specs.Document.{Text, metadata_view}
use Rattle.krates_cm.specs.declared.metadata.Metadata.{Metadata}
use Rattle.krates_cli.specs.Listing.{ExplainsCrate, IsListingOf, ListsPackages}
use Rattle.krates_cli.specs.ListingRefusals.{IsUnbuilt, IsUnkept}
use Rattle.krates_cli.specs.Options.{OptionsModel}
use Rattle.krates_cli.specs.Request.{Request}
use Rattle.krates_ids.specs.Identity.{Identity, Reads}
use Rattle.krates_ids.specs.declared.error.Error.TheVariants as build_errors
use Rattle.krates_rules.specs.Setting.{SettingModel}
use Rattle.krates_verdict.specs.VerdictRunning.{IsUnheld, IsVerdictOf}
use Rattle.krates_verdict.specs.Subject.{SubjectModel, judged_under}
use Rattle.krates_verdict.specs.VerdictText.{verdict_line}
use Rattle.krates_verdict.specs.declared.refusal.Refusal.TheVariants as verdicts
use Rattle.krates_verdict.specs.declared.verdict.Verdict.{Verdict}
use Rattle.krates_foreign.specs.Asked.{AskForNone, AskForOne, AsksFor, Under, stated_of}
use Rattle.krates_foreign.specs.Documents.{IsNoDocumentIn, OfDocument}
use Rattle.krates_foreign.specs.DrawnLines.{DrawsPackages}
use Rattle.krates_foreign.specs.declared.refusal.CallRefusal.{CallRefusal}
use Rattle.krates_foreign.specs.declared.refusal.CallRefusal.TheVariants as refusals

-- ---- answers

-- The lines of the document's packages under the setting.
abbrev pub Lists : Text → Text → Text → Type 0
Lists bytes words lines = Under words (λ s. OfDocument bytes (λ m. ListsPackages s m lines))

-- The lines of its graph.
abbrev pub Draws : Text → Text → Text → Type 0
Draws bytes words lines = Under words (λ s. OfDocument bytes (λ m. DrawsPackages s m lines))

-- the bytes are the id of this crate
abbrev pub NamesCrate : Text → Identity → Type 0
NamesCrate id krate = IsUtf8 id × Reads id krate

-- they are the id of a crate
abbrev pub NamesOne : Text → Type 0
NamesOne id = (krate : Identity) × NamesCrate id krate

-- they are no crate's id
abbrev pub NamesNone : Text → Type 0
NamesNone id = (krate : Identity) → NamesCrate id krate → ⊥

-- The lines of a derivation of the crate that is named.
abbrev pub Explains : Text → Text → Text → Text → Type 0
Explains bytes words id lines =
    (krate : Identity) × NamesCrate id krate × Under words (λ s. OfDocument bytes (λ m. ExplainsCrate s m krate lines))

-- what a certificate is judged against: the document, and the setting with its words
abbrev pub subject_of : Metadata → OptionsModel → SubjectModel
subject_of m o = judged_under (metadata_view m) (stated_of o)

-- a certificate holds, and this line says what it says
abbrev pub Upholds : SubjectModel → Text → Text → Type 0
Upholds subject certificate line = (verdict : Verdict) × IsVerdictOf subject certificate verdict × (line ≡ verdict_line verdict)

-- The line of the verdict on a certificate.
abbrev pub Checks : Text → Text → Text → Text → Type 0
Checks bytes words certificate line =
    (o : OptionsModel) × AsksFor words o × OfDocument bytes (λ m. Upholds (subject_of m o) certificate line)

-- ---- refusals: each cause counts only where those before it aren't true; memory may always run out

-- no setting is read from the words; or one is, and no document from the bytes
abbrev pub ReadRefusal : Text → Text → CallRefusal → Type 0
ReadRefusal bytes words refusals.Words = AskForNone words
ReadRefusal bytes words refusals.Memory = ⊤
ReadRefusal bytes words refusal = AskForOne words × IsNoDocumentIn bytes refusal

abbrev pub ListRefusal : Text → Text → CallRefusal → Type 0
ListRefusal bytes words (refusals.Build cause) = Under words (λ s. OfDocument bytes (λ m. IsUnbuilt s m cause))
ListRefusal bytes words refusal = ReadRefusal bytes words refusal

-- the document is built and doesn't keep the crate that is named
abbrev pub LacksCrate : Text → Text → Text → Identity → Type 0
LacksCrate bytes words id krate = NamesCrate id krate
    × Under words (λ s. OfDocument bytes (λ m. IsUnkept (record { setting = s; explaining = Some krate }) m krate))

-- the id counts after the words, and before the document
abbrev pub WhyRefusal : Text → Text → Text → CallRefusal → Type 0
WhyRefusal bytes words id refusals.Words = AskForNone words
WhyRefusal bytes words id refusals.Id = AskForOne words × NamesNone id
WhyRefusal bytes words id (refusals.NotKept krate) = LacksCrate bytes words id krate
WhyRefusal bytes words id refusals.Memory = ⊤
WhyRefusal bytes words id refusal = NamesOne id × ListRefusal bytes words refusal

abbrev pub CheckRefusal : Text → Text → Text → CallRefusal → Type 0
CheckRefusal bytes words certificate (refusals.Certificate cause) =
    (o : OptionsModel) × AsksFor words o × OfDocument bytes (λ m. IsUnheld (subject_of m o) certificate cause × (cause ≡ verdicts.Memory → ⊥))
CheckRefusal bytes words certificate refusal = ReadRefusal bytes words refusal

-- the cause isn't the document's or the words': memory ran out, or there are more nodes or edges than can be numbered
abbrev pub IsOutside : CallRefusal → Type 0
IsOutside (refusals.Build cause) = cause ≡ build_errors.TooMany
IsOutside refusals.Memory = ⊤
IsOutside _ = ⊥

-- ---- of options that were read; cited by private functions alone

-- the bytes are a document with these lines
abbrev pub IsListedIn : Request → Text → Text → Type 0
IsListedIn a bytes lines = OfDocument bytes (λ m. IsListingOf a m lines)

-- why they have no listing
abbrev pub IsUnlistedIn : Request → Text → CallRefusal → Type 0
IsUnlistedIn a bytes (refusals.Build cause) = OfDocument bytes (λ m. IsUnbuilt a.setting m cause)
IsUnlistedIn a bytes (refusals.NotKept krate) = OfDocument bytes (λ m. IsUnkept a m krate)
IsUnlistedIn a bytes refusal = IsNoDocumentIn bytes refusal

-- why they have no graph
abbrev pub IsUndrawnIn : SettingModel → Text → CallRefusal → Type 0
IsUndrawnIn s bytes (refusals.Build cause) = OfDocument bytes (λ m. IsUnbuilt s m cause)
IsUndrawnIn s bytes refusal = IsNoDocumentIn bytes refusal

abbrev pub IsNoId : Text → CallRefusal → Type 0
IsNoId id refusals.Id = NamesNone id
IsNoId id refusals.Memory = ⊤
IsNoId id _ = ⊥

abbrev pub JudgedRefusal : SubjectModel → Text → CallRefusal → Type 0
JudgedRefusal subject certificate (refusals.Certificate cause) = IsUnheld subject certificate cause × (cause ≡ verdicts.Memory → ⊥)
JudgedRefusal subject certificate refusals.Memory = ⊤
JudgedRefusal subject certificate _ = ⊥
