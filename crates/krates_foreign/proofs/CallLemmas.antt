-- What calls answer, by what was read of words and of bytes.
use Rattle.std.proofs.Common.{◌≡◌, ◌∙◌, Option, Some, subst, sym}
use Rattle.std.proofs.lemmas.Option.{none-some, same_Some}
use Rattle.std.specs.Prelude.{MatchOption}
use Rattle.krates_cm.specs.Document.{Text}
use Rattle.krates_cm.specs.declared.metadata.Metadata.{Metadata}
use Rattle.krates_cli.specs.Listing.{ExplainsCrate, ListsPackages}
use Rattle.krates_cli.specs.ListingRefusals.{IsUnkept, IsUnlisted}
use Rattle.krates_cli.specs.Options.{OptionsModel, request_of, setting_of}
use Rattle.krates_cli.specs.Request.{Request}
use Rattle.krates_cli.specs.declared.run_error.RunError.{RunError}
use Rattle.krates_cli.specs.declared.run_error.RunError.TheVariants as runs
use Rattle.krates_ids.specs.Identity.{Identity}
use Rattle.krates_ids.specs.declared.error.Error as build
use Rattle.krates.specs.Build.{BuildRefusalAsGiven}
use Rattle.krates_rules.specs.Setting.{SettingModel}
use Rattle.krates_foreign.specs.Asked.{AsksFor, IsUnasked}
use Rattle.krates_foreign.specs.Calls.{CheckRefusal, Explains, IsListedIn, IsNoId, IsUndrawnIn, IsUnlistedIn, JudgedRefusal, LacksCrate, ListRefusal, Lists, NamesCrate, ReadRefusal, WhyRefusal, subject_of}
use Rattle.krates_foreign.specs.Documents.{IsDocumentIn, IsNoDocumentIn}
use Rattle.krates_foreign.specs.CallRefusalText.{BuildErrorBecomes, ListingErrorBecomes}
use Rattle.krates_foreign.specs.declared.refusal.CallRefusal.{CallRefusal}
use Rattle.krates_foreign.specs.declared.refusal.CallRefusal.TheVariants as refusals

-- ---- words, ids and documents that aren't read

pub unasked : (bytes words : Text) (e : CallRefusal) → IsUnasked words e → ReadRefusal bytes words e
unasked bytes words refusals.Words h = h
unasked bytes words refusals.Id h = absurd h
unasked bytes words refusals.Utf8 h = absurd h
unasked bytes words (refusals.Parse _) h = absurd h
unasked bytes words (refusals.Build _) h = absurd h
unasked bytes words (refusals.NotKept _) h = absurd h
unasked bytes words (refusals.Certificate _) h = absurd h
unasked bytes words refusals.Memory h = tt

pub no_document : (bytes words : Text) (o : OptionsModel) → AsksFor words o → (e : CallRefusal) → IsNoDocumentIn bytes e → ReadRefusal bytes words e
no_document bytes words o asks refusals.Words h = absurd h
no_document bytes words o asks refusals.Id h = absurd h
no_document bytes words o asks refusals.Utf8 h = ((o, asks), h)
no_document bytes words o asks (refusals.Parse _) h = ((o, asks), h)
no_document bytes words o asks (refusals.Build _) h = absurd h
no_document bytes words o asks (refusals.NotKept _) h = absurd h
no_document bytes words o asks (refusals.Certificate _) h = absurd h
no_document bytes words o asks refusals.Memory h = tt

-- so no call has an answer
pub no_listing : (bytes words : Text) (e : CallRefusal) → ReadRefusal bytes words e → ListRefusal bytes words e
no_listing bytes words refusals.Words h = h
no_listing bytes words refusals.Id h = absurd h.1
no_listing bytes words refusals.Utf8 h = h
no_listing bytes words (refusals.Parse _) h = h
no_listing bytes words (refusals.Build _) h = absurd h.1
no_listing bytes words (refusals.NotKept _) h = h
no_listing bytes words (refusals.Certificate _) h = h
no_listing bytes words refusals.Memory h = tt

pub no_reason : (bytes words id : Text) (e : CallRefusal) → IsUnasked words e → WhyRefusal bytes words id e
no_reason bytes words id refusals.Words h = h
no_reason bytes words id refusals.Id h = absurd h
no_reason bytes words id refusals.Utf8 h = absurd h
no_reason bytes words id (refusals.Parse _) h = absurd h
no_reason bytes words id (refusals.Build _) h = absurd h
no_reason bytes words id (refusals.NotKept _) h = absurd h
no_reason bytes words id (refusals.Certificate _) h = absurd h
no_reason bytes words id refusals.Memory h = tt

pub no_verdict : (bytes words certificate : Text) (e : CallRefusal) → ReadRefusal bytes words e → CheckRefusal bytes words certificate e
no_verdict bytes words certificate refusals.Words h = h
no_verdict bytes words certificate refusals.Id h = h
no_verdict bytes words certificate refusals.Utf8 h = h
no_verdict bytes words certificate (refusals.Parse _) h = h
no_verdict bytes words certificate (refusals.Build _) h = h
no_verdict bytes words certificate (refusals.NotKept _) h = h
no_verdict bytes words certificate (refusals.Certificate _) h = absurd h.1
no_verdict bytes words certificate refusals.Memory h = tt

pub no_id : (bytes words id : Text) (o : OptionsModel) → AsksFor words o → (e : CallRefusal) → IsNoId id e → WhyRefusal bytes words id e
no_id bytes words id o asks refusals.Words h = absurd h
no_id bytes words id o asks refusals.Id h = ((o, asks), h)
no_id bytes words id o asks refusals.Utf8 h = absurd h
no_id bytes words id o asks (refusals.Parse _) h = absurd h
no_id bytes words id o asks (refusals.Build _) h = absurd h
no_id bytes words id o asks (refusals.NotKept _) h = absurd h
no_id bytes words id o asks (refusals.Certificate _) h = absurd h
no_id bytes words id o asks refusals.Memory h = tt

-- ---- listings

pub unlisted : (a : Request) (bytes : Text) (m : Metadata) (cause : RunError) (e : CallRefusal) → IsDocumentIn bytes m → IsUnlisted a m cause → ListingErrorBecomes cause e → IsUnlistedIn a bytes e
unlisted a bytes m (runs.Build cause) e document h is = subst (IsUnlistedIn a bytes) (sym is) (m, document, h)
unlisted a bytes m (runs.NotKept krate) e document h is = subst (IsUnlistedIn a bytes) (sym is) (m, document, h)
unlisted a bytes m runs.Memory e document h is = subst (IsUnlistedIn a bytes) (sym is) tt
unlisted a bytes m runs.Read e document h is = absurd h
unlisted a bytes m runs.Utf8 e document h is = absurd h
unlisted a bytes m (runs.Parse _) e document h is = absurd h
unlisted a bytes m runs.Write e document h is = absurd h

pub unread : (a : Request) (bytes : Text) (e : CallRefusal) → IsNoDocumentIn bytes e → IsUnlistedIn a bytes e
unread a bytes refusals.Words h = absurd h
unread a bytes refusals.Id h = absurd h
unread a bytes refusals.Utf8 h = h
unread a bytes (refusals.Parse _) h = h
unread a bytes (refusals.Build _) h = absurd h
unread a bytes (refusals.NotKept _) h = absurd h
unread a bytes (refusals.Certificate _) h = absurd h
unread a bytes refusals.Memory h = tt

-- lines where no crate is to be explained are those of the packages
pub lists : (bytes words lines : Text) (o : OptionsModel) → AsksFor words o → IsListedIn (request_of o) bytes lines → Lists bytes words lines
lists bytes words lines o asks (m, document, listing) =
    let packages = subst (λ (krate : Option Identity). MatchOption krate (ListsPackages (setting_of o) m lines) (λ k. ExplainsCrate (setting_of o) m k lines)) asks.alone.no_crate listing in
    (o, asks, (m, document, packages))

pub list_refused : (bytes words : Text) (o : OptionsModel) → AsksFor words o → (e : CallRefusal) → IsUnlistedIn (request_of o) bytes e → ListRefusal bytes words e
list_refused bytes words o asks refusals.Words h = absurd h
list_refused bytes words o asks refusals.Id h = absurd h
list_refused bytes words o asks refusals.Utf8 h = ((o, asks), h)
list_refused bytes words o asks (refusals.Parse _) h = ((o, asks), h)
list_refused bytes words o asks (refusals.Build cause) h = (o, asks, h)
list_refused bytes words o asks (refusals.NotKept krate) h = absurd (none-some krate (sym asks.alone.no_crate ∙ h.2.asked))
list_refused bytes words o asks (refusals.Certificate _) h = absurd h
list_refused bytes words o asks refusals.Memory h = tt

-- the same options, with a crate that is to be explained
abbrev pub explaining : OptionsModel → Identity → OptionsModel
explaining o krate = record o { explaining = Some krate }

pub explains : (bytes words id lines : Text) (o : OptionsModel) (krate : Identity) → AsksFor words o → NamesCrate id krate → IsListedIn (request_of (explaining o krate)) bytes lines → Explains bytes words id lines
explains bytes words id lines o krate asks names listed = (krate, names, (o, asks, listed))

lacks : (bytes words id : Text) (o : OptionsModel) (krate same : Identity) → same ≡ krate → AsksFor words o → NamesCrate id krate → IsUnlistedIn (request_of (explaining o krate)) bytes (refusals.NotKept same) → LacksCrate bytes words id same
lacks bytes words id o krate same is asks names (m, document, h) =
    (subst (NamesCrate id) (sym is) names, (o, asks, (m, document, subst (λ (k : Identity). IsUnkept (record { setting = setting_of o; explaining = Some k }) m same) (sym is) h)))

pub why_refused : (bytes words id : Text) (o : OptionsModel) (krate : Identity) → AsksFor words o → NamesCrate id krate → (e : CallRefusal) → IsUnlistedIn (request_of (explaining o krate)) bytes e → WhyRefusal bytes words id e
why_refused bytes words id o krate asks names refusals.Words h = absurd h
why_refused bytes words id o krate asks names refusals.Id h = absurd h
why_refused bytes words id o krate asks names refusals.Utf8 h = ((krate, names), ((o, asks), h))
why_refused bytes words id o krate asks names (refusals.Parse _) h = ((krate, names), ((o, asks), h))
why_refused bytes words id o krate asks names (refusals.Build cause) h = ((krate, names), (o, asks, h))
why_refused bytes words id o krate asks names (refusals.NotKept same) h = lacks bytes words id o krate same (sym (same_Some krate same h.2.asked)) asks names h
why_refused bytes words id o krate asks names (refusals.Certificate _) h = absurd h
why_refused bytes words id o krate asks names refusals.Memory h = tt

-- ---- graphs and certificates

-- a document whose build is refused has no graph, for the same reason
pub unbuilt : (s : SettingModel) (bytes : Text) (m : Metadata) (cause : build.Error) (e : CallRefusal) → IsDocumentIn bytes m → BuildRefusalAsGiven m s cause → BuildErrorBecomes cause e → IsUndrawnIn s bytes e
unbuilt s bytes m cause (refusals.Build same) document refused becomes =
    (m, document, record { refused = subst (BuildRefusalAsGiven m s) (sym becomes.0) refused; not_memory = λ is_memory. becomes.1 (sym becomes.0 ∙ is_memory) })
unbuilt s bytes m cause refusals.Memory document refused becomes = tt
unbuilt s bytes m cause refusals.Words document refused becomes = absurd becomes
unbuilt s bytes m cause refusals.Id document refused becomes = absurd becomes
unbuilt s bytes m cause refusals.Utf8 document refused becomes = absurd becomes
unbuilt s bytes m cause (refusals.Parse _) document refused becomes = absurd becomes
unbuilt s bytes m cause (refusals.NotKept _) document refused becomes = absurd becomes
unbuilt s bytes m cause (refusals.Certificate _) document refused becomes = absurd becomes

pub undrawn : (s : SettingModel) (bytes : Text) (e : CallRefusal) → IsNoDocumentIn bytes e → IsUndrawnIn s bytes e
undrawn s bytes refusals.Words h = absurd h
undrawn s bytes refusals.Id h = absurd h
undrawn s bytes refusals.Utf8 h = h
undrawn s bytes (refusals.Parse _) h = h
undrawn s bytes (refusals.Build _) h = absurd h
undrawn s bytes (refusals.NotKept _) h = absurd h
undrawn s bytes (refusals.Certificate _) h = absurd h
undrawn s bytes refusals.Memory h = tt

pub graph_refused : (bytes words : Text) (o : OptionsModel) → AsksFor words o → (e : CallRefusal) → IsUndrawnIn (setting_of o) bytes e → ListRefusal bytes words e
graph_refused bytes words o asks refusals.Words h = absurd h
graph_refused bytes words o asks refusals.Id h = absurd h
graph_refused bytes words o asks refusals.Utf8 h = ((o, asks), h)
graph_refused bytes words o asks (refusals.Parse _) h = ((o, asks), h)
graph_refused bytes words o asks (refusals.Build cause) h = (o, asks, h)
graph_refused bytes words o asks (refusals.NotKept _) h = absurd h
graph_refused bytes words o asks (refusals.Certificate _) h = absurd h
graph_refused bytes words o asks refusals.Memory h = tt

pub check_refused : (bytes words certificate : Text) (o : OptionsModel) (m : Metadata) → AsksFor words o → IsDocumentIn bytes m → (e : CallRefusal) → JudgedRefusal (subject_of m o) certificate e → CheckRefusal bytes words certificate e
check_refused bytes words certificate o m asks document refusals.Words h = absurd h
check_refused bytes words certificate o m asks document refusals.Id h = absurd h
check_refused bytes words certificate o m asks document refusals.Utf8 h = absurd h
check_refused bytes words certificate o m asks document (refusals.Parse _) h = absurd h
check_refused bytes words certificate o m asks document (refusals.Build _) h = absurd h
check_refused bytes words certificate o m asks document (refusals.NotKept _) h = absurd h
check_refused bytes words certificate o m asks document (refusals.Certificate cause) h = (o, asks, (m, document, h))
check_refused bytes words certificate o m asks document refusals.Memory h = tt
