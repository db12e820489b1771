-- A document that has an answer under the words isn't refused for a cause of its own.
use Rattle.std.proofs.Common.{◌≡◌, IsUtf8, None, Some, refl, subst, sym}
use Rattle.krates_cm.specs.Document.{Text}
use Rattle.krates_cli.specs.Lines.{lines_of}
use Rattle.krates_cli.specs.Listing.{IsListing, IsListingOf, ListsPackages}
use Rattle.krates_cli.specs.ListingRefusals as listing
use Rattle.krates_cli.specs.ListingRefusals.{IsUnbuilt, IsUnkept, RunRefusal}
use Rattle.krates_cli.specs.Options.{OptionsModel, setting_of}
use Rattle.krates_cli.specs.Request.{Request}
use Rattle.krates_cli.specs.declared.run_error.RunError.{RunError}
use Rattle.krates_cli.specs.declared.run_error.RunError.TheVariants as runs
use Rattle.krates_ids.specs.Identity.{Identity}
use Rattle.krates_ids.specs.declared.error.Error as build
use Rattle.krates_rules.specs.Setting.{SettingModel}
use Rattle.krates_foreign.proofs.AskedLemmas.{AskOnce}
use Rattle.krates_foreign.specs.Asked.{AsksFor, Under}
use Rattle.krates_foreign.specs.Calls.{Draws, Explains, IsOutside, ListRefusal, Lists, WhyRefusal}
use Rattle.krates_foreign.specs.Documents.{OfDocument}
use Rattle.krates_foreign.specs.declared.refusal.CallRefusal.{CallRefusal}
use Rattle.krates_foreign.specs.declared.refusal.CallRefusal.TheVariants as refusals
use Rattle.krates_rules.proofs.Readings.{ReadsOnce}

-- a text that has a listing is refused by a run for a cause that isn't the text's
abbrev pub ListsOrRefuses : Type 0
ListsOrRefuses = (a : Request) (bytes lines : Text) (cause : RunError) → IsUtf8 bytes → IsListing a bytes lines → RunRefusal a bytes cause → listing.IsOutside cause

-- what holds under the words holds of the options that they are
under : AskOnce → (words : Text) (o : OptionsModel) (P : SettingModel → Type 0) → AsksFor words o → Under words P → P (setting_of o)
under once words o P asks (p, also, holds) = subst (λ (x : OptionsModel). P (setting_of x)) (once _ p o also.options asks.options) holds

-- a document with a listing
abbrev HasListing : Request → Text → Text → Type 0
HasListing a bytes lines = OfDocument bytes (λ m. IsListingOf a m lines)

listing_in : (a : Request) (bytes lines : Text) → HasListing a bytes lines → IsListing a bytes lines
listing_in a bytes lines (m, document, lists) = record { metadata = m; document = document.document; lists = lists }

unbuilt : ListsOrRefuses → (a : Request) (bytes lines : Text) (e : CallRefusal) (cause : build.Error) → e ≡ refusals.Build cause → HasListing a bytes lines → OfDocument bytes (λ m. IsUnbuilt a.setting m cause) → IsOutside e
unbuilt law a bytes lines e cause is has (n, document, h) =
    subst IsOutside (sym is) (law a bytes lines (runs.Build cause) document.is_text (listing_in a bytes lines has) (document.is_text, record { metadata = n; document = document.document; unbuilt = h }))

-- a listing under the options, and a refusal about the words and the document
refused : ListsOrRefuses → AskOnce → (a : Request) (bytes words lines : Text) (o : OptionsModel) (e : CallRefusal) → a.setting ≡ setting_of o → AsksFor words o → HasListing a bytes lines → ListRefusal bytes words e → IsOutside e
refused law once a bytes words lines o refusals.Words same asks has h = absurd (h o asks)
refused law once a bytes words lines o refusals.Utf8 same asks has h = absurd (h.1 has.1.is_text)
refused law once a bytes words lines o (refusals.Parse cause) same asks has h = absurd (law a bytes lines (runs.Parse cause) h.1.0 (listing_in a bytes lines has) h.1)
refused law once a bytes words lines o (refusals.Build cause) same asks has h =
    let unbuilt_of = λ (s : SettingModel). OfDocument bytes (λ m. IsUnbuilt s m cause) in
    unbuilt law a bytes lines (refusals.Build cause) cause refl has (subst unbuilt_of (sym same) (under once words o unbuilt_of asks h))
refused law once a bytes words lines o refusals.Memory same asks has h = tt
refused law once a bytes words lines o refusals.Id same asks has h = absurd h.1
refused law once a bytes words lines o (refusals.NotKept _) same asks has h = absurd h.1
refused law once a bytes words lines o (refusals.Certificate _) same asks has h = absurd h.1

pub listed_refused : ListsOrRefuses → AskOnce → (bytes words lines : Text) (e : CallRefusal) → Lists bytes words lines → ListRefusal bytes words e → IsOutside e
listed_refused law once bytes words lines e (o, asks, has) h = refused law once (record { setting = setting_of o; explaining = None }) bytes words lines o e refl asks has h

pub drawn_refused : ListsOrRefuses → AskOnce → (bytes words lines : Text) (e : CallRefusal) → Draws bytes words lines → ListRefusal bytes words e → IsOutside e
drawn_refused law once bytes words lines e (o, asks, (m, document, draws)) h =
    let packages : ListsPackages (setting_of o) m (lines_of draws.kept draws.others) = record { kept = draws.kept; others = draws.others; split = draws.split; written = refl } in
    listed_refused law once bytes words (lines_of draws.kept draws.others) e (o, asks, (m, document, packages)) h

-- the document keeps the crate, so it isn't refused for that
kept : ListsOrRefuses → AskOnce → (bytes words lines : Text) (o : OptionsModel) (krate : Identity) → AsksFor words o → HasListing (record { setting = setting_of o; explaining = Some krate }) bytes lines
    → Under words (λ s. OfDocument bytes (λ m. IsUnkept (record { setting = s; explaining = Some krate }) m krate)) → ⊥
kept law once bytes words lines o krate asks has lacks =
    let a : Request = record { setting = setting_of o; explaining = Some krate } in
    let lacking = λ (s : SettingModel). OfDocument bytes (λ m. IsUnkept (record { setting = s; explaining = Some krate }) m krate) in
    let w = under once words o lacking asks lacks in
    law a bytes lines (runs.NotKept krate) w.1.is_text (listing_in a bytes lines has) (w.1.is_text, record { metadata = w.0; document = w.1.document; unkept = w.2 })

pub explained_refused : ListsOrRefuses → AskOnce → ReadsOnce → (bytes words id lines : Text) (e : CallRefusal) → Explains bytes words id lines → WhyRefusal bytes words id e → IsOutside e
explained_refused law once reads bytes words id lines refusals.Id (krate, names, rest) h = absurd (h.1 krate names)
explained_refused law once reads bytes words id lines (refusals.NotKept other) (krate, names, (o, asks, has)) (also, lacks) =
    let that = reads id other krate also.1 names.1 in
    absurd (kept law once bytes words lines o krate asks has (subst (λ (k : Identity). Under words (λ s. OfDocument bytes (λ m. IsUnkept (record { setting = s; explaining = Some k }) m k))) that lacks))
explained_refused law once reads bytes words id lines refusals.Words (krate, names, (o, asks, has)) h = refused law once (record { setting = setting_of o; explaining = Some krate }) bytes words lines o refusals.Words refl asks has h
explained_refused law once reads bytes words id lines refusals.Utf8 (krate, names, (o, asks, has)) h = refused law once (record { setting = setting_of o; explaining = Some krate }) bytes words lines o refusals.Utf8 refl asks has h.1
explained_refused law once reads bytes words id lines (refusals.Parse cause) (krate, names, (o, asks, has)) h = refused law once (record { setting = setting_of o; explaining = Some krate }) bytes words lines o (refusals.Parse cause) refl asks has h.1
explained_refused law once reads bytes words id lines (refusals.Build cause) (krate, names, (o, asks, has)) h = refused law once (record { setting = setting_of o; explaining = Some krate }) bytes words lines o (refusals.Build cause) refl asks has h.1
explained_refused law once reads bytes words id lines refusals.Memory (krate, names, (o, asks, has)) h = tt
explained_refused law once reads bytes words id lines (refusals.Certificate _) (krate, names, (o, asks, has)) h = absurd h.1.1
