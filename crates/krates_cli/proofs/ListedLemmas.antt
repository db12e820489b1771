-- A text that has a listing is refused for nothing that is said of it.
use Rattle.std.proofs.Common.{◌≡◌, List, [], Option, Some, None, IsSome, IsUtf8, refl, ap, sym, ◌∙◌, ◌⊎◌, subst, inl, inr, string_bytes}
use Rattle.std.proofs.lemmas.Option.{none-some, same_Some}
use Rattle.std.specs.Prelude.{MatchOption}
use Rattle.krates_cm.specs.Document.{Text, MetadataModel, metadata_view}
use Rattle.krates_cm.specs.declared.error.Error as cm
use Rattle.krates_cm.specs.declared.error.Error.TheVariants as cm_errors
use Rattle.krates_cm.specs.declared.metadata.Metadata.{Metadata}
use Rattle.krates_cm.specs.declared.package.Package.{Package}
use Rattle.krates_cm_json.specs.Parsing.{IsDocument, IsRefusal}
use Rattle.krates_cm_json.specs.Tables.{metadata}
use Rattle.krates_rules.specs.StepViews.{steps_view}
use Rattle.krates_ids.specs.Identity.{Identity}
use Rattle.krates_ids.specs.declared.error.Error as build
use Rattle.krates_ids.specs.declared.error.Error.TheVariants as build_errors
use Rattle.krates_rules.specs.Admission.{IsInvalidId, IsDoubled}
use Rattle.krates_rules.specs.Checks.{LastIsDerivable}
use Rattle.krates_rules.specs.Facts.{Crate}
use Rattle.krates_rules.specs.Questions.{questions}
use Rattle.krates_rules.specs.Resolution.{RefusesSelection}
use Rattle.krates_rules.specs.Resolved.{HasGraphWith, id_of, resolved}
use Rattle.krates_rules.specs.SelectionRefusals.{HasNoRoot, cause_of}
use Rattle.krates_rules.specs.Setting.{SettingModel}
use Rattle.krates_rules.proofs.AdmittedTexts.{none_invalid, of_graph}
use Rattle.krates_rules.proofs.Readings.{ReadsOnce}
use Rattle.krates.proofs.ResolvableLemmas.{admitted_of}
use Rattle.krates.specs.Build.{BuildRefusalAsGiven, KeepsCrate}
use Rattle.krates_cli.specs.CommandLine.{AskForListing, AskForProgram, IsCause, LinesRefusal}
use Rattle.krates_cli.specs.Listing.{ExplainsCrate, IsListing, IsListingOf, IsSplit, ListsPackages}
use Rattle.krates_cli.specs.ListingRefusals.{IsOutside, IsUnkept, KeepsNot, RunRefusal}
use Rattle.krates_cli.specs.Options.{OptionsModel, IsCommandLine, request_of}
use Rattle.krates_cli.specs.Request.{Request}
use Rattle.krates_cli.specs.declared.run_error.RunError.{RunError}
use Rattle.krates_cli.specs.declared.run_error.RunError.TheVariants as errors

-- a text is one document
one_document : (text : Text) (a b : MetadataModel) → IsDocument text a → IsDocument text b → a ≡ b
one_document text a b (d, reads, is) (e, also, was) =
    same_Some a b (sym is ∙ ap (λ x. (metadata [] x).value) (same_Some d e (sym reads ∙ also)) ∙ was)

-- a document is refused as none for nothing but memory
document_refused : (text : Text) (m : MetadataModel) (cause : cm.Error) → IsDocument text m → IsRefusal text cause → cause ≡ cm_errors.Memory
document_refused text m (cm_errors.Json e) (d, reads, is) none = absurd (none-some d (sym none.0 ∙ reads))
document_refused text m (cm_errors.Value e) (d, reads, is) (other, also, none, fault) =
    absurd (none-some m (sym none ∙ ap (λ x. (metadata [] x).value) (same_Some other d (sym also ∙ reads)) ∙ is))
document_refused text m cm_errors.Memory document refused = refl
document_refused text m (cm_errors.CargoMetadata _) document refused = absurd refused
document_refused text m (cm_errors.Io _) document refused = absurd refused
document_refused text m (cm_errors.Utf8 _) document refused = absurd refused
document_refused text m (cm_errors.ErrUtf8 _) document refused = absurd refused
document_refused text m cm_errors.NoJson document refused = absurd refused
document_refused text m cm_errors.FeaturesTwice document refused = absurd refused
document_refused text m cm_errors.NoManifestParent document refused = absurd refused

-- a document that is divided is refused for nothing but memory, and more crates than can be numbered
divided_refused : ReadsOnce → (s : SettingModel) (m n : Metadata) (kept others : List Package) (cause : build.Error) → metadata_view n ≡ metadata_view m
    → IsSplit s m kept others → BuildRefusalAsGiven n s cause → (cause ≡ build_errors.Memory → ⊥) → cause ≡ build_errors.TooMany
divided_refused once s m n kept others build_errors.NoResolveGraph same split (inl refused) limited =
    absurd (none-some _ (sym (subst (λ (d : MetadataModel). d.resolve ≡ None) same refused) ∙ split.resolvable.has_graph))
divided_refused once s m n kept others (build_errors.InvalidId t) same split (inl refused) limited =
    let both = admitted_of (metadata_view m) split.resolvable in
    let admitted = both.1 in
    let d = metadata_view m in
    let invalid = subst (λ (d : MetadataModel). HasGraphWith d (λ g. IsInvalidId d g (string_bytes t))) same refused in
    absurd (none_invalid once d admitted.graph both.0 (string_bytes t) admitted.read (of_graph d (λ g. IsInvalidId d g (string_bytes t)) admitted.graph admitted.has_graph invalid))
divided_refused once s m n kept others (build_errors.Doubled kid) same split (inl refused) limited =
    let admitted = split.resolvable in
    let d = metadata_view m in
    let doubled = subst (λ (d : MetadataModel). HasGraphWith d (λ g. IsDoubled d g (id_of kid))) same refused in
    absurd (admitted.none_doubled (id_of kid) (of_graph d (λ g. IsDoubled d g (id_of kid)) admitted.graph admitted.has_graph doubled))
divided_refused once s m n kept others build_errors.Memory same split refused limited = absurd (limited refl)
divided_refused once s m n kept others _ same split (inl refused) limited = absurd refused
divided_refused once s m n kept others (build_errors.Lost what) same split (inr refused) limited =
    absurd (split.none_lost (cause_of what) (subst (λ (d : MetadataModel). RefusesSelection d s (build_errors.Lost what)) same refused.1))
divided_refused once s m n kept others build_errors.NoRootKrates same split (inr refused) limited =
    let some = split.some.1 in
    let d = metadata_view m in
    let rootless = subst (λ (d : MetadataModel). HasGraphWith d (λ g. HasNoRoot (questions (resolved d g) s))) same refused.1 in
    absurd ((of_graph d (λ g. HasNoRoot (questions (resolved d g) s)) some.graph some.has_graph rootless).no_crate split.some.0 some.holds)
divided_refused once s m n kept others build_errors.TooMany same split (inr refused) limited = refl
divided_refused once s m n kept others _ same split (inr refused) limited = absurd refused.1.holds

-- the packages of a document that has a listing
split_of : (s : SettingModel) (m : Metadata) (lines : Text) (explaining : Option Identity) → MatchOption explaining (ListsPackages s m lines) (λ krate. ExplainsCrate s m krate lines)
    → (kept : List Package) × (others : List Package) × IsSplit s m kept others
split_of s m lines None lists = (lists.kept, lists.others, lists.split)
split_of s m lines (Some krate) lists = (lists.kept, lists.others, lists.split)

-- a crate whose derivation is a document's listing has a derivation
explained_kept : LastIsDerivable → (a : Request) (m : Metadata) (krate : Identity) (lines : Text) → a.explaining ≡ Some krate → IsListingOf a m lines → KeepsCrate (metadata_view m) a.setting (id_of krate)
explained_kept law a m krate lines asked lists =
    let e : ExplainsCrate a.setting m krate lines = subst (λ (o : Option Identity). MatchOption o (ListsPackages a.setting m lines) (λ i. ExplainsCrate a.setting m i lines)) asked lists in
    let accepted = e.why.accepted.holds in record {
      graph = accepted.graph;
      has_graph = accepted.has_graph;
      holds = law (resolved (metadata_view m) accepted.graph) a.setting (steps_view e.steps) (Crate (id_of krate)) accepted.holds e.why.ends;
    }

-- a document that has a listing keeps what is to be explained
none_unkept : LastIsDerivable → (a : Request) (m n : Metadata) (krate : Identity) (lines : Text) → metadata_view n ≡ metadata_view m → IsListingOf a m lines → IsUnkept a n krate → ⊥
none_unkept law a m n krate lines same lists unkept =
    unkept.dropped (subst (λ (d : MetadataModel). KeepsCrate d a.setting (id_of krate)) (sym same) (explained_kept law a m krate lines unkept.asked lists))

-- a run over a text that has a listing is refused for a cause that isn't the text's
pub listed_refused : ReadsOnce → LastIsDerivable → (a : Request) (bytes lines : Text) (cause : RunError) → IsUtf8 bytes → IsListing a bytes lines → RunRefusal a bytes cause → IsOutside cause
listed_refused once law a bytes lines errors.Read utf8 listing refused = tt
listed_refused once law a bytes lines errors.Utf8 utf8 listing refused = refused utf8
listed_refused once law a bytes lines (errors.Parse cause) utf8 listing (_, refused) =
    absurd (refused.not_memory (document_refused bytes (metadata_view listing.metadata) cause listing.document refused.refused))
listed_refused once law a bytes lines (errors.Build cause) utf8 listing (_, refused) =
    let same = one_document bytes (metadata_view refused.metadata) (metadata_view listing.metadata) refused.document listing.document in
    let split = split_of a.setting listing.metadata lines a.explaining listing.lists in
    divided_refused once a.setting listing.metadata refused.metadata split.0 split.1 cause same split.2 refused.unbuilt.refused refused.unbuilt.not_memory
listed_refused once law a bytes lines (errors.NotKept krate) utf8 listing (_, refused) =
    let same = one_document bytes (metadata_view refused.metadata) (metadata_view listing.metadata) refused.document listing.document in
    absurd (none_unkept law a listing.metadata refused.metadata krate lines same listing.lists refused.unkept)
listed_refused once law a bytes lines errors.Write utf8 listing refused = tt
listed_refused once law a bytes lines errors.Memory utf8 listing refused = tt

-- a run over a text that doesn't keep the crate that is to be explained is refused for that, or for a cause that isn't the text's
pub unkept_refused : ReadsOnce → (a : Request) (bytes : Text) (krate : Identity) (cause : RunError) → IsUtf8 bytes → KeepsNot a bytes krate → RunRefusal a bytes cause → (cause ≡ errors.NotKept krate) ⊎ IsOutside cause
unkept_refused once a bytes krate errors.Read utf8 unkept refused = inr tt
unkept_refused once a bytes krate errors.Utf8 utf8 unkept refused = absurd (refused utf8)
unkept_refused once a bytes krate (errors.Parse cause) utf8 unkept (_, refused) =
    absurd (refused.not_memory (document_refused bytes (metadata_view unkept.metadata) cause unkept.document refused.refused))
unkept_refused once a bytes krate (errors.Build cause) utf8 unkept (_, refused) =
    let same = one_document bytes (metadata_view refused.metadata) (metadata_view unkept.metadata) refused.document unkept.document in
    let u = unkept.unkept in
    inr (divided_refused once a.setting unkept.metadata refused.metadata u.kept u.others cause same u.split refused.unbuilt.refused refused.unbuilt.not_memory)
unkept_refused once a bytes krate (errors.NotKept other) utf8 unkept (_, refused) =
    inl (ap (λ (i : Identity). errors.NotKept i) (same_Some other krate (sym refused.unkept.asked ∙ unkept.unkept.asked)))
unkept_refused once a bytes krate errors.Write utf8 unkept refused = inr tt
unkept_refused once a bytes krate errors.Memory utf8 unkept refused = inr tt

-- words mean one thing
abbrev pub AskOnce : Type 0
AskOnce = (words : List Text) (a b : OptionsModel) → IsCommandLine words a → IsCommandLine words b → a ≡ b

-- what refuses lines that are read refuses a run
read_refused : (cargo : Option Text) (a : Request) (bytes : Text) (cause : RunError) → cargo ≡ None → LinesRefusal cargo a (Some bytes) cause → RunRefusal a bytes cause
read_refused None a bytes cause none refused = refused
read_refused (Some program) a bytes cause none refused = absurd (none-some program (sym none))

-- the same of the words and of what is to be read
pub asked_refused : ReadsOnce → LastIsDerivable → AskOnce → (words : List Text) (remaining : Option Text) (cause : RunError) → AskForListing words remaining → IsCause words remaining cause → IsOutside cause
asked_refused once law alone words remaining cause listed (inl memory) = subst IsOutside (sym memory) tt
asked_refused once law alone words None cause listed (inr asked) = absurd listed.2.1
asked_refused once law alone words (Some bytes) cause listed (inr asked) =
    let same = alone words asked.0 listed.0 asked.1 listed.1 in
    let refused = subst (λ (o : OptionsModel). LinesRefusal o.cargo (request_of o) (Some bytes) cause) same asked.2 in
    listed_refused once law (request_of listed.0) bytes listed.2.1.1.0 cause listed.2.1.0 listed.2.1.1.1 (read_refused listed.0.cargo (request_of listed.0) bytes cause listed.2.0 refused)

-- words that set a program have one set in their options, so what follows from that holds
pub where_program : AskOnce → (words : List Text) (o : OptionsModel) (P : Type 0) → IsCommandLine words o → (IsSome o.cargo → P) → AskForProgram words → P
where_program alone words o P line h asked = h (subst (λ (a : OptionsModel). IsSome a.cargo) (alone words asked.0 o asked.1 line) asked.2)
