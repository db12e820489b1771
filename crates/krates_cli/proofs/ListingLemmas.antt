-- What a refused build says of a text.
use Rattle.std.proofs.Common.{◌≡◌, ◌<◌, ◌∷◌, ◌++◌, codes, ℕ, zero, suc, List, [], true, Option, None, Some, IfSome, IsUtf8, Result, Ok, Err, IfOk, IfErr, String, Global, string_bytes, arith, get_or, length, map, refl, sym, ap, subst, ◌∙◌, inl, inr}
use Rattle.std.specs.List.{AllZip}
use Rattle.std.specs.Prelude.{MatchOption, ⊤}
use Rattle.krates_cm.specs.Document.{Text, metadata_view}
use Rattle.krates_cm.specs.declared.error.Error as cm
use Rattle.krates_cm.specs.declared.metadata.Metadata.{Metadata}
use Rattle.krates_cm.specs.declared.package.Package.{Package}
use Rattle.krates_cm.specs.declared.package_id.PackageId.{PackageId}
use Rattle.krates_cm_json.specs.Parsing.{IsDocument}
use Rattle.krates_cargo.specs.Running.{IsSomeAnswer, IsUnrun}
use Rattle.krates_drawing.specs.declared.edge.Edge.{Edge}
use Rattle.krates_ids.specs.declared.error.Error as build
use Rattle.krates_ids.specs.Identity.{Identity}
use Rattle.krates_rules.specs.Facts.{Id}
use Rattle.krates_rules.specs.Resolved.{StandsAt, id_of, resolved}
use Rattle.krates_rules.specs.Setting.{SettingModel}
use Rattle.krates_ids.specs.declared.error.Error.TheVariants as causes
use Rattle.krates.specs.Build.{BuildRefusal, KeepsCrate, IsBuilt, BuildRefusalAsGiven, GraphRefusal, IsResolvable}
use Rattle.krates.specs.Indexed.{Answering, Sees}
use Rattle.krates.proofs.ResolvableLemmas.{admitted_of}
use Rattle.krates.proofs.SeenLemmas.{as_given}
use Rattle.krates_cli.specs.declared.run_error.RunError.{RunError}
use Rattle.krates_cli.specs.declared.run_error.RunError.TheVariants as errors
use Rattle.krates_queries.specs.Kept.{KeptCrates, ids_of, values_of}
use Rattle.krates_cli.specs.CargoListing.{CargoRefusal, IsCargoListing}
use Rattle.krates_cli.specs.Counted.{AppendsFront}
use Rattle.krates_cli.specs.Lines.{IsListedOf, id_line, kept_lines, line, listed_lines, reported_lines}
use Rattle.krates_cli.specs.Listing.{ExplainsCrate, IsListing, IsListingOf, IsSplit, ListsPackages, WritesBeginning}
use Rattle.krates_cli.specs.ListingRefusals.{IsUnlisted, ListingRefusal, RunRefusal}
use Rattle.krates_cli.specs.Reported.{Reports, lines_in, is_whole}
use Rattle.krates_cli.specs.Request.{Request}
use Rattle.krates_cli.specs.WhyKept.{ExplainsKept, IsUnexplained}
use Rattle.krates_cli.specs.declared.listed.Listed.{Listed}
use Rattle.krates_cli.specs.declared.reported.Reported.{Reported}
use Rattle.krates_cli.proofs.ReportedLemmas.{all_reported}
use Rattle.krates_cli.specs.RunError.{BuildErrorBecomes, ParseErrorBecomes}

-- of a refusal that isn't a failed write
abbrev NoWrite : RunError → Type 0
NoWrite errors.Write = ⊥
NoWrite _ = ⊤

-- without an index the document is looked at as it is given
pub refused_as_given : {S : Type 0} (may_answer : Answering S) (m : Metadata) (s : SettingModel) (cause : build.Error) → BuildRefusal may_answer None m s cause → BuildRefusalAsGiven m s cause
refused_as_given a m s cause (inl given) = inl given
refused_as_given a m s cause (inr seen) = inr (seen.0, as_given a m (λ seen. GraphRefusal (metadata_view seen) s cause) seen.1)

-- a document whose build is refused has no listing, for the same reason
pub unbuilt : (a : Request) (m : Metadata) (cause : build.Error) (e : RunError) → BuildRefusalAsGiven m a.setting cause → BuildErrorBecomes cause e → IsUnlisted a m e
unbuilt a m cause (errors.Build same) refused becomes = record {
  refused = subst (BuildRefusalAsGiven m a.setting) (sym becomes.0) refused;
  not_memory = λ is_memory. becomes.1 (sym becomes.0 ∙ is_memory);
}
unbuilt a m cause errors.Memory refused becomes = tt
unbuilt a m cause errors.Read refused becomes = absurd becomes
unbuilt a m cause errors.Utf8 refused becomes = absurd becomes
unbuilt a m cause (errors.Parse same) refused becomes = absurd becomes
unbuilt a m cause errors.Write refused becomes = absurd becomes
unbuilt a m cause (errors.NotKept krate) refused becomes = absurd becomes

-- and neither has its text
pub text_unlisted : (a : Request) (text : Text) (m : Metadata) (e : RunError) → IsDocument text (metadata_view m) → IsUnlisted a m e → ListingRefusal a text e
text_unlisted a text m (errors.Build cause) document unlisted = record { metadata = m; document = document; unbuilt = unlisted }
text_unlisted a text m errors.Memory document unlisted = tt
text_unlisted a text m (errors.NotKept krate) document unlisted = record { metadata = m; document = document; unkept = unlisted }
text_unlisted a text m errors.Read document unlisted = absurd unlisted
text_unlisted a text m errors.Utf8 document unlisted = absurd unlisted
text_unlisted a text m (errors.Parse cause) document unlisted = absurd unlisted
text_unlisted a text m errors.Write document unlisted = absurd unlisted

-- nor a run of cargo that wrote it; it isn't a failed write
pub cargo_unlisted : (a : Request) (m : Metadata) (e : RunError) → IsSomeAnswer (metadata_view m) → IsUnlisted a m e → CargoRefusal a e × (e ≡ errors.Write → ⊥)
cargo_unlisted a m (errors.Build cause) written unlisted = (record { metadata = m; written = written; holds = unlisted }, λ is. subst NoWrite is tt)
cargo_unlisted a m errors.Memory written unlisted = (tt, λ is. subst NoWrite is tt)
cargo_unlisted a m (errors.NotKept krate) written unlisted = (record { metadata = m; written = written; holds = unlisted }, λ is. subst NoWrite is tt)
cargo_unlisted a m errors.Read written unlisted = absurd unlisted
cargo_unlisted a m errors.Utf8 written unlisted = absurd unlisted
cargo_unlisted a m (errors.Parse cause) written unlisted = absurd unlisted
cargo_unlisted a m errors.Write written unlisted = absurd unlisted

-- ---- of the answers of calls

pub text_listed : {E : Type 0} (a : Request) (text : Text) (m : Metadata) (r : Result (String Global) E) → IsDocument text (metadata_view m) → IfOk r (λ lines. IsListingOf a m (string_bytes lines))
    → IfOk r (λ lines. IsListing a text (string_bytes lines))
text_listed a text m (Ok lines) document listed = record { metadata = m; document = document; lists = listed }
text_listed a text m (Err e) document listed = listed

pub text_refused : {A : Type 0} (a : Request) (text : Text) (m : Metadata) (r : Result A RunError) → IsDocument text (metadata_view m) → IfErr r (IsUnlisted a m) → IfErr r (ListingRefusal a text)
text_refused a text m (Ok x) document unlisted = unlisted
text_refused a text m (Err e) document unlisted = text_unlisted a text m e document unlisted

pub cargo_listed : {E : Type 0} (a : Request) (m : Metadata) (r : Result (String Global) E) → IsSomeAnswer (metadata_view m) → IfOk r (λ lines. IsListingOf a m (string_bytes lines))
    → IfOk r (λ lines. IsCargoListing a (string_bytes lines))
cargo_listed a m (Ok lines) written listed = record { metadata = m; written = written; holds = listed }
cargo_listed a m (Err e) written listed = listed

pub cargo_refused : {A : Type 0} (a : Request) (m : Metadata) (r : Result A RunError) → IsSomeAnswer (metadata_view m) → IfErr r (IsUnlisted a m) → IfErr r (λ e. CargoRefusal a e × (e ≡ errors.Write → ⊥))
cargo_refused a m (Ok x) written unlisted = unlisted
cargo_refused a m (Err e) written unlisted = cargo_unlisted a m e written unlisted

-- a run of cargo without a document has no listing, and isn't a failed write
pub cargo_unrun : (a : Request) (cause : cm.Error) (e : RunError) → IsUnrun cause → ParseErrorBecomes cause e → CargoRefusal a e × (e ≡ errors.Write → ⊥)
cargo_unrun a cause (errors.Parse same) unrun becomes = (
  record { unrun = subst IsUnrun (sym becomes.0) unrun; not_memory = λ is_memory. becomes.1 (sym becomes.0 ∙ is_memory) },
  λ is. subst NoWrite is tt,
)
cargo_unrun a cause errors.Memory unrun becomes = (tt, λ is. subst NoWrite is tt)
cargo_unrun a cause errors.Read unrun becomes = absurd becomes
cargo_unrun a cause errors.Utf8 unrun becomes = absurd becomes
cargo_unrun a cause (errors.Build same) unrun becomes = absurd becomes
cargo_unrun a cause errors.Write unrun becomes = absurd becomes
cargo_unrun a cause (errors.NotKept krate) unrun becomes = absurd becomes

-- what is listed of packages has the lines of these
lines_listed : (packages : List Package) (values : List Listed) → AllZip IsListedOf packages values → listed_lines values ≡ kept_lines packages
lines_listed [] [] h = refl
lines_listed [] (l ∷ values) h = absurd h
lines_listed (pkg ∷ packages) [] h = absurd h
lines_listed (pkg ∷ packages) (l ∷ values) h =
    ap (λ (id : PackageId). id_line (codes "+ ") id ++ listed_lines values) h.0 ∙ ap (λ ls. line (codes "+ ") pkg ++ ls) (lines_listed packages values h.1)

-- what is built without an index is built from the document as it is given
pub built_as_given : {S F N E : Type 0} (may_answer : Answering S) (index : Option S) (s meant : SettingModel) (m : Metadata) (filters : F → Package → F → Type 0) (made : Package → N → Type 0) (made_edge : Edge → E → Type 0) (kept : KeptCrates N E) (before after : F)
    → index ≡ None → s ≡ meant
    → Sees may_answer index m (λ seen. IsBuilt filters made made_edge seen s before after kept) → IsBuilt filters made made_edge m meant before after kept
built_as_given may_answer index s meant m filters made made_edge kept before after none same sees =
    subst (λ t. IsBuilt filters made made_edge m t before after kept) same (as_given may_answer m (λ seen. IsBuilt filters made made_edge seen s before after kept) (subst (λ i. Sees may_answer i m (λ seen. IsBuilt filters made made_edge seen s before after kept)) none sees))

-- its packages are those that are kept, and those that are reported
pub split_by : {F N E : Type 0} (filters : F → Package → F → Type 0) (made : Package → N → Type 0) (made_edge : Edge → E → Type 0) (s : SettingModel) (m : Metadata) (kept : KeptCrates N E) (before after : F)
    → IsResolvable (metadata_view m) → (built : IsBuilt filters made made_edge m s before after kept)
    → IsSplit s m built.values.packages built.reported.others
split_by filters made made_edge s m kept before after resolvable built = record {
  resolvable = resolvable;
  none_lost = built.none_lost;
  some = built.some;
  kept_ids = ids_of kept;
  every = built.kept;
  kept_are = built.values.those;
  other_ids = built.reported.ids;
  others_are = built.reported.not_kept;
}

-- and the lines of both are its list
pub listed : (s : SettingModel) (m : Metadata) (made_edge : Edge → Edge → Type 0) (kept : KeptCrates Listed Edge) (before after : Reported) (lines told : Text) → IsResolvable (metadata_view m) → IsBuilt Reports IsListedOf made_edge m s before after kept
    → lines_in before ≡ [] → is_whole after ≡ true → told ≡ lines_in after → lines ≡ listed_lines (values_of kept) ++ told → ListsPackages s m lines
listed s m made_edge kept before after lines told resolvable built empty whole told_is written =
    let reported = built.reported in
    let collected = all_reported before reported.others after reported.run whole in
    let others : told ≡ reported_lines reported.others = told_is ∙ collected.1 ∙ ap (λ ls. ls ++ reported_lines reported.others) empty in record {
      kept = built.values.packages;
      others = reported.others;
      split = split_by Reports IsListedOf made_edge s m kept before after resolvable built;
      written = written ∙ ap (λ ls. listed_lines (values_of kept) ++ ls) others ∙ ap (λ ls. ls ++ reported_lines reported.others) (lines_listed built.values.packages (values_of kept) built.values.made_of);
    }

-- the lines of a derivation of a crate that is kept explain it
pub explained : (s : SettingModel) (m : Metadata) (made_edge : Edge → Edge → Type 0) (kept : KeptCrates Listed Edge) (before after : Reported) (krate : Identity) (lines : Text) → IsResolvable (metadata_view m) → IsBuilt Reports IsListedOf made_edge m s before after kept
    → ExplainsKept kept krate lines → ExplainsCrate s m krate lines
unfolding split_by
explained s m made_edge kept before after krate lines resolvable built e =
    let follows = built.explained.follows in record {
      kept = built.values.packages;
      others = built.reported.others;
      split = split_by Reports IsListedOf made_edge s m kept before after resolvable built;
      steps = e.steps;
      why = record {
        accepted = record {
          ids = (admitted_of (metadata_view m) resolvable).0;
          admitted = (admitted_of (metadata_view m) resolvable).1;
          holds = record { graph = follows.graph; has_graph = follows.has_graph; holds = e.why.accepted (resolved (metadata_view m) follows.graph) s follows.holds };
        };
        ends = e.ends;
        own = e.why.own;
        used = e.why.used;
        ids = e.why.ids;
      };
      written = e.written;
    }

-- what is in the list of ids is at some place of it
place_of : (ids : List Identity) (i : Id) (k : ℕ) → k < length (map id_of ids) → get_or (map id_of ids) k i ≡ i → (n : ℕ) × StandsAt ids i n
place_of [] i k lt is = absurd (omega arith)
place_of (x ∷ xs) i zero lt is = (0, record { there = x; at = refl; same = is })
place_of (x ∷ xs) i (suc k) lt is = let w = place_of xs i k (omega arith) is in (suc w.0, record { there = w.1.there; at = w.1.at; same = w.1.same })

-- a crate that a build doesn't keep has no derivation; and where memory ran out, it did
pub unexplained : (a : Request) (m : Metadata) (made_edge : Edge → Edge → Type 0) (kept : KeptCrates Listed Edge) (before after : Reported) (krate : Identity) (e : RunError) → IsResolvable (metadata_view m) → IsBuilt Reports IsListedOf made_edge m a.setting before after kept
    → a.explaining ≡ Some krate → IsUnexplained kept krate e → IsUnlisted a m e
unexplained a m made_edge kept before after krate (errors.NotKept same) resolvable built asked why = record {
  asked = asked ∙ ap (λ (i : Identity). Some i) (sym why.0);
  kept = built.values.packages;
  others = built.reported.others;
  split = split_by Reports IsListedOf made_edge a.setting m kept before after resolvable built;
  dropped = λ keeps.
      let among = (built.kept (id_of krate)).0 (subst (λ (i : Identity). KeepsCrate (metadata_view m) a.setting (id_of i)) why.0 keeps) in
      let w = place_of (ids_of kept) (id_of krate) among.0 among.1 among.2 in
      why.1 w.0 w.1;
}
unexplained a m made_edge kept before after krate errors.Memory resolvable built asked why = tt
unexplained a m made_edge kept before after krate errors.Read resolvable built asked why = absurd why
unexplained a m made_edge kept before after krate errors.Utf8 resolvable built asked why = absurd why
unexplained a m made_edge kept before after krate (errors.Parse cause) resolvable built asked why = absurd why
unexplained a m made_edge kept before after krate (errors.Build cause) resolvable built asked why = absurd why
unexplained a m made_edge kept before after krate errors.Write resolvable built asked why = absurd why

-- what is written where a crate is to be explained, and where none is
pub asked_for : {E : Type 0} (a : Request) (m : Metadata) (krate : Identity) (r : Result (String Global) E) → a.explaining ≡ Some krate → IfOk r (λ lines. ExplainsCrate a.setting m krate (string_bytes lines)) → IfOk r (λ lines. IsListingOf a m (string_bytes lines))
asked_for a m krate (Ok lines) asked explains = subst (λ (o : Option Identity). MatchOption o (ListsPackages a.setting m (string_bytes lines)) (λ i. ExplainsCrate a.setting m i (string_bytes lines))) (sym asked) explains
asked_for a m krate (Err e) asked explains = explains

pub none_asked_for : (a : Request) (m : Metadata) (lines : Text) → a.explaining ≡ None → ListsPackages a.setting m lines → IsListingOf a m lines
none_asked_for a m lines none lists = subst (λ (o : Option Identity). MatchOption o (ListsPackages a.setting m lines) (λ i. ExplainsCrate a.setting m i lines)) (sym none) lists

-- ---- the answer of the derivation

pub explained_answer : {E : Type 0} (s : SettingModel) (m : Metadata) (made_edge : Edge → Edge → Type 0) (kept : KeptCrates Listed Edge) (before after : Reported) (krate : Identity) (r : Result (String Global) E) → IsResolvable (metadata_view m) → IsBuilt Reports IsListedOf made_edge m s before after kept
    → IfOk r (λ lines. ExplainsKept kept krate (string_bytes lines)) → IfOk r (λ lines. ExplainsCrate s m krate (string_bytes lines))
explained_answer s m made_edge kept before after krate (Ok lines) resolvable built e = explained s m made_edge kept before after krate (string_bytes lines) resolvable built e
explained_answer s m made_edge kept before after krate (Err e) resolvable built h = h

pub unexplained_answer : {A : Type 0} (a : Request) (m : Metadata) (made_edge : Edge → Edge → Type 0) (kept : KeptCrates Listed Edge) (before after : Reported) (krate : Identity) (r : Result A RunError) → IsResolvable (metadata_view m) → IsBuilt Reports IsListedOf made_edge m a.setting before after kept
    → a.explaining ≡ Some krate → IfErr r (IsUnexplained kept krate) → IfErr r (IsUnlisted a m)
unexplained_answer a m made_edge kept before after krate (Ok x) resolvable built asked h = h
unexplained_answer a m made_edge kept before after krate (Err e) resolvable built asked h = unexplained a m made_edge kept before after krate e resolvable built asked h

-- a text without a listing refuses the run over its bytes
unlisted_run : (a : Request) (bytes : Text) (e : RunError) → IsUtf8 bytes → ListingRefusal a bytes e → RunRefusal a bytes e
unlisted_run a bytes errors.Read utf8 refused = absurd refused
unlisted_run a bytes errors.Utf8 utf8 refused = absurd refused
unlisted_run a bytes (errors.Parse cause) utf8 refused = (utf8, refused)
unlisted_run a bytes (errors.Build cause) utf8 refused = (utf8, refused)
unlisted_run a bytes (errors.NotKept krate) utf8 refused = (utf8, refused)
unlisted_run a bytes errors.Write utf8 refused = absurd refused
unlisted_run a bytes errors.Memory utf8 refused = tt

pub run_refused : (a : Request) (remaining : Option Text) (read text : Text) (e same : RunError) → IfSome remaining (λ left. read ≡ left) → IsUtf8 text → text ≡ read → ListingRefusal a text e → same ≡ e
    → IfSome remaining (λ bytes. RunRefusal a bytes same)
run_refused a None read text e same all utf8 is refused becomes = all
run_refused a (Some left) read text e same all utf8 is refused becomes =
    subst (λ (t : Text). RunRefusal a t same) (is ∙ all) (subst (RunRefusal a text) (sym becomes) (unlisted_run a text e utf8 refused))

-- a beginning of the listing of what was read is written
pub begun : (a : Request) (remaining : Option Text) (read text lines written : Text) (old new : Option Text) → IfSome remaining (λ left. read ≡ left) → IsUtf8 text → text ≡ read
    → IsListing a text lines → written ≡ lines → AppendsFront old new written → IfSome remaining (λ bytes. WritesBeginning a bytes old new)
begun a None read text lines written old new all utf8 same listing is front = all
begun a (Some left) read text lines written old new all utf8 same listing is front = record {
  is_text = subst IsUtf8 (same ∙ all) utf8;
  lines = lines;
  listing = subst (λ t. IsListing a t lines) (same ∙ all) listing;
  appended = subst (AppendsFront old new) is front;
}
