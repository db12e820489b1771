-- Laws of the stable form.
use Rattle.std.proofs.Common.{◌≡◌, ◌≢◌, ℕ, ◌+◌, ◌-◌, [], ◌∷◌, ◌++◌, length, Bool, true, false, refl, sym, ap, ◌∙◌, inl, inr, ⊎_elim, arith, append_assoc, length-append}
use Rattle.std.specs.Prelude.{Option, Some, None, MatchOption}
use Rattle.std.specs.Str.{IsUtf8}
use Rattle.std.proofs.lemmas.Bool.{false≢true}
use Rattle.percent_encoding.specs.Percent.{percent_decode}
use Rattle.krates_cm.specs.Document.{Text}
use Rattle.krates_text.specs.Cuts.{Lacks, Has, FirstCut, LastCut}
use Rattle.krates_ids.specs.Escapes.{AreEscapes}
use Rattle.krates_ids.specs.Identity.{IsNameOfPiece, NameInLeft, IsVersionAlone, IsStableForm, IsGitQuery, IsSource, as_written, decoded, is_git}
use Rattle.krates_ids.specs.Separators.{hash_sign, percent_sign, slash, question_mark, at_sign}
use Rattle.krates_ids.specs.Spans.{StandsAt, Marks}
use Rattle.krates_ids.specs.StableParts.{StandsInLeft, TellsName, IsWithSource}
use Rattle.krates_text.proofs.CutsLemmas.{Lacks-middle, FirstCut-lacks, LastCut-once, LastCut-lacks}
use Rattle.krates_ids.proofs.EscapesLemmas.{percent_decode-lacks, AreEscapes-lacks, IsUtf8-percent_decode}
use Rattle.krates_ids.proofs.SpansLemmas.{IsUtf8-after_cut, IsUtf8-before_cut, IsUtf8-ascii_first, Marks-stands, StandsAt-whole, StandsAt-before, StandsAt-after, StandsAt-within}

-- ---- the name in a left part

pub NameInLeft-no_slash : (left : Text) → Lacks slash left → (n : Text) → NameInLeft left n → ⊥
NameInLeft-no_slash left none n h = LastCut-lacks none h.cut

pub StandsInLeft-git : (left x piece n q : Text) (start : ℕ) → LastCut slash left x piece → is_git left ≡ true → LastCut question_mark piece n q → start ≡ length x + 1 → StandsInLeft left n start
StandsInLeft-git left x piece n q start cut git inner at =
    record { found = record { before = x; piece = piece; cut = cut; name_is = rw git (inr (q, inner)) }; start_is = at }

pub StandsInLeft-git_plain : (left x piece : Text) (start : ℕ) → LastCut slash left x piece → is_git left ≡ true → Lacks question_mark piece → start ≡ length x + 1 → StandsInLeft left piece start
StandsInLeft-git_plain left x piece start cut git none at =
    record { found = record { before = x; piece = piece; cut = cut; name_is = rw git (inl (none, refl)) }; start_is = at }

pub StandsInLeft-plain : (left x piece : Text) (start : ℕ) → LastCut slash left x piece → is_git left ≡ false → start ≡ length x + 1 → StandsInLeft left piece start
StandsInLeft-plain left x piece start cut git at =
    record { found = record { before = x; piece = piece; cut = cut; name_is = rw git refl }; start_is = at }

-- ---- texts that are not of the form

pub IsStableForm-no_hash : (t : Text) → Lacks hash_sign t → (l f n v : Text) → IsStableForm t l f n v → ⊥
IsStableForm-no_hash t none l f n v s = LastCut-lacks none s.cut

at_same : {c : ℕ} {f g x y : Text} → f ≡ g → FirstCut c g x y → FirstCut c f x y
at_same e h = rw e h

-- a fragment without '@' is the version alone
version_alone : (t x fragment l f n v : Text) → LastCut hash_sign t x fragment → Lacks at_sign fragment → IsStableForm t l f n v → IsVersionAlone x fragment n v
version_alone t x fragment l f n v cut none s =
    let same = LastCut-once cut s.cut in
    ⊎_elim (λ e. absurd (FirstCut-lacks none (at_same same.1 e))) (λ e. rw (same.0, same.1) e) s.parts

pub IsStableForm-slash : (t x fragment : Text) → LastCut hash_sign t x fragment → Lacks at_sign fragment → Has slash fragment → (l f n v : Text) → IsStableForm t l f n v → ⊥
IsStableForm-slash t x fragment cut none bad l f n v s = bad (version_alone t x fragment l f n v cut none s).no_slash

pub IsStableForm-question_mark : (t x fragment : Text) → LastCut hash_sign t x fragment → Lacks at_sign fragment → Has question_mark fragment → (l f n v : Text) → IsStableForm t l f n v → ⊥
IsStableForm-question_mark t x fragment cut none bad l f n v s = bad (version_alone t x fragment l f n v cut none s).no_query

pub IsStableForm-no_name : (t x fragment : Text) → LastCut hash_sign t x fragment → Lacks at_sign fragment → ((n : Text) → NameInLeft x n → ⊥) → (l f n v : Text) → IsStableForm t l f n v → ⊥
IsStableForm-no_name t x fragment cut none bad l f n v s = bad n (version_alone t x fragment l f n v cut none s).name_in_left

-- ---- the source of a left part

pub IsSource-not_git : (left : Text) → is_git left ≡ false → IsSource left left
IsSource-not_git left other = as_written (λ front query q. false≢true (sym other ∙ q.git)) refl

pub IsSource-no_query : (left : Text) → Lacks question_mark left → IsSource left left
IsSource-no_query left none = as_written (λ front query q. LastCut-lacks none q.cut) refl

-- the last '?' comes before the last piece
pub IsSource-slash : (left front query : Text) → LastCut question_mark left front query → Has slash query → IsSource left left
IsSource-slash left front query cut has =
    as_written (λ front' query' q. has (rw (LastCut-once cut q.cut).1 q.in_last_piece)) refl

pub IsSource-no_percent : (left front query : Text) → IsGitQuery left front query → Lacks percent_sign query → IsSource left left
IsSource-no_percent left front query q none =
    decoded front query q (AreEscapes-lacks query none) (q.cut.is ∙ ap (λ z. front ++ question_mark ∷ z) (sym (percent_decode-lacks query none)))

-- ---- where the name is in the source

-- a text is cut at `a`, and at `c` with no `a` after that: the second cut is in what follows the first
cut_inside : (a c : ℕ) → a ≢ c → (b p front q : Text) → Lacks a q → b ++ a ∷ p ≡ front ++ c ∷ q → (m : Text) × (p ≡ m ++ c ∷ q) × (front ≡ b ++ a ∷ m)
cut_inside a c apart [] p [] q none e = absurd (apart (cc))
cut_inside a c apart [] p (d ∷ front) q none e = (front, cc, cc)
cut_inside a c apart (d ∷ b) p [] q none e =
    let tails : b ++ a ∷ p ≡ q = cc in
    absurd (Lacks-middle a b p (rw tails none))
cut_inside a c apart (d ∷ b) p (d' ∷ front) q none e =
    let inner = cut_inside a c apart b p front q none (cc) in
    (inner.0, inner.1, cc (inner.2))

-- the name of a git source comes right before its query
name_before_query : (left name front query : Text) (h : NameInLeft left name) → IsGitQuery left front query → front ≡ h.before ++ slash ∷ name
name_before_query left name front query h q =
    let of_git : IsNameOfPiece true h.piece name = rw q.git at h.name_is in
    let inner = cut_inside slash question_mark (omega arith) h.before h.piece front query q.in_last_piece (sym h.cut.is ∙ q.cut.is) in
    let whole : LastCut question_mark h.piece inner.0 query = record { is = inner.1; lacks = q.cut.lacks } in
    ⊎_elim (λ e. absurd (LastCut-lacks e.0 whole)) (λ e. inner.2 ∙ ap (λ z. h.before ++ slash ∷ z) (LastCut-once whole e.1).0) of_git

in_piece : (git : Bool) (piece name : Text) → IsUtf8 piece → IsNameOfPiece git piece name → StandsAt piece name 0
in_piece false piece name text is = rw is (StandsAt-whole piece)
in_piece true piece name text (inl plain) = rw plain.1 (StandsAt-whole piece)
in_piece true piece name text (inr cut) = StandsAt-before question_mark piece name cut.0 (omega arith) text cut.1.is

-- in the left part as it is written
StandsAt-left : (left name : Text) (start : ℕ) → IsUtf8 left → StandsInLeft left name start → StandsAt left name start
StandsAt-left left name start text h =
    let text_piece : IsUtf8 h.found.piece = IsUtf8-after_cut slash left h.found.before h.found.piece (omega arith) text h.found.cut.is in
    StandsAt-within left h.found.piece name start 0 start (StandsAt-after slash left h.found.before h.found.piece start h.found.cut.is h.start_is) (in_piece (is_git left) h.found.piece name text_piece h.found.name_is) (omega arith)

-- in the left part with its query decoded
StandsAt-decoded : (left name front query rest : Text) (start : ℕ) → IsGitQuery left front query → IsUtf8 rest → StandsInLeft left name start → StandsAt (front ++ question_mark ∷ rest) name start
StandsAt-decoded left name front query rest start q text h = record {
  before = h.found.before ++ slash ∷ [];
  after = question_mark ∷ rest;
  is = rw (name_before_query left name front query h.found q) (simp append_assoc);
  start_is = omega (arith, h.start_is, length-append h.found.before (slash ∷ []));
  text_after = IsUtf8-ascii_first question_mark rest (omega arith) text;
}

-- ---- the parts in a text that is a source, '#' and the fragment

name_in_source : (left source fragment name version : Text) (place : Option ℕ) → ((start : ℕ) → StandsInLeft left name start → StandsAt source name start) → TellsName left fragment name version place → MatchOption place (FirstCut at_sign fragment name version) (λ start. (version ≡ fragment) × StandsAt source name start)
name_in_source left source fragment name version None stands told = told
name_in_source left source fragment name version (Some start) stands told = (told.0.version_is, stands start told.1)

-- the text as it was written
pub IsWithSource-written : (t left fragment name version : Text) (place : Option ℕ) → IsUtf8 t → IsStableForm t left fragment name version → TellsName left fragment name version place → IsWithSource t left fragment name version place
IsWithSource-written t left fragment name version place text form told =
    let text_left : IsUtf8 left = IsUtf8-before_cut hash_sign t left fragment (omega arith) text form.cut.is in
    record { is = form.cut.is; named = name_in_source left left fragment name version place (λ start. StandsAt-left left name start text_left) told }

-- the text with its query decoded
pub IsWithSource-decoded : (t left fragment name version front query t' : Text) (place : Option ℕ) → IsUtf8 t → IsStableForm t left fragment name version → TellsName left fragment name version place → IsGitQuery left front query → AreEscapes query → t' ≡ (front ++ question_mark ∷ percent_decode query) ++ hash_sign ∷ fragment → IsWithSource t' (front ++ question_mark ∷ percent_decode query) fragment name version place
IsWithSource-decoded t left fragment name version front query t' place text form told q good is =
    let text_left : IsUtf8 left = IsUtf8-before_cut hash_sign t left fragment (omega arith) text form.cut.is in
    let text_query : IsUtf8 query = IsUtf8-after_cut question_mark left front query (omega arith) text_left q.cut.is in
    let text_decoded : IsUtf8 (percent_decode query) = IsUtf8-percent_decode query text_query good in
    record { is = is; named = name_in_source left _ fragment name version place (λ start. StandsAt-decoded left name front query (percent_decode query) start q text_decoded) told }

fragment_length : (t s f : Text) → t ≡ s ++ hash_sign ∷ f → length t ≡ length s + 1 + length f
fragment_length t s f is = omega (arith, ap length is, length-append s (hash_sign ∷ f))

pub StandsAt-fragment : (t s f : Text) (start : ℕ) → t ≡ s ++ hash_sign ∷ f → start ≡ length t - length f → StandsAt t f start
StandsAt-fragment t s f start is at = StandsAt-after hash_sign t s f start is (omega (arith, fragment_length t s f is))

pub Marks-source : (t s f : Text) (end : ℕ) → IsUtf8 t → t ≡ s ++ hash_sign ∷ f → end ≡ length t - length f - 1 → Marks t (record { start = 0; end = end }) s
Marks-source t s f end text is at =
    Marks-stands t s 0 end (IsUtf8-before_cut hash_sign t s f (omega arith) text is) (StandsAt-before hash_sign t s f (omega arith) text is) (omega (arith, fragment_length t s f is))
