-- Each text reads as an id or has a fault.
use Rattle.std.proofs.Common.{◌≡◌, ℕ, ◌+◌, ◌*◌, ◌<◌, zero, suc, [], ◌∷◌, ◌++◌, length, Bool, true, false, refl, subst, sym, inl, inr, ⊎_elim, arith}
use Rattle.std.specs.Prelude.{◌⊎◌, None, slice_index}
use Rattle.std.specs.Char.{digit_value}
use Rattle.std.specs.Int.{IsInRange}
use Rattle.std.proofs.lemmas.Bool.{cases_eq, cases_lt}
use Rattle.percent_encoding.specs.Percent.{percent_decode}
use Rattle.krates_cm.specs.Document.{Text}
use Rattle.krates_text.specs.Cuts.{Lacks, FirstCut, LastCut, EndsWith}
use Rattle.krates_ids.specs.Escapes.{IsEscapable, IsEscape, IsEscapedAt, AreEscapes}
use Rattle.krates_ids.specs.Identity.{Identity, IsOpaqueForm, NameInLeft, IsStableForm, IsGitQuery, IsSource, decoded, Reads, Fault, IsFault, no_opaque_form, no_stable_form, bad_escape, is_git}
use Rattle.krates_ids.specs.OpaqueParts.{IsBody}
use Rattle.krates_ids.specs.Separators.{blank, hash_sign, percent_sign, opening, closing, slash, question_mark, at_sign}
use Rattle.krates_text.proofs.CutsLemmas.{FirstCut-lacks, FirstCut-or, LastCut-once, LastCut-lacks, LastCut-or}
use Rattle.krates_ids.proofs.OpaqueLemmas.{FindsSource-without_hash, IsBody-unclosed, IsBody-hash_before, IsBody-hash, IsOpaqueForm-one_blank, IsOpaqueForm-not_opened, IsOpaqueForm-no_source, IsOpaqueForm-found, EndsWith-body}
use Rattle.krates_ids.proofs.StableLemmas.{NameInLeft-no_slash, StandsInLeft-git, StandsInLeft-git_plain, StandsInLeft-plain, IsStableForm-no_hash, IsStableForm-slash, IsStableForm-question_mark, IsStableForm-no_name, IsSource-not_git, IsSource-no_query, IsSource-slash}

-- it holds, or it doesn't
abbrev Decided : Type 0 → Type 0
Decided P = P ⊎ (P → ⊥)

both_or : {P Q : Type 0} → Decided P → Decided Q → Decided (P × Q)
both_or (inl p) (inl q) = inl (p, q)
both_or (inl p) (inr not) = inr (λ h. not h.1)
both_or (inr not) q = inr (λ h. not h.0)

either_or : {P Q : Type 0} → Decided P → Decided Q → Decided (P ⊎ Q)
either_or (inl p) q = inl (inl p)
either_or (inr none) (inl q) = inl (inr q)
either_or (inr none) (inr not) = inr (λ h. ⊎_elim none not h)

if_or : {P Q : Type 0} → Decided P → Decided Q → Decided (P → Q)
if_or (inr none) q = inl (λ p. absurd (none p))
if_or (inl p) (inl q) = inl (λ _. q)
if_or (inl p) (inr not) = inr (λ h. not (h p))

-- ---- the opaque form

abbrev ComesBeforeLast : ℕ → Text → Text → Type 0
ComesBeforeLast c t front = t ≡ front ++ c ∷ []

end_of : (c : ℕ) (t x y : Text) → LastCut c t x y → Decided ((front : Text) × ComesBeforeLast c t front)
end_of c t x [] cut = inl (x, cut.is)
end_of c t x (b ∷ y) cut =
    inr (λ h. let same = LastCut-once cut (record { is = h.1; lacks = tt }) in absurd (cc (same.1)))

end_or : (c : ℕ) (t : Text) → Decided ((front : Text) × ComesBeforeLast c t front)
end_or c t =
    ⊎_elim (λ none. inr (λ h. LastCut-lacks none (record { is = h.1; lacks = tt }))) (λ h. end_of c t h.0 h.1 h.2) (LastCut-or c t)

-- the source in the body of a text without '#'
plain_source : (t body : Text) → Lacks hash_sign t → Decided ((front : Text) × ComesBeforeLast closing body front) → Decided ((source : Text) × IsBody t body source)
plain_source t body none (inl h) = inl (h.0, record { end = closing ∷ []; is = h.1; ends = inl (none, refl) })
plain_source t body none (inr unclosed) =
    inr (λ h. FindsSource-without_hash t body None none (λ front is. unclosed (front, is)) h.0 h.1)

-- the source in the body of a text that is cut at its last '#', before what follows the source
cut_source : (t body x tail : Text) → EndsWith t body → LastCut hash_sign t x tail → Decided ((front : Text) × ComesBeforeLast closing tail front) → Lacks hash_sign body ⊎ ((source m : Text) × LastCut hash_sign body source m) → Decided ((source : Text) × IsBody t body source)
cut_source t body x tail w cut (inr unclosed) inner =
    inr (λ h. IsBody-unclosed t body x tail cut (λ front is. unclosed (front, is)) h.0 h.1)
cut_source t body x tail w cut (inl close) (inl none) = inr (λ h. IsBody-hash_before t body x tail cut none h.0 h.1)
cut_source t body x tail w cut (inl close) (inr inner) =
    inl (inner.0, IsBody-hash t body x tail close.0 inner.0 inner.1 w cut close.1 inner.2)

source_or : (t body : Text) → EndsWith t body → Decided ((source : Text) × IsBody t body source)
source_or t body w =
    ⊎_elim (λ none. plain_source t body none (end_or closing body)) (λ h. cut_source t body h.0 h.1 w h.2 (end_or closing h.1) (LastCut-or hash_sign body)) (LastCut-or hash_sign t)

abbrev IsOpaque : Text → Type 0
IsOpaque t = (name version source : Text) × IsOpaqueForm t name version source

opaque_source : (t x y v body : Text) → FirstCut blank t x y → FirstCut blank y v (opening ∷ body) → Decided ((source : Text) × IsBody t body source) → Decided (IsOpaque t)
opaque_source t x y v body f g (inl h) = inl (x, v, h.0, IsOpaqueForm-found t x y v (opening ∷ body) body h.0 f g refl h.1)
opaque_source t x y v body f g (inr none) =
    inr (λ h. IsOpaqueForm-no_source t x y v (opening ∷ body) body f g refl (λ s b. none (s, b)) h.0 h.1 h.2 h.3)

opaque_opened : (t x y v : Text) (b : ℕ) (body : Text) → FirstCut blank t x y → FirstCut blank y v (b ∷ body) → (b ≡ opening) ⊎ (b ≡ opening → ⊥) → Decided (IsOpaque t)
opaque_opened t x y v b body f g (inl is) =
    let opened : FirstCut blank y v (opening ∷ body) = rw (← is) g in
    opaque_source t x y v body f opened (source_or t body (EndsWith-body t x y v (opening ∷ body) body f opened refl))
opaque_opened t x y v b body f g (inr other) =
    inr (λ h. IsOpaqueForm-not_opened t x y v (b ∷ body) f g (λ rest is. other (cc)) h.0 h.1 h.2 h.3)

opaque_rest : (t x y v z : Text) → FirstCut blank t x y → FirstCut blank y v z → Decided (IsOpaque t)
opaque_rest t x y v [] f g =
    inr (λ h. IsOpaqueForm-not_opened t x y v [] f g (λ rest is. absurd (cc)) h.0 h.1 h.2 h.3)
opaque_rest t x y v (b ∷ body) f g = opaque_opened t x y v b body f g (cases_eq b opening)

-- a text with a space is of the opaque form, or isn't
opaque_or : (t x y : Text) → FirstCut blank t x y → Decided (IsOpaque t)
opaque_or t x y f =
    ⊎_elim (λ none. inr (λ h. IsOpaqueForm-one_blank t x y f none h.0 h.1 h.2 h.3)) (λ g. opaque_rest t x y g.0 g.1 f g.2) (FirstCut-or blank y)

-- ---- the stable form

piece_name : (left x piece : Text) (git : Bool) → LastCut slash left x piece → is_git left ≡ git → Lacks question_mark piece ⊎ ((n q : Text) × LastCut question_mark piece n q) → (n : Text) × NameInLeft left n
piece_name left x piece false cut git inner = (piece, (StandsInLeft-plain left x piece _ cut git refl).found)
piece_name left x piece true cut git (inl none) = (piece, (StandsInLeft-git_plain left x piece _ cut git none refl).found)
piece_name left x piece true cut git (inr h) = (h.0, (StandsInLeft-git left x piece h.0 h.1 _ cut git h.2 refl).found)

name_or : (left : Text) → Decided ((n : Text) × NameInLeft left n)
name_or left =
    ⊎_elim (λ none. inr (λ h. NameInLeft-no_slash left none h.0 h.1)) (λ h. inl (piece_name left h.0 h.1 (is_git left) h.2 refl (LastCut-or question_mark h.1))) (LastCut-or slash left)

abbrev IsStable : Text → Type 0
IsStable t = (left fragment name version : Text) × IsStableForm t left fragment name version

-- a fragment without '@', by what it contains
alone_or : (t x f : Text) → Lacks blank t → LastCut hash_sign t x f → Lacks at_sign f → Lacks slash f ⊎ ((a b : Text) × FirstCut slash f a b) → Lacks question_mark f ⊎ ((a b : Text) × FirstCut question_mark f a b) → Decided ((n : Text) × NameInLeft x n) → Decided (IsStable t)
alone_or t x f whole cut none (inr h) query name =
    inr (λ s. IsStableForm-slash t x f cut none (λ lacks. FirstCut-lacks lacks h.2) s.0 s.1 s.2 s.3 s.4)
alone_or t x f whole cut none (inl no_slash) (inr h) name =
    inr (λ s. IsStableForm-question_mark t x f cut none (λ lacks. FirstCut-lacks lacks h.2) s.0 s.1 s.2 s.3 s.4)
alone_or t x f whole cut none (inl no_slash) (inl no_query) (inr bad) =
    inr (λ s. IsStableForm-no_name t x f cut none (λ n h. bad (n, h)) s.0 s.1 s.2 s.3 s.4)
alone_or t x f whole cut none (inl no_slash) (inl no_query) (inl h) =
    inl (x, f, h.0, f, record { no_blank = whole; cut = cut; parts = inr (record { version_is = refl; no_at = none; no_slash = no_slash; no_query = no_query; name_in_left = h.1 }) })

fragment_or : (t x f : Text) → Lacks blank t → LastCut hash_sign t x f → Lacks at_sign f ⊎ ((n v : Text) × FirstCut at_sign f n v) → Decided (IsStable t)
fragment_or t x f whole cut (inr h) = inl (x, f, h.0, h.1, record { no_blank = whole; cut = cut; parts = inl h.2 })
fragment_or t x f whole cut (inl none) =
    alone_or t x f whole cut none (FirstCut-or slash f) (FirstCut-or question_mark f) (name_or x)

-- a text without a space is of the stable form, or isn't
stable_or : (t : Text) → Lacks blank t → Decided (IsStable t)
stable_or t whole =
    ⊎_elim (λ none. inr (λ s. IsStableForm-no_hash t none s.0 s.1 s.2 s.3 s.4)) (λ h. fragment_or t h.0 h.1 whole h.2 (FirstCut-or at_sign h.1)) (LastCut-or hash_sign t)

-- ---- escapes

less_or : (a b : ℕ) → Decided (a < b)
less_or a b = ⊎_elim (λ less. inl less) (λ more. inr (λ less. absurd (omega arith))) (cases_lt a b)

range_or : (low high b : ℕ) → Decided (IsInRange low high b)
range_or low high b =
    ⊎_elim (λ below. inr (λ h. absurd (omega (arith, h.0)))) (λ from. ⊎_elim (λ above. inr (λ h. absurd (omega (arith, h.1)))) (λ to. inl (from, to)) (cases_lt high b)) (cases_lt b low)

escapable_or : (b : ℕ) → Decided (IsEscapable b)
escapable_or b =
    either_or (cases_eq b blank) (either_or (either_or (range_or 33 47 b) (range_or 58 64 b)) (either_or (range_or 91 96 b) (range_or 123 126 b)))

escape_or : (high low : ℕ) → Decided (IsEscape high low)
escape_or high low =
    let parts = both_or (less_or (digit_value high) 16) (both_or (less_or (digit_value low) 16) (escapable_or (16 * digit_value high + digit_value low))) in
    ⊎_elim (λ h. inl (record { high_digit = h.0; low_digit = h.1.0; byte = h.1.1 })) (λ none. inr (λ h. none (h.high_digit, (h.low_digit, h.byte)))) parts

escaped_or : (q : Text) (k : ℕ) → Decided (IsEscapedAt q k)
escaped_or q k =
    if_or (cases_eq (slice_index q k) percent_sign) (both_or (less_or (k + 2) (length q)) (escape_or (slice_index q (k + 1)) (slice_index q (k + 2))))

-- one place more
all_step : (P : ℕ → Type 0) (n : ℕ) → Decided ((k : ℕ) → k < n → P k) → Decided (P n) → Decided ((k : ℕ) → k < suc n → P k)
all_step P n (inl all) (inl here) =
    inl (λ k within. ⊎_elim (λ is. subst P (sym is) here) (λ other. all k (omega arith)) (cases_eq k n))
all_step P n (inl all) (inr not) = inr (λ h. not (h n (omega arith)))
all_step P n (inr none) here = inr (λ h. none (λ k within. h k (omega arith)))

all_or : (P : ℕ → Type 0) → ((k : ℕ) → Decided (P k)) → (n : ℕ) → Decided ((k : ℕ) → k < n → P k)
all_or P each zero = inl (λ k within. absurd (omega arith))
all_or P each (suc n) = all_step P n (all_or P each n) (each n)

escapes_or : (q : Text) → Decided (AreEscapes q)
escapes_or q = all_or (IsEscapedAt q) (escaped_or q) (length q)

-- ---- the source of a left part: there is one, or a bad escape

abbrev IsBadQuery : Text → Type 0
IsBadQuery left = (front query : Text) × IsGitQuery left front query × (AreEscapes query → ⊥)

abbrev GivesSource : Text → Type 0
GivesSource left = ((source : Text) × IsSource left source) ⊎ IsBadQuery left

query_source : (left front query : Text) → IsGitQuery left front query → Decided (AreEscapes query) → GivesSource left
query_source left front query q (inl good) =
    inl (front ++ question_mark ∷ percent_decode query, decoded front query q good refl)
query_source left front query q (inr bad) = inr (front, query, q, bad)

git_source : (left front query : Text) → is_git left ≡ true → LastCut question_mark left front query → Lacks slash query ⊎ ((a b : Text) × FirstCut slash query a b) → GivesSource left
git_source left front query git cut (inr h) =
    inl (left, IsSource-slash left front query cut (λ lacks. FirstCut-lacks lacks h.2))
git_source left front query git cut (inl none) =
    query_source left front query (record { git = git; cut = cut; in_last_piece = none }) (escapes_or query)

left_source : (left : Text) (git : Bool) → is_git left ≡ git → Lacks question_mark left ⊎ ((front query : Text) × LastCut question_mark left front query) → GivesSource left
left_source left false git query = inl (left, IsSource-not_git left git)
left_source left true git (inl none) = inl (left, IsSource-no_query left none)
left_source left true git (inr h) = git_source left h.0 h.1 git h.2 (FirstCut-or slash h.1)

-- ---- whole texts

abbrev IsEither : Text → Type 0
IsEither t = ((id : Identity) × Reads t id) ⊎ ((fault : Fault) × IsFault t fault)

with_blank : (t : Text) (has : Lacks blank t → ⊥) → Decided (IsOpaque t) → IsEither t
with_blank t has (inl h) =
    inl (record { text = t; name = h.0; version = h.1; source = h.2; is_opaque = true }, inl (record { form = h.3; text_is = refl; marked = refl }))
with_blank t has (inr none) = inr (no_opaque_form, (has, λ name version source form. none (name, version, source, form)))

stable_source : (t left fragment name version : Text) → IsStableForm t left fragment name version → GivesSource left → IsEither t
stable_source t left fragment name version form (inl h) =
    inl (
      record { text = h.0 ++ hash_sign ∷ fragment; name = name; version = version; source = h.0; is_opaque = false },
      inr (record { left = left; fragment = fragment; form = form; source_is = h.1; text_is = refl; marked = refl }),
    )
stable_source t left fragment name version form (inr h) =
    inr (bad_escape, (h.1, record { left = left; fragment = fragment; name = name; version = version; front = h.0; form = form; git_query = h.2 }, h.3))

without_blank : (t : Text) → Lacks blank t → Decided (IsStable t) → IsEither t
without_blank t whole (inl h) =
    stable_source t h.0 h.1 h.2 h.3 h.4 (left_source h.0 (is_git h.0) refl (LastCut-or question_mark h.0))
without_blank t whole (inr none) =
    inr (no_stable_form, (whole, λ left fragment name version form. none (left, fragment, name, version, form)))

pub Reads-or_fault : (t : Text) → ((id : Identity) × Reads t id) ⊎ ((fault : Fault) × IsFault t fault)
Reads-or_fault t =
    ⊎_elim (λ whole. without_blank t whole (stable_or t whole)) (λ h. with_blank t (λ lacks. FirstCut-lacks lacks h.2) (opaque_or t h.0 h.1 h.2)) (FirstCut-or blank t)
