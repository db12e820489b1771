-- Laws of the pieces of a text, and of their spans.
use Rattle.std.proofs.Common.{◌≡◌, ℕ, ◌+◌, ◌-◌, ◌<◌, zero, suc, [], ◌∷◌, ◌++◌, length, get_or, take, drop, refl, sym, ap, ◌∙◌, subst, arith, append_assoc, append-nil, length-append}
use Rattle.std.proofs.Math.Seq.{drop-append_seam, take-append_seam, get_or-append_seam}
use Rattle.std.specs.Str.{IsUtf8, IsAscii, IsCharBoundary}
use Rattle.std.proofs.lemmas.Str.{IsUtf8-nil, IsUtf8-append, IsUtf8-take, IsUtf8-drop, IsUtf8-from_ascii, IsCharBoundary-at_seam, IsCharBoundary-before_ascii, IsCharBoundary-after_ascii}
use Rattle.krates_cm.specs.Document.{Text}
use Rattle.krates_ids.specs.Spans.{StandsAt, AreSpans, Marks, MarksParts}
use Rattle.krates_ids.specs.declared.span.Parts.{Parts}

-- ---- both sides of a cut are UTF-8

cut_reads : (c : ℕ) (t x y : Text) → t ≡ x ++ c ∷ y → (length x < length t) × (get_or t (length x) 0 ≡ c)
cut_reads c t x y is = rw is (omega (arith, length-append x (c ∷ y)), get_or-append_seam x c y 0)

pub IsUtf8-before_cut : (c : ℕ) (t x y : Text) → c < 128 → IsUtf8 t → t ≡ x ++ c ∷ y → IsUtf8 x
IsUtf8-before_cut c t x y small text is =
    let reads = cut_reads c t x y is in
    let front : take (length x) t ≡ x = ap (take (length x)) is ∙ take-append_seam x (c ∷ y) in
    subst IsUtf8 front (IsUtf8-take t (length x) text (IsCharBoundary-before_ascii t (length x) reads.0 (omega (arith, reads.1))))

pub IsUtf8-after_cut : (c : ℕ) (t x y : Text) → c < 128 → IsUtf8 t → t ≡ x ++ c ∷ y → IsUtf8 y
IsUtf8-after_cut c t x y small text is =
    let reads = cut_reads c t x y is in
    let seam : length (x ++ c ∷ []) ≡ length x + 1 = omega (arith, length-append x (c ∷ [])) in
    let back : drop (length x + 1) t ≡ y = ap (drop (length x + 1)) (is ∙ sym (append_assoc x (c ∷ []) y)) ∙ (ap (λ n. drop n ((x ++ c ∷ []) ++ y)) (sym seam) ∙ drop-append_seam (x ++ c ∷ []) y) in
    subst IsUtf8 back (IsUtf8-drop t (length x + 1) text (IsCharBoundary-after_ascii t (length x) text reads.0 (omega (arith, reads.1))))

IsAscii-one : (c : ℕ) → c < 128 → IsAscii (c ∷ [])
IsAscii-one c small zero = small
IsAscii-one c small (suc i) = omega arith

-- what follows an ASCII character is UTF-8
pub IsUtf8-ascii_first : (c : ℕ) (x : Text) → c < 128 → IsUtf8 x → IsUtf8 (c ∷ x)
IsUtf8-ascii_first c x small text = IsUtf8-append (c ∷ []) x (IsUtf8-from_ascii (c ∷ []) (IsAscii-one c small)) text

-- ---- the span of a piece

pub Marks-stands : (t piece : Text) (start end : ℕ) → IsUtf8 piece → StandsAt t piece start → end ≡ start + length piece → Marks t (record { start = start; end = end }) piece
Marks-stands t piece start end text s end_is =
    let last : t ≡ (s.before ++ piece) ++ s.after = s.is ∙ sym (append_assoc s.before piece s.after) in
    let long : length (s.before ++ piece) ≡ end = omega (arith, length-append s.before piece, s.start_is) in
    let starts : IsCharBoundary t (length s.before) = IsCharBoundary-at_seam t s.before (piece ++ s.after) s.is (IsUtf8-append piece s.after text s.text_after) in
    let ends : IsCharBoundary t (length (s.before ++ piece)) = IsCharBoundary-at_seam t (s.before ++ piece) s.after last s.text_after in
    let back : drop start t ≡ piece ++ s.after = ap (drop start) s.is ∙ (ap (λ n. drop n (s.before ++ (piece ++ s.after))) s.start_is ∙ drop-append_seam s.before (piece ++ s.after)) in
    let size : end - start ≡ length piece = omega arith in
    record {
      placed = record { ordered = omega arith; starts = subst (IsCharBoundary t) (sym s.start_is) starts; ends = subst (IsCharBoundary t) long ends };
      is = ap (take (end - start)) back ∙ (ap (λ n. take n (piece ++ s.after)) size ∙ take-append_seam piece s.after);
    }

pub AreSpans-marks : (t : Text) (parts : Parts) (n v s : Text) → MarksParts t parts n v s → AreSpans t parts
AreSpans-marks t parts n v s marks = record { name = marks.name.placed; version = marks.version.placed; source = marks.source.placed }

-- ---- where pieces are

pub StandsAt-before : (c : ℕ) (t x y : Text) → c < 128 → IsUtf8 t → t ≡ x ++ c ∷ y → StandsAt t x 0
StandsAt-before c t x y small text is =
    record { before = []; after = c ∷ y; is = is; start_is = refl; text_after = IsUtf8-ascii_first c y small (IsUtf8-after_cut c t x y small text is) }

pub StandsAt-after : (c : ℕ) (t x y : Text) (start : ℕ) → t ≡ x ++ c ∷ y → start ≡ length x + 1 → StandsAt t y start
StandsAt-after c t x y start is at = record {
  before = x ++ c ∷ [];
  after = [];
  is = is ∙ simp (append_assoc, append-nil);
  start_is = omega (arith, length-append x (c ∷ []));
  text_after = IsUtf8-nil;
}

pub StandsAt-whole : (t : Text) → StandsAt t t 0
StandsAt-whole t = record { before = []; after = []; is = sym (append-nil t); start_is = refl; text_after = IsUtf8-nil }

-- a piece of a piece
pub StandsAt-within : (t p q : Text) (i j k : ℕ) → StandsAt t p i → StandsAt p q j → k ≡ i + j → StandsAt t q k
StandsAt-within t p q i j k s u at = record {
  before = s.before ++ u.before;
  after = u.after ++ s.after;
  is = s.is ∙ (ap (λ z. s.before ++ (z ++ s.after)) u.is ∙ simp append_assoc);
  start_is = omega (arith, length-append s.before u.before, s.start_is, u.start_is);
  text_after = IsUtf8-append u.after s.after u.text_after s.text_after;
}
