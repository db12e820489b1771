-- Versions that were read are written as texts that read as them again.
use Rattle.std.proofs.Common.{◌≡◌, ℕ, ◌+◌, ◌<◌, ◌^◌, [], ◌∷◌, ◌++◌, Bool, true, false, cond, ◌||◌, Some, None, Ok, Err, Result, refl, sym, ap, ◌∙◌, subst, arith, append-nil, append_assoc, count_by, ◌%◌, inl, inr}
use Rattle.std.specs.Prelude.{codes, ◌==◌}
use Rattle.std.specs.Fmt.{decimal}
use Rattle.std.specs.Result.{result_ok}
use Rattle.std.proofs.lemmas.Bool.{cases_Bool, eqb-true}
use Rattle.std.proofs.lemmas.Bool.Decides.{nat_tests}
use Rattle.std.proofs.lemmas.Fmt.{decimal_by_steps, decimal_digit}
use Rattle.std.proofs.lemmas.List.Folds.{list_any-append}
use Rattle.std.proofs.lemmas.List.Sums.{sum_by-append}
use Rattle.std.proofs.lemmas.Option.{same_Some}
use Rattle.semver.specs.Grammar.{IsValid}
use Rattle.semver.specs.Identifiers.{marked, parts_text}
use Rattle.semver.specs.Parse.{version_parts}
use Rattle.semver.proofs.Grammar.{version_parts-sound, version_parts-complete}
use Rattle.krates_cm.specs.Document.{Text, VersionModel}
use Rattle.krates_cm.specs.Names.{version_named, rust_version_named, has_extra, with_patch}
use Rattle.krates_cm_json.specs.WrittenTexts.{rust_version_text}

-- ---- versions

ok_from : {T E : Type 0} (r : Result T E) (x : T) → result_ok r ≡ Some x → r ≡ Ok x
ok_from (Ok y) x h = ap (λ z. Ok z) (same_Some y x h)
ok_from (Err e) x h = absurd cc

-- a version that has a text is also read from the text that is written for it
pub named_again : (s : Text) (v : VersionModel) → version_named s ≡ Some v → version_named (parts_text v) ≡ Some v
named_again s v h = ap result_ok (version_parts-complete v (version_parts-sound s v (ok_from (version_parts s) v h)).1)

none_some : {A : Type 0} (x : A) → None ≡ Some x → ⊥
none_some x h = absurd cc

-- ---- versions of Rust

abbrev dots : Text → ℕ
dots s = count_by (λ b. b == 46) s

-- the text has neither minus nor plus, and this many dots
abbrev HasDots : Text → ℕ → Type 0
HasDots s n = (has_extra s ≡ false) × (dots s ≡ n)

digit_dots : (n : ℕ) → n < 10 → HasDots ((48 + n) ∷ []) 0
digit_dots n lt = (grind (arith, nat_tests), grind (arith, nat_tests))

join_dots : (xs ys : Text) (m n : ℕ) → HasDots xs m → HasDots ys n → HasDots (xs ++ ys) (m + n)
join_dots xs ys m n x y = (
  list_any-append (λ b. b == 45 || b == 43) xs ys ∙ rw (x.0, y.0) refl,
  sum_by-append (λ b. cond (b == 46) 1 0) xs ys ∙ rw (x.1, y.1) refl,
)

decimal_dots : (n : ℕ) → n < 2 ^ 64 → HasDots (decimal n) 0
decimal_dots = decimal_by_steps (λ _ ds. HasDots ds 0) digit_dots (λ n ds ge h. join_dots ds ((48 + n % 10) ∷ []) 0 0 h (digit_dots (n % 10) (omega arith)))

after_dot : (s : Text) (n : ℕ) → HasDots s n → HasDots (46 ∷ s) (1 + n)
after_dot s n h = join_dots (46 ∷ []) s 1 n (refl, refl) h

-- major and minor alone, and with the patch
abbrev short : ℕ → ℕ → Text
short a b = decimal a ++ (46 ∷ decimal b)

abbrev long : ℕ → ℕ → ℕ → Text
long a b c = decimal a ++ (46 ∷ (decimal b ++ (46 ∷ decimal c)))

short_dots : (a b : ℕ) → a < 2 ^ 64 → b < 2 ^ 64 → HasDots (short a b) 1
short_dots a b x y = join_dots (decimal a) (46 ∷ decimal b) 0 1 (decimal_dots a x) (after_dot (decimal b) 0 (decimal_dots b y))

long_dots : (a b c : ℕ) → a < 2 ^ 64 → b < 2 ^ 64 → c < 2 ^ 64 → HasDots (long a b c) 2
long_dots a b c x y z = join_dots (decimal a) (46 ∷ (decimal b ++ (46 ∷ decimal c))) 0 2 (decimal_dots a x)
    (after_dot (decimal b ++ (46 ∷ decimal c)) 1 (join_dots (decimal b) (46 ∷ decimal c) 0 1 (decimal_dots b y) (after_dot (decimal c) 0 (decimal_dots c z))))

-- what a text without minus and plus reads as
named_plain : (t : Text) → has_extra t ≡ false → rust_version_named t ≡ version_named (with_patch t)
named_plain t h = ap (λ b. cond b None (version_named (with_patch t))) h

complete : (v : VersionModel) → IsValid v → version_named (parts_text v) ≡ Some v
complete v valid = ap result_ok (version_parts-complete v valid)

short_again : (a b : ℕ) → IsValid (a, b, 0, [], []) → rust_version_named (short a b) ≡ Some (a, b, 0, [], [])
short_again a b valid =
    let d = short_dots a b valid.0 valid.1 in
    let patched : with_patch (short a b) ≡ short a b ++ codes ".0" = ap (λ n. cond (n == 1) (short a b ++ codes ".0") (short a b)) d.1 in
    let whole : parts_text (a, b, 0, [], []) ≡ decimal a ++ (46 ∷ (decimal b ++ codes ".0")) = ap (λ l. decimal a ++ (46 ∷ (decimal b ++ (46 ∷ (l ++ []))))) (decimal_digit 0 (omega arith)) in
    named_plain (short a b) d.0 ∙ ap version_named (patched ∙ append_assoc (decimal a) (46 ∷ decimal b) (codes ".0") ∙ sym whole) ∙ complete (a, b, 0, [], []) valid

long_again : (a b c : ℕ) → IsValid (a, b, c, [], []) → rust_version_named (long a b c) ≡ Some (a, b, c, [], [])
long_again a b c valid =
    let d = long_dots a b c valid.0 valid.1 valid.2 in
    let unpatched : with_patch (long a b c) ≡ long a b c = ap (λ n. cond (n == 1) (long a b c ++ codes ".0") (long a b c)) d.1 in
    let whole : parts_text (a, b, c, [], []) ≡ long a b c = ap (λ l. decimal a ++ (46 ∷ (decimal b ++ (46 ∷ l)))) (append-nil (decimal c)) in
    named_plain (long a b c) d.0 ∙ ap version_named (unpatched ∙ sym whole) ∙ complete (a, b, c, [], []) valid

plain_again : (a b c : ℕ) → IsValid (a, b, c, [], []) → rust_version_named (rust_version_text (a, b, c, [], [])) ≡ Some (a, b, c, [], [])
plain_again a b c valid = elim (cases_Bool (c == 0)) [
  | inl zero ↦
      let is : c ≡ 0 = eqb-true c 0 zero in
      let patch : (a, b, c, [], []) ≡ (a, b, 0, [], []) = ap (λ n. (a, b, n, [], [])) is in
      ap (λ t. rust_version_named t) (ap (λ z. cond z (short a b) (long a b c)) zero) ∙ short_again a b (subst (λ (v : VersionModel). IsValid v) patch valid) ∙ sym (ap (λ (v : VersionModel). Some v) patch)
  | inr other ↦ ap (λ t. rust_version_named t) (ap (λ z. cond z (short a b) (long a b c)) other) ∙ long_again a b c valid
]

or_right : (a b : Bool) → a || b ≡ false → b ≡ false
or_right true b h = absurd cc
or_right false b h = h

extra_back : (xs ys : Text) → has_extra (xs ++ ys) ≡ false → has_extra ys ≡ false
extra_back xs ys h = or_right (has_extra xs) (has_extra ys) (sym (list_any-append (λ b. b == 45 || b == 43) xs ys) ∙ h)

-- a text without minus and plus has neither a pre-release nor build metadata
no_extra : (pre build : Text) → has_extra (marked 45 pre ++ marked 43 build) ≡ false → (pre ≡ []) × (build ≡ [])
no_extra [] [] h = (refl, refl)
no_extra [] (b ∷ build) h = absurd cc
no_extra (b ∷ pre) build h = absurd cc

with_patch_plain : (s : Text) → has_extra s ≡ false → has_extra (with_patch s) ≡ false
with_patch_plain s h = elim (cases_Bool (dots s == 1)) [
  | inl one ↦ rw one (list_any-append (λ b. b == 45 || b == 43) s (codes ".0") ∙ rw h refl)
  | inr other ↦ rw other h
]

-- a valid version whose text has neither minus nor plus is three numbers
three_numbers : (v : VersionModel) → has_extra (parts_text v) ≡ false → v ≡ (v.0, v.1, v.2, [], [])
three_numbers v h =
    let marks = marked 45 v.3 ++ marked 43 v.4 in
    let third = extra_back (decimal v.0) (46 ∷ (decimal v.1 ++ (46 ∷ (decimal v.2 ++ marks)))) h in
    let second = extra_back (decimal v.1) (46 ∷ (decimal v.2 ++ marks)) third in
    let none = no_extra v.3 v.4 (extra_back (decimal v.2) marks second) in
    λ i. (v.0, v.1, v.2, none.0 i, none.1 i)

rust_again_plain : (s : Text) (v : VersionModel) → has_extra s ≡ false → version_named (with_patch s) ≡ Some v → rust_version_named (rust_version_text v) ≡ Some v
rust_again_plain s v plain h =
    let sound = version_parts-sound (with_patch s) v (ok_from (version_parts (with_patch s)) v h) in
    let is = three_numbers v (ap has_extra sound.0 ∙ with_patch_plain s plain) in
    subst (λ (w : VersionModel). rust_version_named (rust_version_text w) ≡ Some w) (sym is) (plain_again v.0 v.1 v.2 (subst (λ (w : VersionModel). IsValid w) is sound.1))

-- a version of Rust that has a text is also read from the text that is written for it
pub rust_again : (s : Text) (v : VersionModel) → rust_version_named s ≡ Some v → rust_version_named (rust_version_text v) ≡ Some v
rust_again s v h = elim (cases_Bool (has_extra s)) [
  | inl extra ↦ absurd (none_some v (sym (ap (λ b. cond b None (version_named (with_patch s))) extra) ∙ h))
  | inr plain ↦ rust_again_plain s v plain (sym (named_plain s plain) ∙ h)
]
