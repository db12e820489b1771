-- Laws of cutting a text at a byte.
use Rattle.std.proofs.Common.{◌≡◌, ◌≢◌, ℕ, ◌+◌, ◌<◌, ◌≤◌, suc, List, [], ◌∷◌, ◌++◌, length, get_or, take, drop, refl, sym, ap, ◌∙◌, inl, inr, arith, eqb, append_assoc, take-append-drop}
use Rattle.std.specs.Prelude.{◌⊎◌, MatchOption, Option, Some, None, is_some}
use Rattle.std.specs.Str.{NoCharPasses}
use Rattle.std.specs.Str.Pattern.{RFindsChar, HasCharAt}
use Rattle.std.specs.Borrow.{Bor}
use Rattle.std.proofs.lemmas.Bool.{cases_eq}
use Rattle.std.proofs.lemmas.Str.Pattern.{split_parts, IsSplitOnceResult, NoCharPasses-char, drop_at_char}
use Rattle.krates_text.specs.Cuts.{Lacks, FirstCut, LastCut, EndsWith, CutsFirst, CutsLast, TellsHas}

-- ---- what the methods of `str` return

-- a text lacks a byte that is at none of its places
pub Lacks-from_reads : (c : ℕ) (t : List ℕ) → ((i : ℕ) → i < length t → get_or t i 0 ≢ c) → Lacks c t
Lacks-from_reads c [] h = tt
Lacks-from_reads c (b ∷ t) h = (h 0 (omega arith), Lacks-from_reads c t (λ i within. h (suc i) (omega arith)))

-- what `split_once` promises at an ASCII character
pub CutsFirst-split_once : (c : ℕ) (t : List ℕ) (r : Option (Bor (List ℕ) × Bor (List ℕ))) → IsSplitOnceResult c t r → c < 128 → CutsFirst c t r
CutsFirst-split_once c t None h small = Lacks-from_reads c t (split_parts c t None h small)
CutsFirst-split_once c t (Some p) h small =
    let parts = split_parts c t (Some p) h small in
    record { is = parts.0; lacks = Lacks-from_reads c p.0.now parts.1 }

abbrev pub IsRSplitOnceResult : ℕ → List ℕ → Option (Bor (List ℕ) × Bor (List ℕ)) → Type 0
IsRSplitOnceResult c bs r = MatchOption r (RFindsChar c bs None) (λ x. (i : ℕ) × (j : ℕ) × RFindsChar c bs (Some (i, j)) × (x.0.now ≡ take i bs) × (x.1.now ≡ drop j bs) × (i ≤ j) × (length x.0.now ≡ i) × (length x.1.now + j ≡ length bs))

LastCut-found : (c : ℕ) (t x y : List ℕ) (i j : ℕ) → NoCharPasses (λ d. eqb d c) (drop j t) → HasCharAt c t i j → x ≡ take i t → y ≡ drop j t → c < 128 → LastCut c t x y
LastCut-found c t x y i j none found front back small =
    let there : drop i t ≡ c ∷ drop j t = drop_at_char c t i j found small in
    record {
      is = rw (front, back, ← there) (sym (take-append-drop i t));
      lacks = rw back (Lacks-from_reads c (drop j t) (λ k within. NoCharPasses-char c (drop j t) k none small within));
    }

-- what `rsplit_once` promises at an ASCII character
pub CutsLast-rsplit_once : (c : ℕ) (t : List ℕ) (r : Option (Bor (List ℕ) × Bor (List ℕ))) → IsRSplitOnceResult c t r → c < 128 → CutsLast c t r
CutsLast-rsplit_once c t None h small = Lacks-from_reads c t (λ i within. NoCharPasses-char c t i h small within)
CutsLast-rsplit_once c t (Some p) h small = LastCut-found c t p.0.now p.1.now h.0 h.1 h.2.0 h.2.1 h.3 h.4 small

-- ---- a byte that a text lacks

-- a text with a `c` in the middle doesn't lack it
pub Lacks-middle : (c : ℕ) (x y : List ℕ) → Lacks c (x ++ c ∷ y) → ⊥
Lacks-middle c [] y h = h.0 refl
Lacks-middle c (b ∷ x) y h = Lacks-middle c x y h.1

pub FirstCut-lacks : {c : ℕ} {t x y : List ℕ} → Lacks c t → FirstCut c t x y → ⊥
FirstCut-lacks {c} {t} {x} {y} h f = Lacks-middle c x y (rw (← f.is) h)

pub LastCut-lacks : {c : ℕ} {t x y : List ℕ} → Lacks c t → LastCut c t x y → ⊥
LastCut-lacks {c} {t} {x} {y} h f = Lacks-middle c x y (rw (← f.is) h)

-- `is_some` on a cut tells whether the text has the byte
pub TellsHas-cut : (c : ℕ) (t : List ℕ) (r : Option (Bor (List ℕ) × Bor (List ℕ))) → CutsFirst c t r → TellsHas c t (is_some r)
TellsHas-cut c t None h = h
TellsHas-cut c t (Some p) h = λ none. FirstCut-lacks none h

-- ---- a text is cut in only one way

first_cut_once : (c : ℕ) (x x' y y' : List ℕ) → Lacks c x → Lacks c x' → x ++ c ∷ y ≡ x' ++ c ∷ y' → (x ≡ x') × (y ≡ y')
first_cut_once c [] [] y y' h h' e = (refl, cc)
first_cut_once c [] (b ∷ x') y y' h h' e = absurd (h'.0 (cc))
first_cut_once c (b ∷ x) [] y y' h h' e = absurd (h.0 (cc))
first_cut_once c (b ∷ x) (b' ∷ x') y y' h h' e =
    let rest = first_cut_once c x x' y y' h.1 h'.1 (cc) in
    (cc, rest.1)

last_cut_once : (c : ℕ) (x x' y y' : List ℕ) → Lacks c y → Lacks c y' → x ++ c ∷ y ≡ x' ++ c ∷ y' → (x ≡ x') × (y ≡ y')
last_cut_once c [] [] y y' h h' e = (refl, cc)
last_cut_once c [] (b ∷ x') y y' h h' e =
    let tails : y ≡ x' ++ c ∷ y' = cc in
    absurd (Lacks-middle c x' y' (rw (← tails) h))
last_cut_once c (b ∷ x) [] y y' h h' e =
    let tails : x ++ c ∷ y ≡ y' = cc in
    absurd (Lacks-middle c x y (rw tails h'))
last_cut_once c (b ∷ x) (b' ∷ x') y y' h h' e =
    let rest = last_cut_once c x x' y y' h h' (cc) in
    (cc, rest.1)

pub FirstCut-once : {c : ℕ} {t x y x' y' : List ℕ} → FirstCut c t x y → FirstCut c t x' y' → (x ≡ x') × (y ≡ y')
FirstCut-once {c} {t} {x} {y} {x'} {y'} f g = first_cut_once c x x' y y' f.lacks g.lacks (sym f.is ∙ g.is)

pub LastCut-once : {c : ℕ} {t x y x' y' : List ℕ} → LastCut c t x y → LastCut c t x' y' → (x ≡ x') × (y ≡ y')
LastCut-once {c} {t} {x} {y} {x'} {y'} f g = last_cut_once c x x' y y' f.lacks g.lacks (sym f.is ∙ g.is)

-- the last `c` in the end of a text is the last `c` of the text
pub LastCut-end : {c : ℕ} {t body x y : List ℕ} (w : EndsWith t body) → LastCut c body x y → LastCut c t (w.front ++ x) y
LastCut-end {c} {t} {body} {x} {y} w f = record { is = w.is ∙ (ap (λ z. w.front ++ z) f.is ∙ sym (append_assoc w.front x (c ∷ y))); lacks = f.lacks }

-- ---- a text is cut at a byte or lacks it

first_cut : (c b : ℕ) (t : List ℕ) → (b ≡ c) ⊎ (b ≡ c → ⊥) → Lacks c t ⊎ ((x y : List ℕ) × FirstCut c t x y) → Lacks c (b ∷ t) ⊎ ((x y : List ℕ) × FirstCut c (b ∷ t) x y)
first_cut c b t (inl same) rest = inr ([], t, record { is = ap (λ z. z ∷ t) same; lacks = tt })
first_cut c b t (inr other) (inl none) = inl (other, none)
first_cut c b t (inr other) (inr h) = inr (b ∷ h.0, h.1, record { is = ap (λ z. b ∷ z) h.2.is; lacks = (other, h.2.lacks) })

pub FirstCut-or : (c : ℕ) (t : List ℕ) → Lacks c t ⊎ ((x y : List ℕ) × FirstCut c t x y)
FirstCut-or c [] = inl tt
FirstCut-or c (b ∷ t) = first_cut c b t (cases_eq b c) (FirstCut-or c t)

last_cut : (c b : ℕ) (t : List ℕ) → (b ≡ c) ⊎ (b ≡ c → ⊥) → Lacks c t ⊎ ((x y : List ℕ) × LastCut c t x y) → Lacks c (b ∷ t) ⊎ ((x y : List ℕ) × LastCut c (b ∷ t) x y)
last_cut c b t (inl same) (inl none) = inr ([], t, record { is = ap (λ z. z ∷ t) same; lacks = none })
last_cut c b t (inr other) (inl none) = inl (other, none)
last_cut c b t decided (inr h) = inr (b ∷ h.0, h.1, record { is = ap (λ z. b ∷ z) h.2.is; lacks = h.2.lacks })

pub LastCut-or : (c : ℕ) (t : List ℕ) → Lacks c t ⊎ ((x y : List ℕ) × LastCut c t x y)
LastCut-or c [] = inl tt
LastCut-or c (b ∷ t) = last_cut c b t (cases_eq b c) (LastCut-or c t)
