-- Laws of cutting a text at a separator.
use Rattle.std.proofs.Common.{◌≡◌, ℕ, ◌+◌, ◌<◌, ◌≤◌, suc, List, [], ◌∷◌, ◌++◌, length, take, drop, refl, arith, ◌⊎◌, inl, inr}
use Rattle.std.specs.Prelude.{MatchOption, Option, Some, None}
use Rattle.std.specs.Str.Pattern.{FindsText}
use Rattle.std.specs.Borrow.{Bor}
use Rattle.std.proofs.lemmas.Str.Pattern.{split_text_parts}
use Rattle.std.proofs.lemmas.List.{append_cancel_left}
use Rattle.std.proofs.lemmas.Bool.Decides.{eqb_tells}
use Rattle.std.proofs.Math.Seq.{drop-append_seam}
use Rattle.krates_text.specs.Text.{BeginsWith, LacksText, IsCutAtFirst}

-- what `split_once` promises at a text
abbrev pub IsSplitOnceResult : List ℕ → List ℕ → Option (Bor (List ℕ) × Bor (List ℕ)) → Type 0
IsSplitOnceResult p bs r = MatchOption r (FindsText p bs None) (λ x. (i : ℕ) × (j : ℕ) × FindsText p bs (Some (i, j)) × (x.0.now ≡ take i bs) × (x.1.now ≡ drop j bs) × (i ≤ j) × (length x.0.now ≡ i) × (length x.1.now + j ≡ length bs))

-- a separator that was found is cut at its first place
pub cut_at_first : (p bs : List ℕ) (x : Bor (List ℕ) × Bor (List ℕ)) → IsSplitOnceResult p bs (Some x) → IsCutAtFirst p bs x.0.now x.1.now
cut_at_first p bs x h = record {
  is = split_text_parts p bs (Some x) h;
  first = λ earlier rest e.
      let not_before : length earlier < h.0 → ⊥ =
      λ before. h.2.0 (length earlier) before rest (rw e (drop-append_seam earlier (p ++ rest))) in
      omega arith;
}

-- a separator that wasn't found is nowhere in the text
pub lacks_text : (p bs : List ℕ) → IsSplitOnceResult p bs None → LacksText p bs
lacks_text p bs h = split_text_parts p bs None h

-- a text begins with these bytes or it doesn't
pub begins_or_not : (start text : List ℕ) → BeginsWith start text ⊎ (BeginsWith start text → ⊥)
begins_or_not [] text = inl (record { rest = text; is = refl })
begins_or_not (c ∷ start) [] = inr (λ b. let e = b.is in cc)
begins_or_not (c ∷ start) (d ∷ text) =
    elim (eqb_tells c d) [
      | inl same ↦ elim (begins_or_not start text) [
        | inl b ↦ inl (record { rest = b.rest; is = let e = b.is in let f = same.1 in cc })
        | inr differs ↦ inr (λ b. differs (record { rest = b.rest; is = let e = b.is in cc }))
      ]
      | inr differs ↦ inr (λ b. differs.1 (let e = b.is in cc))
    ]

-- a later place of the separator is in the rest of the text
place_in_rest : (separator text : List ℕ) (c : ℕ) (earlier rest : List ℕ) → (BeginsWith separator (c ∷ text) → ⊥) → c ∷ text ≡ earlier ++ (separator ++ rest) → (front : List ℕ) × (text ≡ front ++ (separator ++ rest)) × (length earlier ≡ suc (length front))
place_in_rest separator text c [] rest none e = absurd (none (record { rest = rest; is = e }))
place_in_rest separator text c (d ∷ earlier) rest none e = (earlier, cc, refl)

lacks_in_nothing : (separator before after : List ℕ) → (BeginsWith separator [] → ⊥) → [] ≡ before ++ (separator ++ after) → ⊥
lacks_in_nothing separator [] after none e = none (record { rest = after; is = e })
lacks_in_nothing separator (d ∷ before) after none e = cc

-- a separator has a first place in a text, or it has none
pub cut_or_lacks : (separator text : List ℕ) → ((before : List ℕ) × (after : List ℕ) × IsCutAtFirst separator text before after) ⊎ LacksText separator text
cut_or_lacks separator [] = elim (begins_or_not separator []) [
  | inl b ↦ inl ([], b.rest, record { is = b.is; first = λ earlier rest e. omega arith })
  | inr none ↦ inr (λ before after e. lacks_in_nothing separator before after none e)
]
cut_or_lacks separator (c ∷ text) = elim (begins_or_not separator (c ∷ text)) [
  | inl b ↦ inl ([], b.rest, record { is = b.is; first = λ earlier rest e. omega arith })
  | inr none ↦ elim (cut_or_lacks separator text) [
    | inl cut ↦ inl (
      c ∷ cut.0,
      cut.1,
      record {
        is = let e = cut.2.is in cc;
        first = λ earlier rest e.
            let later = place_in_rest separator text c earlier rest none e in
            let within = cut.2.first later.0 rest later.1 in
            omega (arith, later.2);
      },
    )
    | inr lacks ↦ inr (λ before after e.
        let later = place_in_rest separator text c before after none e in
        lacks later.0 after later.1)
  ]
]

-- beginnings of the same length, in the same text, are the same
pub same_front : (a x b y : List ℕ) → length a ≡ length x → a ++ b ≡ x ++ y → (a ≡ x) × (b ≡ y)
same_front [] [] b y n e = (refl, e)
same_front [] (d ∷ x) b y n e = absurd (omega arith)
same_front (c ∷ a) [] b y n e = absurd (omega arith)
same_front (c ∷ a) (d ∷ x) b y n e =
    let rest = same_front a x b y (omega arith) (cc) in
    (let same = rest.0 in cc, rest.1)

-- a separator has only one first place
pub cut_once : (separator text a b x y : List ℕ) → IsCutAtFirst separator text a b → IsCutAtFirst separator text x y → (a ≡ x) × (b ≡ y)
cut_once separator text a b x y h k =
    let shorter = h.first x y k.is in
    let longer = k.first a b h.is in
    let both : a ++ (separator ++ b) ≡ x ++ (separator ++ y) = let e = h.is in let f = k.is in cc in
    let parts = same_front a x (separator ++ b) (separator ++ y) (omega arith) both in
    (parts.0, append_cancel_left separator b y parts.1)
