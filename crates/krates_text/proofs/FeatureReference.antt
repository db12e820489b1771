-- Each text is exactly one feature reference.
use Rattle.std.proofs.Common.{◌≡◌, ℕ, List, [], ◌∷◌, ◌++◌, refl, sym, ◌∙◌, ap, inl, inr, append_assoc}
use Rattle.std.specs.Prelude.{codes}
use Rattle.std.proofs.lemmas.List.{append_cancel_left}
use Rattle.krates_text.specs.Text.{LacksText}
use Rattle.krates_text.specs.FeatureReference.{Reference, krate, weak, strong, simple, IsReference, HasOneReading}
use Rattle.krates_text.proofs.TextLemmas.{begins_or_not, cut_or_lacks, cut_once}

-- a text with "?/" has a "/"
slash_in_weak : (text before after : List ℕ) → text ≡ before ++ (codes "?/" ++ after) → LacksText (codes "/") text → ⊥
slash_in_weak text before after e lacks = lacks (before ++ 63 ∷ []) after (e ∙ sym (append_assoc before (63 ∷ []) (47 ∷ after)))

krate_only : (text name : List ℕ) → text ≡ codes "dep:" ++ name → (other : Reference) → IsReference text other → other ≡ krate name
krate_only text name e (krate other) h = ap krate (append_cancel_left (codes "dep:") other name (sym h ∙ e))
krate_only text name e (weak n x) h = absurd (h.0 (record { rest = name; is = e }))
krate_only text name e (strong n x) h = absurd (h.0 (record { rest = name; is = e }))
krate_only text name e (simple n) h = absurd (h.0 (record { rest = name; is = e }))

weak_only : (text name enables : List ℕ) → IsReference text (weak name enables) → (other : Reference) → IsReference text other → other ≡ weak name enables
weak_only text name enables is (krate other) h = absurd (is.0 (record { rest = other; is = h }))
weak_only text name enables is (weak n x) h = let same = cut_once _ text n x name enables h.1 is.1 in let a = same.0 in let b = same.1 in cc
weak_only text name enables is (strong n x) h = absurd (h.1 name enables is.1.is)
weak_only text name enables is (simple n) h = absurd (slash_in_weak text name enables is.1.is h.1)

strong_only : (text name enables : List ℕ) → IsReference text (strong name enables) → (other : Reference) → IsReference text other → other ≡ strong name enables
strong_only text name enables is (krate other) h = absurd (is.0 (record { rest = other; is = h }))
strong_only text name enables is (weak n x) h = absurd (is.1 n x h.1.is)
strong_only text name enables is (strong n x) h = let same = cut_once _ text n x name enables h.2 is.2 in let a = same.0 in let b = same.1 in cc
strong_only text name enables is (simple n) h = absurd (h.1 name enables is.2.is)

simple_only : (text name : List ℕ) → IsReference text (simple name) → (other : Reference) → IsReference text other → other ≡ simple name
simple_only text name is (krate other) h = absurd (is.0 (record { rest = other; is = h }))
simple_only text name is (weak n x) h = absurd (slash_in_weak text n x h.1.is is.1)
simple_only text name is (strong n x) h = absurd (is.1 n x h.2.is)
simple_only text name is (simple n) h = let a = is.2 in let b = h.2 in cc

-- each text is one reference, and no other
pub one_reference : (text : List ℕ) → HasOneReading text
one_reference text = elim (begins_or_not (codes "dep:") text) [
  | inl b ↦ record { reading = krate b.rest; is = b.is; only = krate_only text b.rest b.is }
  | inr none ↦ elim (cut_or_lacks (codes "?/") text) [
    | inl cut ↦ record { reading = weak cut.0 cut.1; is = (none, cut.2); only = weak_only text cut.0 cut.1 (none, cut.2) }
    | inr lacks ↦ elim (cut_or_lacks (codes "/") text) [
      | inl cut ↦ record { reading = strong cut.0 cut.1; is = (none, lacks, cut.2); only = strong_only text cut.0 cut.1 (none, lacks, cut.2) }
      | inr whole ↦ record { reading = simple text; is = (none, whole, refl); only = simple_only text text (none, whole, refl) }
    ]
  ]
]
