-- Lists that a loop makes, item by item of another.
use Rattle.std.proofs.Common.{◌≡◌, ℕ, ◌+◌, ◌<◌, ◌≤◌, List, [], ◌∷◌, ◌++◌, drop, get_or, length, map, sym, ap, ◌∙◌, append_assoc}
use Rattle.std.proofs.lemmas.List.{append-nil, at_drop_all, drop_more, map-append}

module _ {X Y A C : Type 0} (view : A → C) (g : Y → C) (h : X → Y) (xs : List X) (whole : List C) where
  -- one more is made, of the item at hand
  pub one_made : (i : ℕ) (x : X) (old new : List A) (made : A) → i < length xs → x ≡ get_or xs i x → new ≡ old ++ made ∷ [] → view made ≡ g (h x)
      → map view old ++ map g (map h (drop i xs)) ≡ whole → map view new ++ map g (map h (drop (i + 1) xs)) ≡ whole
  one_made i x old new made lt is added same so_far =
      let rest = map g (map h (drop (i + 1) xs)) in
      ap (λ l. map view l ++ rest) added ∙ ap (λ l. l ++ rest) (map-append view old (made ∷ [])) ∙ append_assoc (map view old) (view made ∷ []) rest
      ∙ ap (λ c. map view old ++ (c ∷ rest)) same ∙ ap (λ ys. map view old ++ map g (map h ys)) (ap (λ y. y ∷ drop (i + 1) xs) is ∙ sym (drop_more xs i x lt)) ∙ so_far

  -- all are made
  pub all_made : (i : ℕ) (made : List A) → length xs ≤ i → map view made ++ map g (map h (drop i xs)) ≡ whole → map view made ≡ whole
  all_made i made past so_far = sym (append-nil (map view made)) ∙ ap (λ l. map view made ++ l) (sym (at_drop_all (λ ys. map g (map h ys)) xs i past)) ∙ so_far
