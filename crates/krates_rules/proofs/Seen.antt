-- What holds of each element so far, as a list is gone over.
use Rattle.std.proofs.Common.{◌≡◌, ℕ, ◌+◌, ◌<◌, ◌≤◌, List, length, get_or, map, Some, Contains, inl, inr, ap, ◌∙◌, subst, arith}
use Rattle.std.proofs.lemmas.Bool.{cases_lt}
use Rattle.std.proofs.lemmas.List.{get_or_default}
use Rattle.std.proofs.lemmas.Option.{slice_get-get_or}
use Rattle.krates_rules.proofs.FirstPlaces.{seen_at}

abbrev pub SeenBelow : {A : Type 0} → (A → Type 0) → List A → ℕ → Type 0
SeenBelow {A} P xs n = (k : ℕ) (d : A) → k < n → P (get_or xs k d)

-- it holds of one more element
pub seen_more : {A : Type 0} (P : A → Type 0) (xs : List A) (i : ℕ) (x : A) → i < length xs → x ≡ get_or xs i x → SeenBelow P xs i → P x → SeenBelow P xs (i + 1)
seen_more P xs i x lt is h here k d below = elim (cases_lt k i) [
  | inl lower ↦ h k d lower
  | inr le ↦ (
      let e : i ≡ k = omega arith in
      subst P (is ∙ get_or_default xs i x d lt ∙ ap (λ n. get_or xs n d) e) here)
]

-- and in the end of each
pub seen_all : {A : Type 0} (P : A → Type 0) (xs ys : List A) (i : ℕ) → xs ≡ ys → length xs ≤ i → SeenBelow P xs i → SeenBelow P ys (length ys)
seen_all P xs ys i same le h = subst (λ zs. SeenBelow P zs (length zs)) same (λ k d lt. h k d (omega arith))

-- as a property of the views in the list
pub each_seen : {A B : Type 0} (f : A → B) (P : B → Type 0) (xs ys : List A) (i : ℕ) → xs ≡ ys → length xs ≤ i → SeenBelow (λ x. P (f x)) xs i → (y : B) → Contains (map f ys) y → P y
each_seen f P xs ys i same le h y (k, lt, is) =
    let at = seen_at f ys k y (slice_get-get_or (map f ys) k y lt ∙ ap (λ z. Some z) is) in
    subst P at.2 (seen_all (λ x. P (f x)) xs ys i same le h k at.0 at.1)
