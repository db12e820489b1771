-- The front of a list through which a loop goes by number.
use Rattle.std.proofs.Common.{◌≡◌, ◌<◌, ◌+◌, ◌++◌, ◌∷◌, ◌∙◌, ℕ, List, [], ap, get_or, length, length-append, map, subst, sym, take}
use Rattle.std.proofs.lemmas.List.{map-append, take_more}
use Rattle.krates_answers.specs.Those.{AreThose}
use Rattle.krates_answers.proofs.ThoseLemmas.{AreThose-snoc_leaves, AreThose-snoc_takes}

pub one_taken : {A : Type 0} (xs : List A) (i : ℕ) (x : A) → i < length xs → x ≡ get_or xs i x → take (i + 1) xs ≡ take i xs ++ x ∷ []
one_taken xs i x lt is = take_more xs i x lt ∙ ap (λ y. take i xs ++ y ∷ []) (sym is)

-- ---- those of a front

pub taken_takes : {A B : Type 0} {P : A → Type 0} (now : B → A) (xs : List A) (i : ℕ) (x : B) (old new : List B) → i < length xs → now x ≡ get_or xs i (now x)
    → AreThose P (take i xs) (map now old) → P (now x) → new ≡ old ++ x ∷ [] → AreThose P (take (i + 1) xs) (map now new)
taken_takes {P = P} now xs i x old new lt is before has added =
    subst (λ all. AreThose P all (map now new)) (sym (one_taken xs i (now x) lt is))
    (subst (AreThose P (take i xs ++ now x ∷ [])) (sym (ap (map now) added ∙ map-append now old (x ∷ []))) (AreThose-snoc_takes before has))

pub taken_itself : {A : Type 0} {P : A → Type 0} (xs : List A) (i : ℕ) (x : A) (old new : List A) → i < length xs → x ≡ get_or xs i x → AreThose P (take i xs) old → P x → new ≡ old ++ x ∷ [] → AreThose P (take (i + 1) xs) new
taken_itself {P = P} xs i x old new lt is before has added =
    subst (λ all. AreThose P all new) (sym (one_taken xs i x lt is)) (subst (AreThose P (take i xs ++ x ∷ [])) (sym added) (AreThose-snoc_takes before has))

pub taken_leaves : {A : Type 0} {P : A → Type 0} (xs : List A) (i : ℕ) (x : A) (those : List A) → i < length xs → x ≡ get_or xs i x → AreThose P (take i xs) those → (P x → ⊥) → AreThose P (take (i + 1) xs) those
taken_leaves {P = P} xs i x those lt is before lacks = subst (λ all. AreThose P all those) (sym (one_taken xs i x lt is)) (AreThose-snoc_leaves before lacks)

-- ---- those of a front, as it is seen

pub seen_front : {A C : Type 0} (f : A → C) (xs : List A) (i : ℕ) (x : A) → i < length xs → x ≡ get_or xs i x → map f (take (i + 1) xs) ≡ map f (take i xs) ++ f x ∷ []
seen_front f xs i x lt is = ap (map f) (one_taken xs i x lt is) ∙ map-append f (take i xs) (x ∷ [])

pub seen_takes : {A B C : Type 0} {P : C → Type 0} (f : A → C) (g : B → C) (xs : List A) (i : ℕ) (x : A) (y : B) (old new : List B) → i < length xs → x ≡ get_or xs i x
    → AreThose P (map f (take i xs)) (map g old) → P (f x) → g y ≡ f x → new ≡ old ++ y ∷ [] → AreThose P (map f (take (i + 1) xs)) (map g new)
seen_takes {P = P} f g xs i x y old new lt is before has same added =
    subst (λ all. AreThose P all (map g new)) (sym (seen_front f xs i x lt is))
    (subst (AreThose P (map f (take i xs) ++ f x ∷ [])) (sym (ap (map g) added ∙ map-append g old (y ∷ []) ∙ ap (λ z. map g old ++ z ∷ []) same)) (AreThose-snoc_takes before has))

pub seen_leaves : {A C : Type 0} {P : C → Type 0} (f : A → C) (xs : List A) (i : ℕ) (x : A) (those : List C) → i < length xs → x ≡ get_or xs i x
    → AreThose P (map f (take i xs)) those → (P (f x) → ⊥) → AreThose P (map f (take (i + 1) xs)) those
seen_leaves {P = P} f xs i x those lt is before lacks = subst (λ all. AreThose P all those) (sym (seen_front f xs i x lt is)) (AreThose-snoc_leaves before lacks)

-- ---- how many those are

abbrev pub Counted : {A : Type 0} → (A → Type 0) → List A → ℕ → Type 0
Counted P all count = (those : List _) × AreThose P all those × (count ≡ length those)

pub counted_takes : {A B : Type 0} {P : A → Type 0} (now : B → A) (xs : List B) (i : ℕ) (x : B) (count new : ℕ) → i < length xs → x ≡ get_or xs i x
    → Counted P (map now (take i xs)) count → P (now x) → new ≡ count + 1 → Counted P (map now (take (i + 1) xs)) new
counted_takes {P = P} now xs i x count new lt is (those, are, same) has more = (
  those ++ now x ∷ [],
  subst (λ all. AreThose P all (those ++ now x ∷ [])) (sym (ap (map now) (one_taken xs i x lt is) ∙ map-append now (take i xs) (x ∷ []))) (AreThose-snoc_takes are has),
  more ∙ ap (λ n. n + 1) same ∙ sym (length-append those (now x ∷ [])),
)

pub counted_leaves : {A B : Type 0} {P : A → Type 0} (now : B → A) (xs : List B) (i : ℕ) (x : B) (count new : ℕ) → i < length xs → x ≡ get_or xs i x
    → Counted P (map now (take i xs)) count → (P (now x) → ⊥) → new ≡ count → Counted P (map now (take (i + 1) xs)) new
counted_leaves {P = P} now xs i x count new lt is (those, are, same) lacks more = (
  those,
  subst (λ all. AreThose P all those) (sym (ap (map now) (one_taken xs i x lt is) ∙ map-append now (take i xs) (x ∷ []))) (AreThose-snoc_leaves are lacks),
  more ∙ same,
)
