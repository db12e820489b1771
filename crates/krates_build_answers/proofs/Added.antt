-- What is added to lists, element by element.
use Rattle.std.proofs.Common.{◌≡◌, ◌↔◌, ◌⊎◌, ◌+◌, ◌<◌, ◌≤◌, ℕ, List, [], ◌∷◌, ◌++◌, Contains, length, get_or, take, sym, ◌∙◌, subst, inl, inr}
use Rattle.std.proofs.lemmas.List.{take_all, take_more}
use Rattle.std.proofs.lemmas.List.Elements.{Contains-append_left, Contains-push, Contains-push_cases}
use Rattle.krates_rules.proofs.Members.{member_of}
use Rattle.krates_build_answers.specs.Adding.{Adds, IsOfSome}

pub adds_nothing : {A : Type 0} (P : A → Type 0) (xs : List A) → ((x : A) → P x → ⊥) → Adds P xs xs
adds_nothing P xs none x = (λ c. inl c, λ h. elim h [ inl c ↦ c | inr p ↦ absurd (none x p) ])

pub adds_one : {A : Type 0} (old new : List A) (y : A) → new ≡ old ++ y ∷ [] → Adds (λ x. y ≡ x) old new
adds_one old new y is x = (
  λ c. Contains-push_cases old y x (subst (λ (zs : List _). Contains zs x) is c),
  λ h. subst (λ (zs : List _). Contains zs x) (sym is) (elim h [
    | inl c ↦ Contains-append_left old (y ∷ []) x c
    | inr e ↦ subst (Contains (old ++ y ∷ [])) e (Contains-push old y)
  ]),
)

-- the same of a property that says the same
pub adds_same : {A : Type 0} (P Q : A → Type 0) (old new : List A) → ((x : A) → P x ↔ Q x) → Adds P old new → Adds Q old new
adds_same P Q old new same h x = (
  λ c. elim ((h x).0 c) [ inl before ↦ inl before | inr p ↦ inr ((same x).0 p) ],
  λ g. (h x).1 (elim g [ inl before ↦ inl before | inr q ↦ inr ((same x).1 q) ]),
)

-- the same of one that is equal to what has a property
pub adds_equal : {A : Type 0} (Q : A → Type 0) (old new : List A) (y z : A) → y ≡ z → ((x : A) → (z ≡ x) ↔ Q x) → Adds (λ x. y ≡ x) old new → Adds Q old new
adds_equal Q old new y z is same h = adds_same (λ x. y ≡ x) Q old new (λ x. (λ e. (same x).0 (sym is ∙ e), λ q. is ∙ (same x).1 q)) h

-- ---- over a list

module _ {A B : Type 0} (R : A → B → Type 0) where
  none_of : (y : B) → IsOfSome R [] y → ⊥
  none_of y w = absurd (member_of [] w.from w.among)

  pub adds_none : (xs : List A) (old : List B) → Adds (IsOfSome R (take 0 xs)) old old
  adds_none xs old = adds_nothing (IsOfSome R (take 0 xs)) old none_of

  more : (xs : List A) (i : ℕ) (d : A) (y : B) → i < length xs → IsOfSome R (take (i + 1) xs) y ↔ (IsOfSome R (take i xs) y ⊎ R (get_or xs i d) y)
  more xs i d y lt =
      let is = take_more xs i d lt in (
        λ w. elim (Contains-push_cases (take i xs) (get_or xs i d) w.from (subst (λ (zs : List A). Contains zs w.from) is w.among)) [
          | inl c ↦ inl (record { from = w.from; among = c; related = w.related })
          | inr e ↦ inr (subst (λ (a : A). R a y) (sym e) w.related)
        ],
        λ h. elim h [
          | inl w ↦ record {
            from = w.from;
            among = subst (λ (zs : List A). Contains zs w.from) (sym is) (Contains-append_left (take i xs) (get_or xs i d ∷ []) w.from w.among);
            related = w.related;
          }
          | inr g ↦ record {
            from = get_or xs i d;
            among = subst (λ (zs : List A). Contains zs (get_or xs i d)) (sym is) (Contains-push (take i xs) (get_or xs i d));
            related = g;
          }
        ],
      )

  pub adds_more : (xs : List A) (i : ℕ) (d : A) (old mid new : List B) → i < length xs → Adds (IsOfSome R (take i xs)) old mid
      → Adds (R (get_or xs i d)) mid new → Adds (IsOfSome R (take (i + 1) xs)) old new
  adds_more xs i d old mid new lt h g y =
      let step = more xs i d y lt in (
        λ c. elim ((g y).0 c) [
          | inl before ↦ elim ((h y).0 before) [ inl first ↦ inl first | inr w ↦ inr (step.1 (inl w)) ]
          | inr r ↦ inr (step.1 (inr r))
        ],
        λ k. (g y).1 (elim k [
          | inl first ↦ inl ((h y).1 (inl first))
          | inr w ↦ elim (step.0 w) [ inl v ↦ inl ((h y).1 (inr v)) | inr r ↦ inr r ]
        ]),
      )

  pub adds_all : (xs : List A) (i : ℕ) (old new : List B) → length xs ≤ i → Adds (IsOfSome R (take i xs)) old new → Adds (IsOfSome R xs) old new
  adds_all xs i old new le h = subst (λ (zs : List A). Adds (IsOfSome R zs) old new) (take_all i xs le) h
