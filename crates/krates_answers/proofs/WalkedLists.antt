-- A list through which a loop goes: what it has had so far, as the list sees it, and what is left.
use Rattle.std.proofs.Common.{◌≡◌, List, [], ◌∷◌, ◌++◌, map, append_assoc, refl, sym, ap, ◌∙◌, subst, inl}
use Rattle.std.proofs.lemmas.List.{append-nil, map-append}
use Rattle.krates_rules.proofs.Members.{Member, member_right}
use Rattle.krates_answers.specs.Those.{AreThose, none}
use Rattle.krates_answers.proofs.ThoseLemmas.{AreThose-snoc_leaves, AreThose-snoc_takes}

-- with one more
pub walked_on : {A B : Type 0} (f : A → B) (done : List A) (x : A) (left rest all : List B) → left ≡ f x ∷ rest → map f done ++ left ≡ all → map f (done ++ x ∷ []) ++ rest ≡ all
walked_on f done x left rest all step whole =
    ap (λ zs. zs ++ rest) (map-append f done (x ∷ [])) ∙ (append_assoc (map f done) (f x ∷ []) rest ∙ (ap (λ zs. map f done ++ zs) (sym step) ∙ whole))

-- nothing is left
pub walked : {A B : Type 0} (f : A → B) (done : List A) (left all : List B) → left ≡ [] → map f done ++ left ≡ all → map f done ≡ all
walked f done left all end whole = sym (append-nil (map f done)) ∙ (ap (λ zs. map f done ++ zs) (sym end) ∙ whole)

-- what comes next is in the list
pub next_among : {B : Type 0} (done : List B) (x : B) (left rest all : List B) → left ≡ x ∷ rest → done ++ left ≡ all → Member all x
next_among done x left rest all step whole = subst (λ zs. Member zs x) (ap (λ zs. done ++ zs) (sym step) ∙ whole) (member_right done (x ∷ rest) x (inl refl))

-- ---- those of what the loop has had

pub those_none : {B : Type 0} {P : B → Type 0} (those : List B) → those ≡ [] → AreThose P [] those
those_none {P = P} those e = subst (AreThose P []) (sym e) none

pub those_takes : {A B : Type 0} {P : B → Type 0} (f : A → B) (done those now : List A) (x : A) → AreThose P (map f done) (map f those) → P (f x) → now ≡ those ++ x ∷ []
    → AreThose P (map f (done ++ x ∷ [])) (map f now)
those_takes {P = P} f done those now x before has e =
    subst (λ zs. AreThose P zs (map f now)) (sym (map-append f done (x ∷ [])))
    (subst (AreThose P (map f done ++ f x ∷ [])) (sym (ap (map f) e ∙ map-append f those (x ∷ []))) (AreThose-snoc_takes before has))

pub those_leaves : {A B : Type 0} {P : B → Type 0} (f : A → B) (done : List A) (those : List B) (x : A) → AreThose P (map f done) those → (P (f x) → ⊥) → AreThose P (map f (done ++ x ∷ [])) those
those_leaves {P = P} f done those x before lacks = subst (λ zs. AreThose P zs those) (sym (map-append f done (x ∷ []))) (AreThose-snoc_leaves before lacks)
