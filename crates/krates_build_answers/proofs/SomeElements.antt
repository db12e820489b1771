-- Whether some element of a list has a property.
use Rattle.std.proofs.Common.{◌≡◌, ◌↔◌, ◌+◌, ◌<◌, ◌≤◌, ℕ, Bool, false, IsTrue, List, All, Any, Contains, get_or, length, map, take, sym, ◌∙◌, subst}
use Rattle.std.proofs.lemmas.Bool.{false≢true}
use Rattle.std.proofs.lemmas.List.{take_all, take_more}
use Rattle.std.proofs.lemmas.List.Elements.{All-contains, All-push, Contains-get_or}
use Rattle.krates_rules.proofs.Members.{contains_of, mapped_of, member_map, member_of}

pub any_of : {A : Type 0} (P : A → Type 0) (xs : List A) (x : A) → Contains xs x → P x → Any P xs
any_of P xs x c p = (c.0, x, c.1, c.2, p)

pub any_has : {A : Type 0} (P : A → Type 0) (xs : List A) → Any P xs → (x : A) × Contains xs x × P x
any_has P xs a = (a.1, (a.0, a.2, a.3), a.4)

-- ---- as a list is gone over

-- the one at this place has it
pub some_here : {A : Type 0} (P : A → Type 0) (xs : List A) (i : ℕ) (d : A) → i < length xs → P (get_or xs i d) → Any P xs
some_here P xs i d lt p = any_of P xs (get_or xs i d) (Contains-get_or xs i d lt) p

-- nor has this one
pub none_more : {A : Type 0} (P : A → Type 0) (xs : List A) (i : ℕ) (d : A) (b : Bool) → i < length xs → All (λ x. P x → ⊥) (take i xs)
    → IsTrue b ↔ P (get_or xs i d) → b ≡ false → All (λ x. P x → ⊥) (take (i + 1) xs)
none_more P xs i d b lt none is isnt = subst (All (λ x. P x → ⊥)) (sym (take_more xs i d lt))
    (All-push (λ x. P x → ⊥) (take i xs) (get_or xs i d) none (λ h. false≢true (sym isnt ∙ is.1 h)))

-- none has it
pub none_there : {A : Type 0} (P : A → Type 0) (xs : List A) (i : ℕ) → length xs ≤ i → All (λ x. P x → ⊥) (take i xs) → Any P xs → ⊥
none_there P xs i le none a =
    let w = any_has P xs a in
    All-contains (λ x. P x → ⊥) xs w.0 (subst (All (λ x. P x → ⊥)) (take_all i xs le) none) w.1 w.2

-- ---- of views

pub any_seen : {A B : Type 0} (f : A → B) (P : B → Type 0) (xs : List A) → Any (λ x. P (f x)) xs → Any P (map f xs)
any_seen f P xs a =
    let w = any_has (λ x. P (f x)) xs a in
    any_of P (map f xs) (f w.0) (contains_of (map f xs) (f w.0) (member_map f xs w.0 (member_of xs w.0 w.1))) w.2

pub any_unseen : {A B : Type 0} (f : A → B) (P : B → Type 0) (xs : List A) → Any P (map f xs) → Any (λ x. P (f x)) xs
any_unseen f P xs a =
    let w = any_has P (map f xs) a in
    let v = mapped_of f xs w.0 (member_of (map f xs) w.0 w.1) in
    any_of (λ x. P (f x)) xs v.from (contains_of xs v.from v.member) (subst P (sym v.is) w.2)
