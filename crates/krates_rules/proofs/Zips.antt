-- Lists that are made item by item, each item related to one of another list.
use Rattle.std.proofs.Common.{◌≡◌, ℕ, ◌+◌, ◌<◌, ◌≤◌, List, [], ◌∷◌, ◌++◌, All, None, Option, length, get_or, take, map, refl, sym, ap, ◌∙◌, subst, Contains, inl, inr}
use Rattle.std.proofs.IntoIterSteps.{takes, taken}
use Rattle.std.proofs.lemmas.Iterator.{YieldsList}
use Rattle.std.proofs.lemmas.Iterator.Consumers.{YieldsList-end}
use Rattle.std.proofs.lemmas.List.{map-append, length-map, get_or-map, get_or_default, take_more, take_all}
use Rattle.std.specs.Iterator.{Yields}
use Rattle.std.specs.List.{AllZip, AllByRecursion}
use Rattle.std.specs.declared.vec.IntoIter.{IntoIter}
use Rattle.krates_rules.proofs.Members.{Member}
use mathlib.Core.List.{map-id}

-- one more pair
pub zip_push : {A B : Type 0} (R : A → B → Type 0) (xs : List A) (ys : List B) (x : A) (y : B) → AllZip R xs ys → R x y → AllZip R (xs ++ x ∷ []) (ys ++ y ∷ [])
zip_push R [] [] x y h here = (here, tt)
zip_push R [] (b ∷ ys) x y h here = absurd h
zip_push R (a ∷ xs) [] x y h here = absurd h
zip_push R (a ∷ xs) (b ∷ ys) x y h here = (h.0, zip_push R xs ys x y h.1 here)

-- one more item
pub zip_next : {X A B : Type 0} (R : A → B → Type 0) (seen : X → A) (xs : List X) (i : ℕ) (x : X) (ys : List B) (y : B) → i < length xs → x ≡ get_or xs i x
    → R (seen x) y → AllZip R (map seen (take i xs)) ys → AllZip R (map seen (take (i + 1) xs)) (ys ++ y ∷ [])
zip_next R seen xs i x ys y lt is here so_far =
    let more : take (i + 1) xs ≡ take i xs ++ x ∷ [] = take_more xs i x lt ∙ ap (λ z. take i xs ++ z ∷ []) (sym is) in
    rw (more, map-append) (zip_push R (map seen (take i xs)) ys (seen x) y so_far here)

-- one more item, read with a default
pub zip_read : {X A B : Type 0} (R : A → B → Type 0) (seen : X → A) (xs : List X) (i : ℕ) (d : X) (ys : List B) (y : B) → i < length xs
    → R (seen (get_or xs i d)) y → AllZip R (map seen (take i xs)) ys → AllZip R (map seen (take (i + 1) xs)) (ys ++ y ∷ [])
zip_read R seen xs i d ys y lt here so_far = zip_next R seen xs i (get_or xs i d) ys y lt (get_or_default xs i d (get_or xs i d) lt) here so_far

-- all items
pub zip_all : {X A B : Type 0} (R : A → B → Type 0) (seen : X → A) (xs : List X) (i : ℕ) (ys : List B) → length xs ≤ i → AllZip R (map seen (take i xs)) ys → AllZip R (map seen xs) ys
zip_all R seen xs i ys le h = subst (λ zs. AllZip R (map seen zs) ys) (take_all i xs le) h

-- lists related item by item are related by their views
pub zip_mapped : {A B C D : Type 0} (R : A → B → Type 0) (S : C → D → Type 0) (f : A → C) (g : B → D) (xs : List A) (us : List B) → AllZip R xs us → ((a : A) (b : B) → R a b → S (f a) (g b)) → AllZip S (map f xs) (map g us)
zip_mapped R S f g [] [] z h = tt
zip_mapped R S f g [] (u ∷ us) z h = absurd z
zip_mapped R S f g (x ∷ xs) [] z h = absurd z
zip_mapped R S f g (x ∷ xs) (u ∷ us) z h = (h x u z.0, zip_mapped R S f g xs us z.1 h)

-- related elements of two lists are related in another way too
pub zip_there : {A B : Type 0} (R Q : A → B → Type 0) (xs : List A) (ys : List B) → ((x : A) → Member xs x → (y : B) → R x y → Q x y) → AllZip R xs ys → AllZip Q xs ys
zip_there R Q [] [] h z = tt
zip_there R Q [] (y ∷ ys) h z = absurd z
zip_there R Q (x ∷ xs) [] h z = absurd z
zip_there R Q (x ∷ xs) (y ∷ ys) h z = (h x (inl refl) y z.0, zip_there R Q xs ys (λ w m. h w (inr m)) z.1)

-- ---- properties of each item

-- one more item that was made
pub each_push : {A : Type 0} (P : A → Type 0) (xs : List A) (x : A) → AllByRecursion P xs → P x → AllByRecursion P (xs ++ x ∷ [])
each_push P [] x h here = (here, tt)
each_push P (y ∷ xs) x h here = (h.0, each_push P xs x h.1 here)

-- one more item that was looked at
pub each_next : {X A : Type 0} (P : A → Type 0) (seen : X → A) (xs : List X) (i : ℕ) (x : X) → i < length xs → x ≡ get_or xs i x
    → P (seen x) → AllByRecursion P (map seen (take i xs)) → AllByRecursion P (map seen (take (i + 1) xs))
each_next P seen xs i x lt is here so_far =
    let more : take (i + 1) xs ≡ take i xs ++ x ∷ [] = take_more xs i x lt ∙ ap (λ z. take i xs ++ z ∷ []) (sym is) in
    rw (more, map-append) (each_push P (map seen (take i xs)) (seen x) so_far here)

pub each_all : {X A : Type 0} (P : A → Type 0) (seen : X → A) (xs : List X) (i : ℕ) → length xs ≤ i → AllByRecursion P (map seen (take i xs)) → AllByRecursion P (map seen xs)
each_all P seen xs i le h = subst (λ zs. AllByRecursion P (map seen zs)) (take_all i xs le) h

-- the view of an item that was looked at is among the views
pub one_seen : {X A : Type 0} (seen : X → A) (xs : List X) (i : ℕ) (x : X) → i < length xs → x ≡ get_or xs i x → Contains (map seen xs) (seen x)
one_seen seen xs i x lt is = (i, rw length-map lt, get_or-map seen xs i x (seen x) lt ∙ ap seen (sym is))

-- what holds of each view holds of the element that a loop has reached
pub seen_at : {A B : Type 0} (P : B → Type 0) (v : A → B) (xs : List A) (i : ℕ) (x : A) → All P (map v xs) → i < length xs → x ≡ get_or xs i x → P (v x)
seen_at P v xs i x all lt e = subst P (get_or-map v xs i x (v x) lt ∙ ap v (sym e)) (all i (v x) (rw length-map lt))

-- ---- owned lists

-- a loop that has taken all items of an owned list has yielded the list
pub all_taken : {X A : Type 0} (start last rest : IntoIter X A) (yielded : List X) (next : Option X) → Yields takes start yielded last → next ≡ None → takes last next rest → yielded ≡ start.rest.items
all_taken {X} start last rest yielded next so_far none ends =
    let road : YieldsList takes (λ (x : X). x) start start.rest.items = record { runs = taken start } in
    sym (map-id yielded) ∙ (YieldsList-end road yielded last so_far next rest none ends).0
