-- Parts of lists, and what is made of them.
use Rattle.std.proofs.Common.{◌≡◌, ℕ, ◌+◌, ◌≤◌, List, [], ◌∷◌, ◌++◌, length, map, filter, flat_map, Bool, true, false, ◌||◌, cond, refl, arith}
use Rattle.std.proofs.lemmas.List.{length-append, length-map}
use Rattle.std.specs.List.{list_any}
use Rattle.krates_drawing.specs.Narrower.{IsPart, nothing, keeps, leaves_out}

-- ---- parts

pub whole : {X : Type 0} (xs : List X) → IsPart xs xs
whole [] = nothing
whole (x ∷ xs) = keeps (whole xs)

filter_keeps : {X : Type 0} (b c : Bool) (x : X) (xs ys : List X) → (b ≡ true → c ≡ true) → IsPart xs ys → IsPart (cond b (x ∷ xs) xs) (cond c (x ∷ ys) ys)
filter_keeps true true x xs ys more h = keeps h
filter_keeps true false x xs ys more h = absurd (let e = more refl in cc e)
filter_keeps false true x xs ys more h = leaves_out h
filter_keeps false false x xs ys more h = h

filter_leaves : {X : Type 0} (c : Bool) (y : X) (xs ys : List X) → IsPart xs ys → IsPart xs (cond c (y ∷ ys) ys)
filter_leaves true y xs ys h = leaves_out h
filter_leaves false y xs ys h = h

-- a wider test leaves a larger part
pub part_filter : {X : Type 0} (p q : X → Bool) (xs ys : List X) → ((x : X) → p x ≡ true → q x ≡ true) → IsPart xs ys → IsPart (filter p xs) (filter q ys)
part_filter p q _ _ more nothing = nothing
part_filter p q _ _ more (keeps {x} {xs} {ys} h) = filter_keeps (p x) (q x) x (filter p xs) (filter q ys) (more x) (part_filter p q xs ys more h)
part_filter p q _ _ more (leaves_out {y} {xs} {ys} h) = filter_leaves (q y) y (filter p xs) (filter q ys) (part_filter p q xs ys more h)

any_keeps : (b c d : Bool) → (c ≡ true → d ≡ true) → (b || c) ≡ true → (b || d) ≡ true
any_keeps true c d more h = refl
any_keeps false c d more h = more h

any_leaves : (b d : Bool) → d ≡ true → (b || d) ≡ true
any_leaves true d h = refl
any_leaves false d h = h

-- if some element of a part passes, some element of the whole does
pub part_any : {X : Type 0} (p : X → Bool) (xs ys : List X) → IsPart xs ys → list_any p xs ≡ true → list_any p ys ≡ true
part_any p _ _ nothing h = h
part_any p _ _ (keeps {x} {xs} {ys} w) h = any_keeps (p x) (list_any p xs) (list_any p ys) (part_any p xs ys w) h
part_any p _ _ (leaves_out {y} {xs} {ys} w) h = any_leaves (p y) (list_any p ys) (part_any p xs ys w h)

-- ---- how many there are

pub part_length : {X : Type 0} (xs ys : List X) → IsPart xs ys → length xs ≤ length ys
part_length _ _ nothing = omega arith
part_length _ _ (keeps {x} {xs} {ys} h) = let le = part_length xs ys h in omega (arith, le)
part_length _ _ (leaves_out {y} {xs} {ys} h) = let le = part_length xs ys h in omega (arith, le)

sums : (a b c d : ℕ) → a ≤ c → b ≤ d → a + b ≤ c + d
sums a b c d le me = omega (arith, le, me)

-- of two lists, one after another
pub joined_length : {X : Type 0} (xs ys zs ws : List X) → length xs ≤ length zs → length ys ≤ length ws → length (xs ++ ys) ≤ length (zs ++ ws)
joined_length xs ys zs ws le me = rw (length-append xs ys, length-append zs ws) (sums (length xs) (length ys) (length zs) (length ws) le me)

longer : {X : Type 0} (xs ys zs : List X) → length xs ≤ length zs → length xs ≤ length (ys ++ zs)
longer xs ys zs le = rw (length-append ys zs) (omega (arith, le))

-- if no element gives more, a part gives no more
pub spread_length : {X Y : Type 0} (f g : X → List Y) (xs ys : List X) → ((x : X) → length (f x) ≤ length (g x)) → IsPart xs ys → length (flat_map f xs) ≤ length (flat_map g ys)
spread_length f g _ _ more nothing = omega arith
spread_length f g _ _ more (keeps {x} {xs} {ys} h) = joined_length (f x) (flat_map f xs) (g x) (flat_map g ys) (more x) (spread_length f g xs ys more h)
spread_length f g _ _ more (leaves_out {y} {xs} {ys} h) = longer (flat_map f xs) (g y) (flat_map g ys) (spread_length f g xs ys more h)

pub mapped_length : {X Y Z : Type 0} (f : X → Y) (g : X → Z) (xs ys : List X) → IsPart xs ys → length (map f xs) ≤ length (map g ys)
mapped_length f g xs ys h = rw (length-map xs f, length-map ys g) (part_length xs ys h)
