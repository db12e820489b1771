-- A list under a map and a filter, and under two maps.
use Rattle.std.proofs.Common.{◌≡◌, List, [], ◌∷◌, map, filter, Bool, true, false, cond, refl, ap, inl, inr}
use Rattle.std.specs.List.{AllZip}
use Rattle.krates_rules.proofs.Members.{Member}

-- filtering by the values of a function, before or after applying it
map_filter_step : {X Y : Type 0} (f : X → Y) (q : Y → Bool) (x : X) (xs : List X) (b : Bool) → map f (filter (λ z. q (f z)) xs) ≡ filter q (map f xs)
    → map f (cond b (x ∷ filter (λ z. q (f z)) xs) (filter (λ z. q (f z)) xs)) ≡ cond b (f x ∷ filter q (map f xs)) (filter q (map f xs))
map_filter_step f q x xs true e = ap (λ ys. f x ∷ ys) e
map_filter_step f q x xs false e = e

pub map_filter : {X Y : Type 0} (f : X → Y) (q : Y → Bool) (xs : List X) → map f (filter (λ z. q (f z)) xs) ≡ filter q (map f xs)
map_filter f q [] = refl
map_filter f q (x ∷ xs) = map_filter_step f q x xs (q (f x)) (map_filter f q xs)

-- ---- two maps, place by place

pub zip_maps : {X A B : Type 0} (R : A → B → Type 0) (f : X → A) (g : X → B) (xs : List X) → ((x : X) → Member xs x → R (f x) (g x)) → AllZip R (map f xs) (map g xs)
zip_maps R f g [] h = tt
zip_maps R f g (x ∷ xs) h = (h x (inl refl), zip_maps R f g xs (λ z m. h z (inr m)))
