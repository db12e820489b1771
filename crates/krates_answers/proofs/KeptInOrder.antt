-- A list that is in order by a key, of which a part is kept.
use Rattle.std.proofs.Common.{Bool, List, Ordering, map, filter, map-id, refl, sym, subst}
use Rattle.std.proofs.lemmas.List.Kept.{IsStrictlySortedBy-filter}
use Rattle.std.specs.List.Sorted.{IsStrictlySortedBy}
use Rattle.krates_drawing.proofs.Tests.{sorted_as}

-- the part is in order by the key too
pub kept_in_order : {A K : Type 0} (c : K → K → Ordering) (key : A → K) (p : A → Bool) (xs : List A) → IsStrictlySortedBy c (map key xs) → IsStrictlySortedBy c (map key (filter p xs))
kept_in_order {A} {K} c key p xs ordered =
    let by_key : A → A → Ordering = λ x y. c (key x) (key y) in
    let itself : A → A = λ x. x in
    let all = subst (IsStrictlySortedBy by_key) (map-id xs) (sorted_as c by_key key itself (λ x y. refl) xs ordered) in
    let part = IsStrictlySortedBy-filter by_key p xs all in
    sorted_as by_key c itself key (λ x y. refl) (filter p xs) (subst (IsStrictlySortedBy by_key) (sym (map-id (filter p xs))) part)
