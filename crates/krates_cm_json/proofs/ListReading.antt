-- A list that is read item by item.
use Rattle.std.proofs.Common.{◌≡◌, List, ◌∷◌, [], ◌++◌, Option, Some, None, option_map, refl, sym, ap, append_assoc}
use Rattle.krates_cm_json.specs.Reading.{applied}

-- what is read, after what was read before
abbrev pub with_front : {A : Type 0} → List A → Option (List A) → Option (List A)
with_front front r = option_map (λ xs. front ++ xs) r

-- an item that is read next joins the front
pub regroup : {P : Type 0} (front : List P) (p : P) (r : Option (List P)) → with_front front (applied (Some (λ es. p ∷ es)) r) ≡ with_front (front ++ p ∷ []) r
regroup front p None = refl
regroup front p (Some es) = ap (λ xs. Some xs) (sym (append_assoc front (p ∷ []) es))
