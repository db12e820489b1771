-- A part of a list, by a property.
use Rattle.std.specs.Prelude.{◌≡◌, List, [], ◌∷◌, ◌++◌}

-- the second list has exactly those of the first that have the property, in their order
pub data AreThose {A : Type 0} (P : A → Type 0) : List A → List A → Type 0 where
  none : AreThose P [] []
  takes : {x : A} {all those : List A} → P x → AreThose P all those → AreThose P (x ∷ all) (x ∷ those)
  leaves : {x : A} {all those : List A} → (P x → ⊥) → AreThose P all those → AreThose P (x ∷ all) those

-- exactly those of a list that have the property are added at the end, in their order
pub record AddsThose {A : Type 0} (P : A → Type 0) (all old new : List A) : Type 0 where
  pub added : List A
  pub appended : new ≡ old ++ added
  pub those : AreThose P all added
