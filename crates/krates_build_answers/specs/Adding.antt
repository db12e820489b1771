-- What is added to lists.
use Rattle.std.specs.Prelude.{◌↔◌, ◌⊎◌, List, Contains}

-- some element of the list is related to it
pub record IsOfSome {A B : Type 0} (R : A → B → Type 0) (xs : List A) (y : B) : Type 0 where
  pub from : A
  pub among : Contains xs from
  pub related : R from y

-- exactly what has the property is added
abbrev pub Adds : {A : Type 0} → (A → Type 0) → List A → List A → Type 0
Adds {A} P old new = (x : A) → Contains new x ↔ (Contains old x ⊎ P x)
