-- What namings that are combined name, from what they give.
use Rattle.std.proofs.Common.{◌≡◌, ℕ, List, [], ◌∷◌, Bool, true, false, Option, Some, None, get_or, position, slice_get, refl, sym, ap, ◌∙◌}
use Rattle.std.proofs.lemmas.List.Quantifiers.{position-Some}
use Rattle.std.proofs.lemmas.Option.{same_Some, slice_get-get_or}
use Rattle.std.specs.Prelude.{option_and_then, option_map}
use Rattle.krates_build_naming.specs.Naming.{applied, by_word, found_or}
use Rattle.krates_build_naming.specs.declared.names.NameFault.{NameFault}

pub found_value : {A : Type 0} (wrong : NameFault) (o : Option A) → (found_or wrong o).value ≡ o
found_value wrong None = refl
found_value wrong (Some x) = refl

pub word_named : {A B : Type 0} (missing wrong : NameFault) (g : B → Option A) (o : Option B) (a : A) → (by_word missing (λ w. found_or wrong (g w)) o).value ≡ Some a → (w : B) × (o ≡ Some w) × (g w ≡ Some a)
word_named missing wrong g None a h = absurd cc
word_named missing wrong g (Some w) a h = (w, refl, sym (found_value wrong (g w)) ∙ h)

pub then_named : {A B : Type 0} (wrong : NameFault) (g : B → Option A) (o : Option B) (a : A) → option_and_then (λ b. (found_or wrong (g b)).value) o ≡ Some a → (b : B) × (o ≡ Some b) × (g b ≡ Some a)
then_named wrong g None a h = absurd cc
then_named wrong g (Some b) a h = (b, refl, sym (found_value wrong (g b)) ∙ h)

pub then_gives : {A B : Type 0} (wrong : NameFault) (g : B → Option A) (o : Option B) (b : B) (a : A) → o ≡ Some b → g b ≡ Some a → option_and_then (λ c. (found_or wrong (g c)).value) o ≡ Some a
then_gives wrong g None b a there named = absurd cc
then_gives wrong g (Some c) b a there named = found_value wrong (g c) ∙ ap g (same_Some c b there) ∙ named

pub and_then_named : {A B : Type 0} (g : B → Option A) (o : Option B) (a : A) → option_and_then g o ≡ Some a → (b : B) × (o ≡ Some b) × (g b ≡ Some a)
and_then_named g None a h = absurd cc
and_then_named g (Some b) a h = (b, refl, h)

pub mapped_named : {A B : Type 0} (g : A → B) (o : Option A) (b : B) → option_map g o ≡ Some b → (a : A) × (o ≡ Some a) × (g a ≡ b)
mapped_named g None b h = absurd cc
mapped_named g (Some a) b h = (a, refl, same_Some (g a) b h)

-- ---- functions and their arguments

pub one_named : {A F : Type 0} (g : A → F) (x : Option A) (f : F) → applied (Some g) x ≡ Some f → (a : A) × (x ≡ Some a) × (g a ≡ f)
one_named g None f h = absurd cc
one_named g (Some a) f h = (a, refl, same_Some (g a) f h)

pub two_named : {A B F : Type 0} (g : A → B → F) (x : Option A) (y : Option B) (f : F) → applied (applied (Some g) x) y ≡ Some f → (a : A) × (b : B) × (x ≡ Some a) × (y ≡ Some b) × (g a b ≡ f)
two_named g None y f h = absurd cc
two_named g (Some a) None f h = absurd cc
two_named g (Some a) (Some b) f h = (a, b, refl, refl, same_Some (g a b) f h)

pub three_named : {A B C F : Type 0} (g : A → B → C → F) (x : Option A) (y : Option B) (z : Option C) (f : F) → applied (applied (applied (Some g) x) y) z ≡ Some f
    → (a : A) × (b : B) × (c : C) × (x ≡ Some a) × (y ≡ Some b) × (z ≡ Some c) × (g a b c ≡ f)
three_named g None y z f h = absurd cc
three_named g (Some a) None z f h = absurd cc
three_named g (Some a) (Some b) None f h = absurd cc
three_named g (Some a) (Some b) (Some c) f h = (a, b, c, refl, refl, refl, same_Some (g a b c) f h)

pub four_named : {A B C D F : Type 0} (g : A → B → C → D → F) (x : Option A) (y : Option B) (z : Option C) (u : Option D) (f : F) → applied (applied (applied (applied (Some g) x) y) z) u ≡ Some f
    → (a : A) × (b : B) × (c : C) × (d : D) × (x ≡ Some a) × (g a b c d ≡ f)
four_named g None y z u f h = absurd cc
four_named g (Some a) None z u f h = absurd cc
four_named g (Some a) (Some b) None u f h = absurd cc
four_named g (Some a) (Some b) (Some c) None f h = absurd cc
four_named g (Some a) (Some b) (Some c) (Some d) f h = (a, b, c, d, refl, same_Some (g a b c d) f h)

pub five_named : {A B C D E F : Type 0} (g : A → B → C → D → E → F) (x : Option A) (y : Option B) (z : Option C) (u : Option D) (v : Option E) (f : F)
    → applied (applied (applied (applied (applied (Some g) x) y) z) u) v ≡ Some f → (a : A) × (b : B) × (c : C) × (d : D) × (e : E) × (x ≡ Some a) × (y ≡ Some b) × (g a b c d e ≡ f)
five_named g None y z u v f h = absurd cc
five_named g (Some a) None z u v f h = absurd cc
five_named g (Some a) (Some b) None u v f h = absurd cc
five_named g (Some a) (Some b) (Some c) None v f h = absurd cc
five_named g (Some a) (Some b) (Some c) (Some d) None f h = absurd cc
five_named g (Some a) (Some b) (Some c) (Some d) (Some e) f h = (a, b, c, d, e, refl, refl, same_Some (g a b c d e) f h)

-- ---- first places

-- the element at the first place that passes
pub first_at : {A : Type 0} (p : A → Bool) (xs : List A) (k : ℕ) → position p xs ≡ Some k → (x : A) × (slice_get xs k ≡ Some x) × (p x ≡ true)
first_at p [] k h = absurd cc
first_at p (d ∷ xs) k h =
    let w = position-Some p (d ∷ xs) k d h in
    (get_or (d ∷ xs) k d, slice_get-get_or (d ∷ xs) k d w.0, w.1)
