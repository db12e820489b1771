-- The first element of a list without a property, as the list is gone over.
use Rattle.std.proofs.Common.{◌≡◌, ℕ, ◌<◌, List, length, get_or, map, Some, option_map, sym, ap, ◌∙◌, subst}
use Rattle.std.proofs.lemmas.Option.{slice_get-map, slice_get-get_or}
use Rattle.krates_rules.proofs.FirstPlaces.{seen_at}
use Rattle.krates_rules.proofs.Seen.{SeenBelow}
use Rattle.krates_build_tables.specs.Unanswered.{IsFirstWithout}

-- an element without it, where each before it has it
pub first_without : {A B : Type 0} (f : A → B) (P : B → Type 0) (xs : List A) (i : ℕ) (x : A) → i < length xs → x ≡ get_or xs i x → SeenBelow (λ a. P (f a)) xs i → ¬ P (f x)
    → IsFirstWithout P (map f xs) (f x)
first_without f P xs i x lt is seen lacks = record {
  place = i;
  here = slice_get-map f xs i ∙ ap (option_map f) (slice_get-get_or xs i x lt ∙ ap (λ z. Some z) (sym is));
  lacks = lacks;
  before = λ k y low here.
      let there = seen_at f xs k y here in
      subst P there.2 (seen k there.0 low);
}
