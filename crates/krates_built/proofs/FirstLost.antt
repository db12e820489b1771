-- The first place of what is lost.
use Rattle.std.proofs.Common.{◌≡◌, List, [], ◌∷◌, Some, None, Less, refl, sym, subst, inl, inr}
use Rattle.std.proofs.lemmas.List.Elements.{All-contains, All-from_recursion}
use Rattle.std.proofs.lemmas.Map.Keys.{sorted_head}
use Rattle.std.proofs.lemmas.Option.{same_Some}
use Rattle.std.specs.List.{slice_get}
use Rattle.krates_rules.proofs.Members.{contains_of, member_of}
use Rattle.krates_build_tables.specs.declared.tables.Tables.{Tables}
use Rattle.krates_built.specs.BuildLists.{IsListOf, lost_cmp, lost_fact}
use Rattle.krates_built.specs.Refusals.{IsFirstLost, LosesNothing}
use Rattle.krates_built.specs.contracts.places.LostPlaceOrd.TheImpl.Laws.{total-law}
use Rattle.krates_built.specs.declared.places.LostPlace.{LostPlace}

-- of two places not each is before the other
not_both : (x y : LostPlace) → lost_cmp x y ≡ Less → lost_cmp y x ≡ Less → ⊥
not_both x y less more = let turned = total-law.antisymm x y in cc (less, more, turned)

-- the first place of the whole list is that of the first dependency that is lost
pub first_lost : (t : Tables) (places : List LostPlace) (place : LostPlace) → IsListOf t lost_fact lost_cmp places → slice_get places 0 ≡ Some place
    → IsFirstLost t place
first_lost t [] place h at = absurd cc
first_lost t (x ∷ xs) place h at = subst (IsFirstLost t) (same_Some x place at) (record {
  lost = (h.exact x).0 (contains_of (x ∷ xs) x (inl refl));
  first = λ other follows less. elim (member_of (x ∷ xs) other ((h.exact other).1 follows)) [
    | inl same ↦ (let below = subst (λ (z : LostPlace). lost_cmp z x ≡ Less) (sym same) less in not_both x x below below)
    | inr m ↦ (
        let later = All-from_recursion (λ (y : LostPlace). lost_cmp x y ≡ Less) xs (sorted_head lost_cmp x xs h.ascending) in
        not_both other x less (All-contains (λ (y : LostPlace). lost_cmp x y ≡ Less) xs other later (contains_of xs other m)))
  ];
})

-- where the whole list is empty, nothing is lost
pub nothing_lost : (t : Tables) (places : List LostPlace) → IsListOf t lost_fact lost_cmp places → slice_get places 0 ≡ None → LosesNothing t
nothing_lost t [] h at = λ place follows. member_of [] place ((h.exact place).1 follows)
nothing_lost t (x ∷ xs) h at = absurd cc
