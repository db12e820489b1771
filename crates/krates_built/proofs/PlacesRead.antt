-- What is read at numbers and places.
use Rattle.std.proofs.Common.{◌≡◌, ℕ, ◌+◌, ◌<◌, List, Some, get_or, length, map, option_map, arith, refl, sym, ap, ◌∙◌, subst, inl, inr}
use Rattle.std.proofs.lemmas.Bool.{cases_lt}
use Rattle.std.proofs.lemmas.List.{length-map}
use Rattle.std.proofs.lemmas.Option.{same_Some, slice_get-map, slice_get_read, slice_get_within}
use Rattle.std.specs.List.{slice_get}
use Rattle.krates_ids.specs.Identity.{Identity}
use Rattle.krates_rules.specs.Facts.{Id}
use Rattle.krates_rules.specs.Resolved.{id_of}
use Rattle.krates_build_tables.specs.TablesOf.{CrateAt}
use Rattle.krates_build_tables.specs.declared.tables.CrateEntry.{CrateEntry}
use Rattle.krates_build_tables.specs.declared.tables.Tables.{Tables}
use Rattle.krates_built.specs.OrderAt.{Depends, DependsAt}

-- an element at a place where there is one
pub read_at : {A : Type 0} (xs : List A) (k : ℕ) (x y : A) → slice_get xs k ≡ Some y → x ≡ get_or xs k x → slice_get xs k ≡ Some x
read_at xs k x y at is = slice_get_read xs (length xs) k x refl (slice_get_within xs k y at) is

-- the id of the crate with a number that some crate has
pub id_here : (kids : List Identity) (number : ℕ) (kid : Identity) (i : Id) → CrateAt (map id_of kids) number i → kid ≡ get_or kids number kid
    → CrateAt (map id_of kids) number (id_of kid)
id_here kids number kid i at is =
    let within : number < length kids = omega (arith, slice_get_within (map id_of kids) number i at, length-map kids id_of) in
    slice_get-map id_of kids number ∙ ap (option_map id_of) (slice_get_read kids (length kids) number kid refl within is)

-- one more crate doesn't depend on the order of visits
pub none_more : (t : Tables) (n : ℕ) (e : CrateEntry) → slice_get t.crates.items n ≡ Some e → ¬ Depends t n e → ((k : ℕ) → k < n → ¬ DependsAt t k)
    → (k : ℕ) → k < n + 1 → ¬ DependsAt t k
none_more t n e at isnt before k lt h = elim (cases_lt k n) [
  | inl low ↦ before k low h
  | inr ge ↦ (
      let same : k ≡ n = omega arith in
      let here = subst (λ (m : ℕ). DependsAt t m) same h in
      isnt (subst (Depends t n) (same_Some here.entry e (sym here.at ∙ at)) here.depends))
]
