-- The library of a package, and what is named as it.
use Rattle.std.proofs.Common.{◌≡◌, ◌↔◌, ℕ, ◌<◌, List, length, map, Bool, true, false, not, IsTrue, Option, Some, None, MatchOption, HoldsAt, Contains, option_map, Bor, refl, sym, ap, ◌∙◌, inl, inr, subst}
use Rattle.std.proofs.lemmas.Bool.{cases_order}
use Rattle.std.proofs.lemmas.List.{get_or_default}
use Rattle.std.proofs.lemmas.List.Folds.{Any-from_list_any, list_any_at}
use Rattle.std.proofs.lemmas.Option.{slice_get-map, slice_get-get_or, same_Some}
use Rattle.std.specs.List.{AllWithin, list_any, slice_get}
use Rattle.krates_cm.specs.Document.{Text, TargetModel, PackageModel, target_view}
use Rattle.krates_cm.specs.declared.target.Target.{Target}
use Rattle.krates_cm.specs.declared.target.TargetKind.TheVariants.{Lib}
use Rattle.krates_rules.specs.DeclaredDependency.{FirstAt}
use Rattle.krates_rules.specs.DependencyName.{IsNameOf}
use Rattle.krates_rules.specs.Referent.{IsLibraryRename}
use Rattle.krates_questions.specs.NameIndex.{IsLibraryOf}
use Rattle.krates_rules.proofs.FirstPlaces.{first_place}

-- a test that only one element passes tells whether the list contains it
pub contains_told : {A : Type 0} (test : A → Bool) (v : A) (xs : List A) (b : Bool) → b ≡ list_any test xs → ((y : A) → test y ≡ true → y ≡ v) → test v ≡ true → IsTrue b ↔ Contains xs v
contains_told test v xs b is alone itself = (
  λ t. (
      let w = Any-from_list_any test xs (sym is ∙ t) in
      let same : w.1 ≡ v = alone w.1 w.4 in
      (w.0, w.2, get_or_default xs w.0 v w.1 w.2 ∙ w.3 ∙ same)),
  λ (k, lt, here). is ∙ list_any_at test xs k v lt (ap test here ∙ itself),
)

abbrev pub IsLibrary : TargetModel → Type 0
IsLibrary t = Contains t.kind Lib

-- what `find` returns, in terms of the views
pub library_found : (p : PackageModel) (xs : List Target) (r : Option (Bor Target)) → p.targets ≡ map target_view xs
    → MatchOption r (AllWithin (λ t. IsLibrary (target_view t) → ⊥) xs 0 (length xs)) (λ x. IsLibrary (target_view x.now) × (i : ℕ) × (i < length xs) × HoldsAt (λ y. y ≡ x.now) xs i × AllWithin (λ t. IsLibrary (target_view t) → ⊥) xs 0 i)
    → IsLibraryOf p (option_map (λ target. target_view target.now) r)
library_found p xs None same none = λ place t at lib. first_place target_view IsLibrary xs None none place t (sym (ap (λ ts. slice_get ts place) same) ∙ at) lib
library_found p xs (Some x) same (holds, i, lt, here, none) =
    let first = first_place target_view IsLibrary xs (Some i) (lt, λ d. subst (λ y. IsLibrary (target_view y)) (sym (here d)) holds, none) in
    let seen : slice_get (map target_view xs) i ≡ Some (target_view x.now) = slice_get-map target_view xs i ∙ ap (option_map target_view) (slice_get-get_or xs i x.now lt ∙ ap (λ y. Some y) (here x.now)) in
    let is : first.0 ≡ target_view x.now = same_Some first.0 (target_view x.now) (sym first.1.here ∙ seen) in
    (i, subst (λ ts. FirstAt IsLibrary ts i (target_view x.now)) (sym same) (subst (λ t. FirstAt IsLibrary (map target_view xs) i t) is first.1))

same_first : {A : Type 0} (P : A → Type 0) (xs : List A) (i j : ℕ) (x y : A) → FirstAt P xs i x → FirstAt P xs j y → x ≡ y
same_first P xs i j x y a b = elim (cases_order i j) [
  | inl e ↦ same_Some x y (sym a.here ∙ ap (λ k. slice_get xs k) e ∙ b.here)
  | inr r ↦ elim r [ inl l ↦ absurd (b.before i x l a.here a.holds) | inr l ↦ absurd (a.before j y l b.here b.holds) ]
]

-- the library has the name
pub renamed_told : (p : PackageModel) (name : Text) (place : ℕ) (t : TargetModel) (b : Bool) → FirstAt IsLibrary p.targets place t → t.name ≡ name → (IsTrue b ↔ IsNameOf name p.name) → IsTrue (not b) ↔ IsLibraryRename p name
renamed_told p name place t true first is told = (λ n. absurd cc, λ l. absurd (l.other (told.0 refl)))
renamed_told p name place t false first is told = (
  λ n. record { place = place; target = t; first = first; is = is; other = λ same. let yes : false ≡ true = told.1 same in absurd cc },
  λ l. refl,
)

-- the library has another name
pub not_renamed : (p : PackageModel) (name : Text) (place : ℕ) (t : TargetModel) → FirstAt IsLibrary p.targets place t → (t.name ≡ name → ⊥) → IsLibraryRename p name → ⊥
not_renamed p name place t first other l = other (ap (λ (u : TargetModel). u.name) (same_first IsLibrary p.targets place l.place t l.target first l.first) ∙ l.is)

-- there is no library
pub no_library : (p : PackageModel) (name : Text) → IsLibraryOf p None → IsLibraryRename p name → ⊥
no_library p name none l = none l.place l.target l.first.here l.first.holds
