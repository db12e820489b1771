-- At most one dependency is the declared one, and where it is found.
use Rattle.std.proofs.Common.{◌≡◌, ℕ, ◌<◌, List, slice_get, Option, Some, None, MatchOption, sym, ap, ◌∙◌, arith, inl, inr}
use Rattle.std.proofs.lemmas.Bool.{cases_order}
use Rattle.std.proofs.lemmas.Option.{same_Some}
use Rattle.krates_cm.specs.Document.{DependencyModel, DepKindInfoModel}
use Rattle.krates_document.specs.DeclaredPlaces.{FitsBySource}
use Rattle.krates_rules.specs.Admission.{HoldsTwice}
use Rattle.krates_rules.specs.DeclaredDependency.{DependencyEntry, FirstAt, Fits, IsMeant, IsFirstPlace, IsDeclared, IsUndeclared}

-- there is only one first element, at one place
pub one_first : {A : Type 0} (P : A → Type 0) (xs : List A) (j k : ℕ) (x y : A) → FirstAt P xs j x → FirstAt P xs k y → (j ≡ k) × (x ≡ y)
one_first P xs j k x y a b = elim (cases_order j k) [
  | inl e ↦ (e, same_Some x y (sym a.here ∙ ap (λ n. slice_get xs n) e ∙ b.here))
  | inr r ↦ elim r [ inl lt ↦ absurd (b.before j x lt a.here a.holds) | inr lt ↦ absurd (a.before k y lt b.here b.holds) ]
]

-- only one dependency is the declared one, at one place
pub declared_once : (ds : List DependencyModel) (n : DependencyEntry) (k : DepKindInfoModel) (p q : ℕ) (d e : DependencyModel) → IsDeclared ds n k p d → IsDeclared ds n k q e → (p ≡ q) × (d ≡ e)
declared_once ds n k p q d e a b = one_first (IsMeant ds n k) ds p q d e a b

-- the declared dependency is at its place
pub declared_stands : (ds : List DependencyModel) (n : DependencyEntry) (k : DepKindInfoModel) (place : ℕ) (d : DependencyModel) → IsDeclared ds n k place d → slice_get ds place ≡ Some d
declared_stands ds n k place d a = a.here

-- ---- how it is found

-- where none fits, none is the declared one
pub none_fits : (ds : List DependencyModel) (n : DependencyEntry) (k : DepKindInfoModel) → ((place : ℕ) (d : DependencyModel) → slice_get ds place ≡ Some d → Fits n k d → ⊥) → IsUndeclared ds n k
none_fits ds n k none place d a = none place d a.here a.holds.fits

-- where none fits after the first, the first is the declared one
pub one_fits : (ds : List DependencyModel) (n : DependencyEntry) (k : DepKindInfoModel) (place : ℕ) (d : DependencyModel) → FirstAt (Fits n k) ds place d
    → ((j : ℕ) (e : DependencyModel) → place < j → slice_get ds j ≡ Some e → Fits n k e → ⊥) → IsDeclared ds n k place d
one_fits ds n k place d first none =
    let alone : HoldsTwice (Fits n k) ds → ⊥ = λ s. elim (cases_order s.first place) [
      | inl e ↦ none s.second s.other (omega (arith, e, s.apart)) s.at_second s.other_holds
      | inr r ↦ elim r [ inl lt ↦ first.before s.first s.one lt s.at_first s.one_holds | inr lt ↦ none s.second s.other (omega (arith, s.apart, lt)) s.at_second s.other_holds ]
    ] in
    record {
      here = first.here;
      holds = record { fits = first.holds; source = λ s. absurd (alone s) };
      before = λ j e lt at m. first.before j e lt at m.fits;
    }

-- where another fits after the first, several fit
pub several_fit : (ds : List DependencyModel) (n : DependencyEntry) (k : DepKindInfoModel) (place j : ℕ) (d e : DependencyModel) → FirstAt (Fits n k) ds place d → place < j → slice_get ds j ≡ Some e → Fits n k e → HoldsTwice (Fits n k) ds
several_fit ds n k place j d e first apart at fits = record {
  first = place;
  second = j;
  apart = apart;
  one = d;
  other = e;
  at_first = first.here;
  at_second = at;
  one_holds = first.holds;
  other_holds = fits;
}

-- where several fit, the first of them with the same source is the declared one
pub first_of_source : (ds : List DependencyModel) (n : DependencyEntry) (k : DepKindInfoModel) (r : Option ℕ) → HoldsTwice (Fits n k) ds → IsFirstPlace (FitsBySource n k) ds r
    → MatchOption r (IsUndeclared ds n k) (λ place. (d : DependencyModel) × IsDeclared ds n k place d)
first_of_source ds n k (Some place) several found = (
  found.0,
  record {
    here = found.1.here;
    holds = record { fits = found.1.holds.fits; source = λ s. found.1.holds.source };
    before = λ j e lt at m. found.1.before j e lt at (record { fits = m.fits; source = m.source several });
  },
)
first_of_source ds n k None several none = λ place d a. none place d a.here (record { fits = a.holds.fits; source = a.holds.source several })
