-- The numbers of crates: each has at most one, and members, crates that have a package, and roots have one.
use Rattle.std.proofs.Common.{◌≡◌, ◌⊎◌, ℕ, zero, suc, List, [], ◌∷◌, Bool, true, false, Some, inl, inr, refl, sym, ap, ◌∙◌, subst, length, slice_get}
use Rattle.std.proofs.lemmas.Option.{same_Some}
use Rattle.std.proofs.lemmas.Slice.Eq.{bytes_eq-Decides}
use Rattle.std.specs.Bool.{Decides}
use Rattle.std.specs.Str.{bytes_eq}
use Rattle.krates_cm.specs.Document.{Text, PackageModel}
use Rattle.krates_document.proofs.NumberedPlaces.{one_number}
use Rattle.krates_questions.specs.Lookup.{IsLookup, resolved_view}
use Rattle.krates_questions.specs.declared.lookup.Lookup.{Lookup}
use Rattle.krates_rules.specs.Facts.{Id}
use Rattle.krates_rules.specs.Resolved.{Resolved, HasPackage, IsMember}
use Rattle.krates_rules.proofs.Readings.{ReadsOnce, right_of}
use Rattle.krates_units.specs.BuildSetting.{BuildSettingModel}
use Rattle.krates_units.specs.Requests.{RootKind, IsBuildRoot, IsBuildRootAs, alike, unselected, current, other}
use Rattle.krates_build_tables.specs.Requests.{AreRequests, RequestSays}
use Rattle.krates_build_tables.specs.TablesOf.{CrateAt, HasEachOnce}
use Rattle.krates_build_tables.specs.declared.requests.Request.{Request}
use Rattle.krates_build_tables.proofs.NumberedCrates.{member_numbered, numbered_ids, package_numbered}

-- ---- ids are the same or not

text_cases : (x y : Text) → (x ≡ y) ⊎ (x ≡ y → ⊥)
text_cases x y = told (bytes_eq x y) (bytes_eq-Decides x y)
  where
    told : (b : Bool) → Decides b (x ≡ y) → (x ≡ y) ⊎ (x ≡ y → ⊥)
    told true d = inl (d.0 refl)
    told false d = inr (λ e. absurd (let no : false ≡ true = d.1 e in cc))

-- the id of these parts
abbrev id_with : Text → Text → Text → Id
id_with name version source = record { name = name; version = version; source = source }

same_id : (n m v w s t : Text) → n ≡ m → v ≡ w → s ≡ t → id_with n v s ≡ id_with m w t
same_id n m v w s t a b c = rw (a, b, c) refl

id_cases : (i j : Id) → (i ≡ j) ⊎ (i ≡ j → ⊥)
id_cases i j = elim (text_cases i.name j.name) [
  | inr differ ↦ inr (λ e. differ (ap (λ (k : Id). k.name) e))
  | inl name ↦ elim (text_cases i.version j.version) [
    | inr differ ↦ inr (λ e. differ (ap (λ (k : Id). k.version) e))
    | inl version ↦ elim (text_cases i.source j.source) [
      | inr differ ↦ inr (λ e. differ (ap (λ (k : Id). k.source) e))
      | inl source ↦ inl (same_id i.name j.name i.version j.version i.source j.source name version source)
    ]
  ]
]

-- an id has a number in a list, or none
number_cases : (ids : List Id) (i : Id) → ((n : ℕ) × CrateAt ids n i) ⊎ ((n : ℕ) → CrateAt ids n i → ⊥)
number_cases [] i = inr (λ n at. cc)
number_cases (j ∷ ids) i = elim (id_cases j i) [
  | inl same ↦ inl (0, ap (λ (k : Id). Some k) same)
  | inr apart ↦ elim (number_cases ids i) [ inl at ↦ inl (suc at.0, at.1) | inr none ↦ inr (neither j ids i apart none) ]
]
  where
    neither : (j : Id) (ids : List Id) (i : Id) → (j ≡ i → ⊥) → ((n : ℕ) → CrateAt ids n i → ⊥) → (n : ℕ) → CrateAt (j ∷ ids) n i → ⊥
    neither j ids i apart none zero at = apart (same_Some j i at)
    neither j ids i apart none (suc n) at = none n at

has_number : (ids : List Id) (i : Id) → (((n : ℕ) → CrateAt ids n i → ⊥) → ⊥) → (n : ℕ) × CrateAt ids n i
has_number ids i some = elim (number_cases ids i) [ inl at ↦ at | inr none ↦ absurd (some none) ]

-- ---- the numbers of a document

pub ids_once : (d : Lookup) → HasEachOnce (numbered_ids d)
ids_once d j k i here there = one_number (numbered_ids d) j k i d.ids.now.indexed.numbered here there

pub member_at : ReadsOnce → (d : Lookup) → IsLookup d → (i : Id) → IsMember (resolved_view d) i → (n : ℕ) × CrateAt (numbered_ids d) n i
member_at once d h i m = has_number (numbered_ids d) i (member_numbered once d h i m)

pub package_at : ReadsOnce → (d : Lookup) → IsLookup d → (i : Id) (p : PackageModel) → HasPackage (resolved_view d) i p → (n : ℕ) × CrateAt (numbered_ids d) n i
package_at once d h i p has = has_number (numbered_ids d) i (package_numbered once d h i p has)

-- each root is a member
root_member : (r : Resolved) (s : BuildSettingModel) (i : Id) (kind : RootKind) → IsBuildRootAs r s i kind → IsMember r i
root_member r s i alike root = root.1.0
root_member r s i unselected root = root.2
root_member r s i current root = root.1.member
root_member r s i other root = root.2.0

pub root_at : ReadsOnce → (d : Lookup) → IsLookup d → (s : BuildSettingModel) (i : Id) → IsBuildRoot (resolved_view d) s i → (n : ℕ) × CrateAt (numbered_ids d) n i
root_at once d h s i root = member_at once d h i (root_member (resolved_view d) s i root.0 root.1)

-- ---- the request of a number

pub request_at : (r : Resolved) (s : BuildSettingModel) (ids : List Id) (list : List Request) (n : ℕ) (i : Id) (q : Request) → AreRequests r s ids list → CrateAt ids n i → slice_get list n ≡ Some q → RequestSays r s i q
request_at r s ids list n i q are at there =
    let found = right_of (RequestSays r s) ids list n i are at in
    subst (RequestSays r s i) (same_Some found.0 q (sym found.1 ∙ there)) found.2

pub requests_long : (r : Resolved) (s : BuildSettingModel) (ids : List Id) (list : List Request) → AreRequests r s ids list → length list ≡ length ids
requests_long r s [] [] are = refl
requests_long r s [] (q ∷ list) are = absurd are
requests_long r s (i ∷ ids) [] are = absurd are
requests_long r s (i ∷ ids) (q ∷ list) are = ap suc (requests_long r s ids list are.1)
