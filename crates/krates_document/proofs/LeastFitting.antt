-- The least candidate that fits is the first declared dependency that fits.
use Rattle.std.proofs.Common.{◌≡◌, ◌⊎◌, ◌↔◌, ℕ, ◌+◌, ◌<◌, ◌≤◌, List, [], ◌∷◌, ◌++◌, length, map, take, get_or, Bool, true, false, IsTrue, IfSome, Option, Some, None, Contains, option_map, slice_get, cond, nat_lt, Ordering, refl, sym, ap, ◌∙◌, subst, arith, inl, inr}
use Rattle.std.proofs.lemmas.Bool.{cases_lt}
use Rattle.std.proofs.lemmas.Bool.Decides.{nat_tests}
use Rattle.std.proofs.lemmas.List.{length-map, map-append, take_all, take_more}
use Rattle.std.proofs.lemmas.List.Elements.{Contains-append_left, Contains-append_right, Contains-append_cases, Contains-push, Contains-push_cases}
use Rattle.std.proofs.lemmas.Option.{same_Some, slice_get-map, slice_get_within}
use Rattle.std.proofs.lemmas.Map.Text.{is_eq-slice_cmp}
use Rattle.std.specs.Cmp.Lexicographic.{bytes_decides}
use Rattle.std.specs.Option.{is_some}
use Rattle.std.specs.Ordering.{is_eq}
use Rattle.krates_cm.specs.Document.{Text, DependencyModel, DepKindInfoModel, dependency_view}
use Rattle.krates_cm.specs.declared.dependency.Dependency.{Dependency}
use Rattle.krates_document.specs.DeclaredPlaces.{AreCandidates, AreDeclaredPlaces, FitsAs, FitsAt, FitsWhere, IsBelow, IsLeast, IsWantedAmong, among, entry_in, kind_in, lesser, target_key}
use Rattle.krates_document.specs.FoldedNames.{folded, folded_byte, folded_order}
use Rattle.krates_document.specs.NamedPlaces.{StandsUnder, places_in}
use Rattle.krates_document.specs.declared.declared_dependency.Candidates.{Candidates}
use Rattle.krates_document.specs.declared.declared_dependency.Sought.{Sought}
use Rattle.krates_document.specs.declared.declared_dependency.Wanted.{Wanted}
use Rattle.krates_document.specs.declared.named_places.NamedPlace.{NamedPlace}
use Rattle.krates_rules.specs.Admission.{HoldsTwice}
use Rattle.krates_rules.specs.DeclaredDependency.{DependencyEntry, FirstAt, Fits, IsDeclared, IsFirstPlace, declared_name}
use Rattle.krates_rules.specs.DependencyName.{IsByteOf, IsNameOf}
use Rattle.krates_document.proofs.DeclaredOnce.{one_fits, several_fit}

-- ---- the least so far

module _ (x : Wanted) where
  abbrev Among : List ℕ → ℕ → Type 0
  Among all k = IsWantedAmong x all k

  -- one more place, which fits and is less than the least
  pub least_put : (done : List ℕ) (n : ℕ) (least : Option ℕ) → x.from ≤ n → IsBelow n least → FitsAt x n → IsLeast (Among done) least → IsLeast (Among (done ++ n ∷ [])) (Some n)
  least_put done n None le below fits none = (
    record { among = Contains-push done n; from_there = le; fits = fits },
    λ k h. elim (Contains-push_cases done n k h.among) [
      | inl old ↦ absurd (none k (record { among = old; from_there = h.from_there; fits = h.fits }))
      | inr e ↦ omega (arith, e)
    ],
  )
  least_put done n (Some m) le below fits found = (
    record { among = Contains-push done n; from_there = le; fits = fits },
    λ k h. elim (Contains-push_cases done n k h.among) [
      | inl old ↦ (let up = found.1 k (record { among = old; from_there = h.from_there; fits = h.fits }) in omega (arith, up, below))
      | inr e ↦ omega (arith, e)
    ],
  )

  -- one more place, which isn't less or doesn't fit
  pub least_stays : (done : List ℕ) (n : ℕ) (least : Option ℕ) → (x.from ≤ n → IsBelow n least → FitsAt x n → ⊥) → IsLeast (Among done) least → IsLeast (Among (done ++ n ∷ [])) least
  least_stays done n None other none = λ k h. elim (Contains-push_cases done n k h.among) [
    | inl old ↦ none k (record { among = old; from_there = h.from_there; fits = h.fits })
    | inr e ↦ other (subst (λ j. x.from ≤ j) (sym e) h.from_there) tt (subst (FitsAt x) (sym e) h.fits)
  ]
  least_stays done n (Some m) other found = (
    record { among = Contains-append_left done (n ∷ []) m found.0.among; from_there = found.0.from_there; fits = found.0.fits },
    λ k h. elim (Contains-push_cases done n k h.among) [
      | inl old ↦ found.1 k (record { among = old; from_there = h.from_there; fits = h.fits })
      | inr e ↦ (elim (cases_lt n m) [
        | inl lt ↦ absurd (other (subst (λ j. x.from ≤ j) (sym e) h.from_there) lt (subst (FitsAt x) (sym e) h.fits))
        | inr le ↦ omega (arith, le, e)
      ])
    ],
  )

  -- the place of one more item
  more : (xs : List NamedPlace) (i : ℕ) (d : NamedPlace) → i < length xs → places_in (take (i + 1) xs) ≡ places_in (take i xs) ++ (get_or xs i d).place ∷ []
  more xs i d lt =
      ap places_in (take_more xs i d lt) ∙ rw map-append refl

  pub put_at : (xs : List NamedPlace) (i : ℕ) (d : NamedPlace) (least : Option ℕ) (b : Bool) → i < length xs → (IsTrue b ↔ (IsBelow (get_or xs i d).place least × (x.from ≤ (get_or xs i d).place) × FitsAt x (get_or xs i d).place)) → b ≡ true
      → IsLeast (Among (places_in (take i xs))) least → IsLeast (Among (places_in (take (i + 1) xs))) (Some (get_or xs i d).place)
  put_at xs i d least b lt told is h =
      let w = told.0 is in
      subst (λ (ks : List ℕ). IsLeast (Among ks) (Some (get_or xs i d).place)) (sym (more xs i d lt)) (least_put (places_in (take i xs)) (get_or xs i d).place least w.1 w.0 w.2 h)

  pub stays_at : (xs : List NamedPlace) (i : ℕ) (d : NamedPlace) (least : Option ℕ) (b : Bool) → i < length xs → (IsTrue b ↔ (IsBelow (get_or xs i d).place least × (x.from ≤ (get_or xs i d).place) × FitsAt x (get_or xs i d).place)) → b ≡ false
      → IsLeast (Among (places_in (take i xs))) least → IsLeast (Among (places_in (take (i + 1) xs))) least
  stays_at xs i d least b lt told not_so h =
      subst (λ (ks : List ℕ). IsLeast (Among ks) least) (sym (more xs i d lt)) (least_stays (places_in (take i xs)) (get_or xs i d).place least (λ from below fits. absurd (cc (told.1 (below, from, fits), not_so))) h)

  pub all_gone : (xs : List NamedPlace) (i : ℕ) (least : Option ℕ) → length xs ≤ i → IsLeast (Among (places_in (take i xs))) least → IsLeast (Among (places_in xs)) least
  all_gone xs i least le h = subst (λ (ys : List NamedPlace). IsLeast (Among (places_in ys)) least) (take_all i xs le) h

  lesser_of : (m n : ℕ) → ((m ≤ n) × (cond (nat_lt m n) m n ≡ m)) ⊎ ((n ≤ m) × (cond (nat_lt m n) m n ≡ n))
  lesser_of m n = elim (cases_lt m n) [
    | inl lt ↦ inl (omega (arith, lt), grind (arith, nat_tests))
    | inr le ↦ inr (le, grind (arith, nat_tests))
  ]

  left : (xs ys : List ℕ) (k : ℕ) → Among xs k → Among (xs ++ ys) k
  left xs ys k h = record { among = Contains-append_left xs ys k h.among; from_there = h.from_there; fits = h.fits }

  right : (xs ys : List ℕ) (k : ℕ) → Among ys k → Among (xs ++ ys) k
  right xs ys k h = record { among = Contains-append_right xs ys k h.among; from_there = h.from_there; fits = h.fits }

  either : (xs ys : List ℕ) (k : ℕ) → Among (xs ++ ys) k → Among xs k ⊎ Among ys k
  either xs ys k h = elim (Contains-append_cases xs ys k h.among) [
    | inl a ↦ inl (record { among = a; from_there = h.from_there; fits = h.fits })
    | inr a ↦ inr (record { among = a; from_there = h.from_there; fits = h.fits })
  ]

  -- the lesser of the least of two lists is the least of both
  pub least_of_both : (xs ys : List ℕ) (a b : Option ℕ) → IsLeast (Among xs) a → IsLeast (Among ys) b → IsLeast (Among (xs ++ ys)) (lesser a b)
  least_of_both xs ys None None none neither = λ k h. elim (either xs ys k h) [ inl l ↦ none k l | inr r ↦ neither k r ]
  least_of_both xs ys None (Some n) none found = (right xs ys n found.0, λ k h. elim (either xs ys k h) [ inl l ↦ absurd (none k l) | inr r ↦ found.1 k r ])
  least_of_both xs ys (Some m) None found none = (left xs ys m found.0, λ k h. elim (either xs ys k h) [ inl l ↦ found.1 k l | inr r ↦ absurd (none k r) ])
  least_of_both xs ys (Some m) (Some n) one other = elim (lesser_of m n) [
    | inl w ↦ subst (λ j. IsLeast (Among (xs ++ ys)) (Some j)) (sym w.1) (left xs ys m one.0, λ k h. elim (either xs ys k h) [ inl l ↦ one.1 k l | inr r ↦ (let up = other.1 k r in omega (arith, up, w.0)) ])
    | inr w ↦ subst (λ j. IsLeast (Among (xs ++ ys)) (Some j)) (sym w.1) (right xs ys n other.0, λ k h. elim (either xs ys k h) [ inl l ↦ (let up = one.1 k l in omega (arith, up, w.0)) | inr r ↦ other.1 k r ])
  ]

-- ---- whatever fits is a candidate

same_byte : (a b : ℕ) → IsByteOf a b → folded_byte a ≡ folded_byte b
same_byte a b (inl e) = ap folded_byte e
same_byte a b (inr e) = ap folded_byte e.0 ∙ sym (ap folded_byte e.1)

-- a resolved name equals the declared one once '-' counts as '_'
pub same_folded : (xs ys : Text) → IsNameOf xs ys → folded xs ≡ folded ys
same_folded [] [] h = refl
same_folded [] (y ∷ ys) h = absurd h
same_folded (x ∷ xs) [] h = absurd h
same_folded (x ∷ xs) (y ∷ ys) h = ap (λ b. b ∷ folded xs) (same_byte x y h.0) ∙ ap (λ t. folded_byte y ∷ t) (same_folded xs ys h.1)

pub under_other : (all : List NamedPlace) (name other target there : Text) (k : ℕ) → folded other ≡ folded name → target ≡ there → StandsUnder all name target k → StandsUnder all other there k
under_other all name other target there k e f s =
    record { there = s.there; among = s.among; key = s.key ∙ ap (λ (n : Text). (n, target)) (sym e) ∙ ap (λ (t : Text). (folded other, t)) f; is = s.is }

-- names of which neither comes before the other are the same once '-' counts as '_'
tied_folded : (a b : Text) (o : Ordering) → o ≡ folded_order a b → is_eq o ≡ true → folded a ≡ folded b
tied_folded a b o is tied = (bytes_decides (folded a) (folded b)).0 (sym (is_eq-slice_cmp (folded a) (folded b)) ∙ ap is_eq (sym is) ∙ tied)

-- where the two names are the same, those under the first are all
pub candidates_of_one_name : (places : List NamedPlace) (x : Sought) (all : Candidates) (o : Ordering) → o ≡ folded_order (entry_in x).dep.name (entry_in x).id.name → is_eq o ≡ true
    → ((k : ℕ) → StandsUnder places (entry_in x).dep.name (target_key (kind_in x).target) k → Contains (places_in all.of_dep.now) k) → AreCandidates places x all
candidates_of_one_name places x all o is tied of_dep =
    let names = tied_folded (entry_in x).dep.name (entry_in x).id.name o is tied in
    let target = target_key (kind_in x).target in
    let among_all = λ (k : ℕ) (h : StandsUnder places (entry_in x).dep.name target k). Contains-append_left (places_in all.of_dep.now) (places_in all.of_package.now) k (of_dep k h) in
    record {
      of_dep = among_all;
      of_package = λ k h. among_all k (under_other places (entry_in x).id.name (entry_in x).dep.name target target k names refl h);
    }

-- else those under both
pub candidates_of_both : (places : List NamedPlace) (x : Sought) (all : Candidates)
    → ((k : ℕ) → StandsUnder places (entry_in x).dep.name (target_key (kind_in x).target) k → Contains (places_in all.of_dep.now) k)
    → ((k : ℕ) → StandsUnder places (entry_in x).id.name (target_key (kind_in x).target) k → Contains (places_in all.of_package.now) k) → AreCandidates places x all
candidates_of_both places x all of_dep of_package = record {
  of_dep = λ k h. Contains-append_left (places_in all.of_dep.now) (places_in all.of_package.now) k (of_dep k h);
  of_package = λ k h. Contains-append_right (places_in all.of_dep.now) (places_in all.of_package.now) k (of_package k h);
}

fits_where : (b : Bool) (n : DependencyEntry) (k : DepKindInfoModel) (d : DependencyModel) → FitsWhere b n k d → Fits n k d
fits_where false n k d h = h
fits_where true n k d h = h.fits

candidate : (x : Wanted) (places : List NamedPlace) (all : Candidates) (k : ℕ) (d : DependencyModel) → AreDeclaredPlaces (map dependency_view x.declared.now) places → AreCandidates places x.sought.now all
    → slice_get (map dependency_view x.declared.now) k ≡ Some d → Fits (entry_in x.sought.now) (kind_in x.sought.now) d → Contains (among all) k
candidate x places all k d h c at fits =
    let n = entry_in x.sought.now in
    let t = (kind_in x.sought.now).target in
    let stands = h.each k d at in
    let target = ap target_key fits.target in
    elim fits.name [
      | inl own ↦ c.of_dep k (under_other places (declared_name d) n.dep.name (target_key d.target) (target_key t) k (same_folded n.dep.name (declared_name d) own) target stands)
      | inr its ↦ c.of_package k (under_other places (declared_name d) n.id.name (target_key d.target) (target_key t) k (same_folded n.id.name (declared_name d) its) target stands)
    ]

fits_among : (x : Wanted) (places : List NamedPlace) (all : Candidates) (k : ℕ) (d : DependencyModel) → AreDeclaredPlaces (map dependency_view x.declared.now) places → AreCandidates places x.sought.now all
    → x.from ≤ k → slice_get (map dependency_view x.declared.now) k ≡ Some d → FitsAs x d → IsWantedAmong x (among all) k
fits_among x places all k d h c le at fits = record {
  among = candidate x places all k d h c at (fits_where x.by_source (entry_in x.sought.now) (kind_in x.sought.now) d fits);
  from_there = le;
  fits = record { dependency = d; at = at; fits = fits };
}

-- ---- the least is the first

pub first_least : (x : Wanted) (places : List NamedPlace) (all : Candidates) (r : Option ℕ) → AreDeclaredPlaces (map dependency_view x.declared.now) places → AreCandidates places x.sought.now all
    → x.from ≡ 0 → IsLeast (IsWantedAmong x (among all)) r → IsFirstPlace (FitsAs x) (map dependency_view x.declared.now) r
first_least x places all None h c low none = λ k d at fits. none k (fits_among x places all k d h c (omega (arith, low)) at fits)
first_least x places all (Some p) h c low found = (
  found.0.fits.dependency,
  record {
    here = found.0.fits.at;
    holds = found.0.fits.fits;
    before = λ k d lt at fits.
        let up = found.1 k (fits_among x places all k d h c (omega (arith, low)) at fits) in
        absurd (omega (arith, up, lt));
  },
)

-- no other fits after the first
pub one_found : (x : Wanted) (places : List NamedPlace) (all : Candidates) (p : ℕ) (d : DependencyModel) (r : Option ℕ) → AreDeclaredPlaces (map dependency_view x.declared.now) places → AreCandidates places x.sought.now all
    → x.from ≡ p + 1 → x.by_source ≡ false → FirstAt (Fits (entry_in x.sought.now) (kind_in x.sought.now)) (map dependency_view x.declared.now) p d → IsLeast (IsWantedAmong x (among all)) r → is_some r ≡ false
    → IsDeclared (map dependency_view x.declared.now) (entry_in x.sought.now) (kind_in x.sought.now) p d
one_found x places all p d (Some j) h c from plain first found is = absurd cc
one_found x places all p d None h c from plain first none is =
    one_fits (map dependency_view x.declared.now) (entry_in x.sought.now) (kind_in x.sought.now) p d first (λ j e lt at fits.
    none j (fits_among x places all j e h c (omega (arith, from, lt)) at (subst (λ b. FitsWhere b (entry_in x.sought.now) (kind_in x.sought.now) e) (sym plain) fits)))

-- another fits
pub several_found : (x : Wanted) (all : List ℕ) (p : ℕ) (d : DependencyModel) (r : Option ℕ) → x.from ≡ p + 1 → FirstAt (Fits (entry_in x.sought.now) (kind_in x.sought.now)) (map dependency_view x.declared.now) p d
    → IsLeast (IsWantedAmong x all) r → is_some r ≡ true → HoldsTwice (Fits (entry_in x.sought.now) (kind_in x.sought.now)) (map dependency_view x.declared.now)
several_found x all p d None from first none is = absurd cc
several_found x all p d (Some j) from first found is =
    let w = found.0 in
    several_fit (map dependency_view x.declared.now) (entry_in x.sought.now) (kind_in x.sought.now) p j d w.fits.dependency first (omega (arith, from, w.from_there)) w.fits.at
    (fits_where x.by_source (entry_in x.sought.now) (kind_in x.sought.now) w.fits.dependency w.fits.fits)

-- ---- what is at a place

pub least_within : (x : Wanted) (all : List ℕ) (r : Option ℕ) → IsLeast (IsWantedAmong x all) r → IfSome r (λ place. place < length x.declared.now)
least_within x all None none = tt
least_within x all (Some p) found =
    let lt = slice_get_within (map dependency_view x.declared.now) p found.0.fits.dependency found.0.fits.at in
    omega (arith, lt, length-map x.declared.now dependency_view)

pub fits_told : (x : Wanted) (place : ℕ) (d : Dependency) (r : Bool) → slice_get x.declared.now place ≡ Some d → (IsTrue r ↔ FitsAs x (dependency_view d)) → IsTrue r ↔ FitsAt x place
fits_told x place d r at told =
    let seen : slice_get (map dependency_view x.declared.now) place ≡ Some (dependency_view d) = slice_get-map dependency_view x.declared.now place ∙ ap (option_map dependency_view) at in (
      λ t. record { dependency = dependency_view d; at = seen; fits = told.0 t },
      λ h. told.1 (subst (FitsAs x) (same_Some h.dependency (dependency_view d) (sym h.at ∙ seen)) h.fits),
    )

pub none_there : (x : Wanted) (place : ℕ) → length x.declared.now ≤ place → FitsAt x place → ⊥
none_there x place past h =
    let lt = slice_get_within (map dependency_view x.declared.now) place h.dependency h.at in
    omega (arith, lt, past, length-map x.declared.now dependency_view)
