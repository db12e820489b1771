-- Dividing packages by their ids.
use Rattle.std.proofs.Common.{◌≡◌, ◌↔◌, ◌+◌, ◌<◌, List, [], ◌∷◌, length, get_or, map, filter, Contains, Bool, true, false, not, refl, sym, ap, ◌∙◌, subst, inl, inr, arith, Ordering, Less, Equal, Greater, Result, Ok, Err, IfOk}
use Rattle.std.proofs.lemmas.Bool.{both_ways, false_from_ne_true, not-true, not_from_false}
use Rattle.std.proofs.lemmas.List.{get_or-map, length-map}
use Rattle.std.proofs.lemmas.List.Kept.{IsStrictlySortedBy-filter}
use Rattle.std.proofs.lemmas.List.Sorted.{Contains-permutation, IsPermutation-map, IsPermutation-sym}
use Rattle.std.proofs.lemmas.Map.Keys.{IsDistinct-from_apart, IsDistinct-IsPermutation, apart_from_distinct, sorted_from_all_adjacent}
use Rattle.std.proofs.lemmas.Option.{slice_get-get_or}
use Rattle.std.specs.List.{AllZip, IsDistinct}
use Rattle.std.specs.List.Sorted.{IsStrictlySortedBy, IsSorted, IsPermutation}
use Rattle.std.specs.Ordering.{is_eq, is_lt, ordering_reverse}
use Rattle.std.specs.declared.alloc.AllocError.{AllocError}
use Rattle.krates_cm.specs.Document.{Text, id_view}
use Rattle.krates_cm.specs.declared.package.Package.{Package}
use Rattle.krates_ids.specs.Identity.{Identity, empty_identity, Reads, id_cmp}
use Rattle.krates_rules.specs.DistinctIds.{AreDistinct}
use Rattle.krates_rules.specs.Facts.{Id}
use Rattle.krates_rules.specs.Resolved.{id_of}
use Rattle.krates_drawing.specs.Listed.{AreThosePackages, HasIdAmong}
use Rattle.krates_drawing.specs.Division.{has_same, is_selected, IsAmong, IsDivision, krate_cmp, krate_ids, paired, krate_packages}
use Rattle.krates_drawing.specs.declared.division.Division.{Division}
use Rattle.krates_drawing.specs.declared.division.Krate.{Krate}
use Rattle.krates_rules.proofs.Members.{Member, member_of, contains_of, mapped_of, member_map, kept_of, member_filter}
use Rattle.krates_rules.proofs.MappedLists.{map_filter, zip_maps}
use Rattle.krates_rules.proofs.OrderedIds.{Compares, id_of_equal}
use Rattle.krates_drawing.proofs.SearchedKrates.{is_among}
use Rattle.krates_drawing.proofs.EqualRanges.{unequal}

-- a text reads as at most one id
abbrev pub ReadsOnce : Type 0
ReadsOnce = (t : Text) (a b : Identity) → Reads t a → Reads t b → a ≡ b

abbrev text_of : Package → Text
text_of p = id_view p.id

-- ---- packages and their ids, place by place

pair_ids : (ps : List Package) (ids : List Identity) → AllZip Reads (map text_of ps) ids → krate_ids (paired ps ids) ≡ ids
pair_ids [] [] h = refl
pair_ids [] (i ∷ ids) h = absurd h
pair_ids (p ∷ ps) [] h = absurd h
pair_ids (p ∷ ps) (i ∷ ids) h = ap (λ xs. i ∷ xs) (pair_ids ps ids h.1)

pair_packages : (ps : List Package) (ids : List Identity) → AllZip Reads (map text_of ps) ids → krate_packages (paired ps ids) ≡ ps
pair_packages [] [] h = refl
pair_packages [] (i ∷ ids) h = absurd h
pair_packages (p ∷ ps) [] h = absurd h
pair_packages (p ∷ ps) (i ∷ ids) h = ap (λ xs. p ∷ xs) (pair_packages ps ids h.1)

pair_reads : (ps : List Package) (ids : List Identity) → AllZip Reads (map text_of ps) ids → (k : Krate) → Member (paired ps ids) k → Reads (id_view k.pkg.id) k.id
pair_reads [] [] h k m = absurd m
pair_reads [] (i ∷ ids) h k m = absurd h
pair_reads (p ∷ ps) [] h k m = absurd h
pair_reads (p ∷ ps) (i ∷ ids) h k (inl e) = subst (λ (x : Krate). Reads (id_view x.pkg.id) x.id) e h.0
pair_reads (p ∷ ps) (i ∷ ids) h k (inr m) = pair_reads ps ids h.1 k m

-- ---- the order

abbrev same : Identity → Identity → Bool
same a b = is_eq (id_cmp a b)

is_eq_true : (r : Ordering) → is_eq r ≡ true → r ≡ Equal
is_eq_true Less h = absurd cc
is_eq_true Equal h = refl
is_eq_true Greater h = absurd cc

is_eq_reverse : (r : Ordering) → is_eq (ordering_reverse r) ≡ is_eq r
is_eq_reverse Less = refl
is_eq_reverse Equal = refl
is_eq_reverse Greater = refl

same_flips : Compares → (a b : Identity) → same a b ≡ same b a
same_flips o a b = ap is_eq (o.total.antisymm a b) ∙ is_eq_reverse (id_cmp b a)

ids_distinct : Compares → (ids : List Identity) → AreDistinct ids → IsDistinct same ids
ids_distinct o ids distinct = IsDistinct-from_apart same ids (λ i j d lt within. unequal _ (λ e. distinct (id_of (get_or ids j d)) (record {
  first = i;
  second = j;
  apart = lt;
  one = get_or ids i d;
  other = get_or ids j d;
  at_first = slice_get-get_or ids i d (omega arith);
  at_second = slice_get-get_or ids j d within;
  one_holds = id_of_equal o (get_or ids i d) (get_or ids j d) e;
  other_holds = refl;
})))

less_of : (r : Ordering) → is_lt (ordering_reverse r) ≡ false → is_eq r ≡ false → r ≡ Less
less_of Less a b = refl
less_of Equal a b = absurd cc
less_of Greater a b = absurd cc

-- sorted without doubles is strictly sorted
strictly : Compares → (krates : List Krate) → IsSorted krate_cmp krates → IsDistinct same (krate_ids krates) → IsStrictlySortedBy id_cmp (krate_ids krates)
strictly o [] s distinct = sorted_from_all_adjacent o.total [] empty_identity (λ k lt. absurd (omega arith))
strictly o (first ∷ more) s distinct =
    let krates : List Krate = first ∷ more in
    sorted_from_all_adjacent o.total (krate_ids krates) first.id (λ k lt.
    let within : k + 1 < length krates = simp length-map at lt in
    let here = get_or-map (λ (x : Krate). x.id) krates k first first.id (omega arith) in
    let next = get_or-map (λ (x : Krate). x.id) krates (k + 1) first first.id within in
    let falls : is_lt (id_cmp (get_or krates (k + 1) first).id (get_or krates k first).id) ≡ false = s k first (omega arith) within in
    let apart : same (get_or (krate_ids krates) k first.id) (get_or (krate_ids krates) (k + 1) first.id) ≡ false = apart_from_distinct same (krate_ids krates) k (k + 1) first.id distinct (omega arith) lt in
    less_of _ (ap is_lt (sym (o.total.antisymm (get_or (krate_ids krates) (k + 1) first.id) (get_or (krate_ids krates) k first.id))) ∙ rw (here, next) falls) apart)

-- ---- the packages with some of the ids

-- a package of the list, with its id
record Paired (krates : List Krate) (pkg : Package) : Type 0 where
  krate : Krate
  member : Member krates krate
  is : krate.pkg ≡ pkg

-- the packages with their ids, in another order
record AreFor (ps : List Package) (krates : List Krate) : Type 0 where
  reads : (k : Krate) → Member krates k → Reads (id_view k.pkg.id) k.id
  listed : (k : Krate) → Member krates k → Contains ps k.pkg
  all : (pkg : Package) → Contains ps pkg → Paired krates pkg

are_for : (ps : List Package) (ids : List Identity) (krates : List Krate) → AllZip Reads (map text_of ps) ids → IsPermutation (paired ps ids) krates → AreFor ps krates
are_for ps ids krates h perm =
    let pairs : List Krate = paired ps ids in
    let same_packages = pair_packages ps ids h in
    let back : (k : Krate) → Member krates k → Member pairs k = λ k m. member_of pairs k (Contains-permutation krates pairs k (IsPermutation-sym pairs krates perm) (contains_of krates k m)) in
    record {
      reads = λ k m. pair_reads ps ids h k (back k m);
      listed = λ k m. subst (λ xs. Contains xs k.pkg) same_packages (contains_of (krate_packages pairs) k.pkg (member_map (λ (x : Krate). x.pkg) pairs k (back k m)));
      all = λ pkg c.
          let w = mapped_of (λ (x : Krate). x.pkg) pairs pkg (member_of (krate_packages pairs) pkg (subst (λ xs. Contains xs pkg) (sym same_packages) c)) in
          record { krate = w.from; member = member_of krates w.from (Contains-permutation pairs krates w.from perm (contains_of pairs w.from w.member)); is = w.is };
    }

-- which packages are listed
listed_of : (ps : List Package) (krates : List Krate) (q : Identity → Bool) (P : Id → Type 0) → AreFor ps krates → ((i : Identity) → (q i ≡ true) ↔ P (id_of i))
    → (pkg : Package) → Contains (krate_packages (filter (λ k. q k.id) krates)) pkg → Contains ps pkg × HasIdAmong P pkg
listed_of ps krates q P are tells pkg c =
    let t : Krate → Bool = λ k. q k.id in
    let w = mapped_of (λ (x : Krate). x.pkg) (filter t krates) pkg (member_of (krate_packages (filter t krates)) pkg c) in
    let m = kept_of t krates w.from w.member in (
      subst (λ p. Contains ps p) w.is (are.listed w.from m.0),
      subst (λ p. HasIdAmong P p) w.is (record {
        id = id_of w.from.id;
        reads = record { read = w.from.id; reads = are.reads w.from m.0; same = refl };
        holds = (tells w.from.id).0 m.1;
      }),
    )

of_listed : ReadsOnce → (ps : List Package) (krates : List Krate) (q : Identity → Bool) (P : Id → Type 0) → AreFor ps krates → ((i : Identity) → (q i ≡ true) ↔ P (id_of i))
    → (pkg : Package) → Contains ps pkg → HasIdAmong P pkg → Contains (krate_packages (filter (λ k. q k.id) krates)) pkg
of_listed once ps krates q P are tells pkg c h =
    let t : Krate → Bool = λ k. q k.id in
    let w = are.all pkg c in
    let reads : Reads (id_view pkg.id) w.krate.id = subst (λ (p : Package). Reads (id_view p.id) w.krate.id) w.is (are.reads w.krate w.member) in
    let same_id : id_of w.krate.id ≡ h.id = ap id_of (once (id_view pkg.id) w.krate.id h.reads.read reads h.reads.reads) ∙ h.reads.same in
    let passes : t w.krate ≡ true = (tells w.krate.id).1 (subst P (sym same_id) h.holds) in
    let m = member_map (λ (x : Krate). x.pkg) (filter t krates) w.krate (member_filter t krates w.krate passes w.member) in
    subst (λ p. Contains (krate_packages (filter t krates)) p) w.is (contains_of (krate_packages (filter t krates)) w.krate.pkg m)

those : ReadsOnce → (ps : List Package) (krates : List Krate) (q : Identity → Bool) (P : Id → Type 0) → AreFor ps krates → IsStrictlySortedBy id_cmp (krate_ids krates)
    → ((i : Identity) → (q i ≡ true) ↔ P (id_of i))
    → AreThosePackages ps P (krate_ids (filter (λ k. q k.id) krates)) (krate_packages (filter (λ k. q k.id) krates))
those once ps krates q P are sorted tells =
    let t : Krate → Bool = λ k. q k.id in
    record {
      read = zip_maps (λ (p : Package) (i : Identity). Reads (id_view p.id) i) (λ (k : Krate). k.pkg) (λ (k : Krate). k.id) (filter t krates) (λ k m. are.reads k (kept_of t krates k m).0);
      ascending = subst (λ xs. IsStrictlySortedBy id_cmp xs) (sym (map_filter (λ (k : Krate). k.id) q krates)) (IsStrictlySortedBy-filter id_cmp q (krate_ids krates) sorted);
      exactly = λ pkg. (listed_of ps krates q P are tells pkg, λ both. of_listed once ps krates q P are tells pkg both.0 both.1);
    }

-- ---- the division

tells_not : Compares → (selected : List Identity) (i : Identity) → (not (has_same selected i) ≡ true) ↔ (IsAmong selected (id_of i) → ⊥)
tells_not o selected i = (
  λ h among. both_ways (has_same selected i) (not-true (has_same selected i) h) ((is_among o selected i).1 among),
  λ none. not_from_false (has_same selected i) (false_from_ne_true (has_same selected i) (λ h. none ((is_among o selected i).0 h))),
)

pub divides : Compares → ReadsOnce → (ps : List Package) (ids selected : List Identity) (krates : List Krate) (d : Division)
    → AllZip Reads (map (λ p. id_view p.id) ps) ids → AreDistinct ids → IsPermutation (paired ps ids) krates → IsSorted krate_cmp krates
    → d.kept.items ≡ filter (is_selected selected) krates → d.others.items ≡ filter (λ k. not (is_selected selected k)) krates → IsDivision ps selected d
divides o once ps ids selected krates d h distinct perm sorted kept others =
    let are = are_for ps ids krates h perm in
    let moved : IsPermutation ids (krate_ids krates) = subst (λ xs. IsPermutation xs (krate_ids krates)) (pair_ids ps ids h) (IsPermutation-map (λ (k : Krate). k.id) (paired ps ids) krates perm) in
    let ascending = strictly o krates sorted (IsDistinct-IsPermutation same (same_flips o) ids (krate_ids krates) moved (ids_distinct o ids distinct)) in
    record {
      kept = rw kept (those once ps krates (has_same selected) (IsAmong selected) are ascending (is_among o selected));
      others = rw others (those once ps krates (λ i. not (has_same selected i)) (λ i. IsAmong selected i → ⊥) are ascending (tells_not o selected));
    }

-- the division, if it succeeds
pub if_divides : Compares → ReadsOnce → (ps : List Package) (ids selected : List Identity) (krates : List Krate) (r : Result Division AllocError)
    → AllZip Reads (map (λ p. id_view p.id) ps) ids → AreDistinct ids → IsPermutation (paired ps ids) krates → IsSorted krate_cmp krates
    → IfOk r (λ d. d.kept.items ≡ filter (is_selected selected) krates) → IfOk r (λ d. d.others.items ≡ filter (λ k. not (is_selected selected k)) krates) → IfOk r (IsDivision ps selected)
if_divides o once ps ids selected krates (Ok d) h distinct perm sorted kept others = divides o once ps ids selected krates d h distinct perm sorted kept others
if_divides o once ps ids selected krates (Err e) h distinct perm sorted kept others = tt
