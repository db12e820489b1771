-- The last places of facts among keys, filled place by place, and the numbers that they give on the way.
use Rattle.std.proofs.Common.{◌≡◌, ◌↔◌, ⊎_elim, ℕ, ◌+◌, ◌<◌, ◌≤◌, List, [], ◌∷◌, ◌++◌, All, length, get_or, set, map, Bool, true, false, cond, Option, Some, None, IfSome, MatchOption, option_map, refl, sym, ap, ◌∙◌, subst, inl, inr, arith}
use Rattle.std.proofs.lemmas.Bool.{cases_eq, cases_lt, cases_order}
use Rattle.std.proofs.lemmas.List.{get_or-map, get_or-set_other, get_or-set_same, length-map, length-set}
use Rattle.std.proofs.lemmas.Option.{slice_get-map, slice_get_read, slice_get_within, slice_get-get_or, same_Some}
use Rattle.std.specs.BTreeMap.{BTreeMap, get}
use Rattle.std.specs.List.{slice_get}
use Rattle.std.specs.Ordering.{is_eq}
use Rattle.krates_rules.proofs.PutElements.{equal_is, is_equal}
use Rattle.krates_selection.specs.KeptFacts.{AreFactNumbers, AreNoPlaces, home, key_cmp, key_view, KeptModel}
use Rattle.krates_selection.specs.declared.key.KeptFactKey.{KeptFactKey}
use Rattle.krates_selection.proofs.KeptKeyOrder.{key_tells}
use Rattle.krates_selection.proofs.PickedSteps.{EachSoFar, one_more}
use Rattle.krates_selection.specs.PartOfSteps.{SameFact}

-- ---- the map, filled place by place

-- the fact is at the place, and at no later one below this
pub record IsLastBelow (all : List KeptModel) (x : KeptModel) (i n : ℕ) : Type 0 where
  pub low : n < i
  pub at : slice_get all n ≡ Some x
  pub last : (m : ℕ) → m < i → slice_get all m ≡ Some x → m ≤ n

abbrev pub IsPlaceBelow : List KeptModel → KeptModel → ℕ → Option ℕ → Type 0
IsPlaceBelow all x i answer = MatchOption answer ((n : ℕ) → n < i → slice_get all n ≡ Some x → ⊥) (IsLastBelow all x i)

abbrev pub IsHome : List KeptModel → ℕ → KeptFactKey → BTreeMap KeptFactKey ℕ → Type 0
IsHome all i q m = IsPlaceBelow all (key_view q) i (get key_cmp m q)

-- the map of the fact's crate answers for it
abbrev pub ArePlacesBelow : List KeptModel → ℕ → List (BTreeMap KeptFactKey ℕ) → Type 0
ArePlacesBelow all i homes = (q : KeptFactKey) (d : BTreeMap KeptFactKey ℕ) → home (key_view q) < length homes → IsHome all i q (get_or homes (home (key_view q)) d)

-- what the map answers for a fact, where the new one is the same or another
place_step : (all : List KeptModel) (i : ℕ) (k q : KeptModel) (o : Option ℕ) (b : Bool) → slice_get all i ≡ Some k → (b ≡ true → k ≡ q) → (k ≡ q → b ≡ true) → IsPlaceBelow all q i o → IsPlaceBelow all q (i + 1) (cond b (Some i) o)
place_step all i k q o true here there back h = record { low = omega arith; at = here ∙ ap (λ (x : KeptModel). Some x) (there refl); last = λ m lt s. omega (arith, lt) }
place_step all i k q (Some n) false here there back h = record {
  low = omega (arith, h.low);
  at = h.at;
  last = λ m lt s. elim (cases_order m i) [
    | inl e ↦ (
        let at : slice_get all i ≡ Some q = subst (λ (m : ℕ). slice_get all m ≡ Some q) e s in
        let yes : false ≡ true = back (same_Some k q (sym here ∙ at)) in
        absurd cc)
    | inr r ↦ elim r [ inl l ↦ h.last m l s | inr l ↦ absurd (omega arith) ]
  ];
}
place_step all i k q None false here there back h = λ n lt s. elim (cases_order n i) [
  | inl e ↦ (
      let at : slice_get all i ≡ Some q = subst (λ (m : ℕ). slice_get all m ≡ Some q) e s in
      let yes : false ≡ true = back (same_Some k q (sym here ∙ at)) in
      absurd cc)
  | inr r ↦ elim r [ inl l ↦ h n l s | inr l ↦ absurd (omega arith) ]
]

-- no fact has a place yet
pub no_places_yet : (xs : List KeptFactKey) (count : ℕ) (homes : List (BTreeMap KeptFactKey ℕ)) → AreNoPlaces count homes → ArePlacesBelow (map key_view xs) 0 homes
no_places_yet xs count homes h q d low = subst (IsPlaceBelow (map key_view xs) (key_view q) 0) (sym (h.none (home (key_view q)) d low q)) (λ n lt s. absurd (omega (arith, lt)))

-- the place of a fact that is another than the new one
place_kept : (all : List KeptModel) (i : ℕ) (k q : KeptModel) (o : Option ℕ) → slice_get all i ≡ Some k → (home q ≡ home k → ⊥) → IsPlaceBelow all q i o → IsPlaceBelow all q (i + 1) o
place_kept all i k q o here apart h = place_step all i k q o false here (λ t. absurd cc) (λ e. absurd (apart (sym (ap home e)))) h

-- one more fact is put in
pub places_more : (xs : List KeptFactKey) (i at : ℕ) (k : KeptFactKey) (old : List (BTreeMap KeptFactKey ℕ)) (was is : BTreeMap KeptFactKey ℕ) → i < length xs → k ≡ get_or xs i k → at ≡ home (key_view k) → at < length old → was ≡ get_or old at was
    → ((q : KeptFactKey) → get key_cmp is q ≡ cond (is_eq (key_cmp k q)) (Some i) (get key_cmp was q)) → ArePlacesBelow (map key_view xs) i old → ArePlacesBelow (map key_view xs) (i + 1) (set old at is)
places_more xs i at k old was is lt read here low there grown h q d within =
    let all = map key_view xs in
    let own = home (key_view q) in
    let known : slice_get all i ≡ Some (key_view k) = slice_get-map key_view xs i ∙ ap (option_map key_view) (slice_get_read xs (length xs) i k refl lt read) in
    let within_old : own < length old = subst (λ (n : ℕ). own < n) (length-set old at is) within in
    ⊎_elim
    (λ e. (
    let now : get_or (set old at is) own d ≡ is = ap (λ n. get_or (set old at is) n d) e ∙ get_or-set_same old at is d low in
    let before : get_or old own was ≡ was = ap (λ n. get_or old n was) e ∙ sym there in
    let answered = place_step all i (key_view k) (key_view q) (get key_cmp was q) (is_eq (key_cmp k q)) known (λ t. (key_tells k q).0 (is_equal (key_cmp k q) t)) (λ s. equal_is (key_cmp k q) ((key_tells k q).1 s)) (subst (IsHome all i q) before (h q was within_old)) in
    subst (IsHome all (i + 1) q) (sym now) (subst (IsPlaceBelow all (key_view q) (i + 1)) (sym (grown q)) answered)))
    (λ apart. (
    let now : get_or (set old at is) own d ≡ get_or old own d = get_or-set_other old at own is d apart in
    let kept = place_kept all i (key_view k) (key_view q) (get key_cmp (get_or old own d) q) known (λ e. apart (e ∙ sym here)) (h q d within_old) in
    subst (IsHome all (i + 1) q) (sym now) kept))
    (cases_eq own at)

-- the crate of a fact has a map
pub low_home : (xs : List KeptFactKey) (count i at : ℕ) (k : KeptFactKey) (homes : List (BTreeMap KeptFactKey ℕ)) → All (λ f. home f < count) (map key_view xs) → i < length xs → k ≡ get_or xs i k → at ≡ home (key_view k) → length homes ≡ count → at < length homes
low_home xs count i at k homes all lt read here long =
    let seen : get_or (map key_view xs) i (key_view k) ≡ key_view k = get_or-map key_view xs i k (key_view k) lt ∙ ap key_view (sym read) in
    let low : home (key_view k) < count = subst (λ f. home f < count) seen (all i (key_view k) (omega (arith, lt, length-map xs key_view))) in
    omega (arith, low, here, long)

-- what the map of its crate answers for the new fact
pub home_answers : (xs : List KeptFactKey) (i at : ℕ) (k : KeptFactKey) (homes : List (BTreeMap KeptFactKey ℕ)) (m : BTreeMap KeptFactKey ℕ) → at ≡ home (key_view k) → at < length homes → m ≡ get_or homes at m → ArePlacesBelow (map key_view xs) i homes → IsHome (map key_view xs) i k m
home_answers xs i at k homes m here low there h =
    let own : get_or homes (home (key_view k)) m ≡ m = ap (λ n. get_or homes n m) (sym here) ∙ sym there in
    subst (IsHome (map key_view xs) i k) own (h k m (subst (λ (n : ℕ). n < length homes) here low))

-- ---- the numbers

-- the number of the fact at a place: the first place at which it is
pub record IsFirstPlace (all : List KeptModel) (k n : ℕ) : Type 0 where
  pub low : n ≤ k
  pub same : slice_get all n ≡ slice_get all k
  pub first : (m : ℕ) → slice_get all m ≡ slice_get all k → n ≤ m

-- each fact so far has its number
abbrev pub AreNumbersBelow : List KeptModel → ℕ → List ℕ → Type 0
AreNumbersBelow all = EachSoFar (IsFirstPlace all)

-- the number of a fact that was at an earlier place is the one there, and that of another its own place
abbrev pub IsNumberFor : List ℕ → ℕ → Option ℕ → ℕ → Type 0
IsNumberFor numbers i earlier n = MatchOption earlier (n ≡ i) (λ at. slice_get numbers at ≡ Some n)

-- a fact that was there before has a number
pub number_there : (all : List KeptModel) (x : KeptModel) (i : ℕ) (o : Option ℕ) (numbers : List ℕ) → length numbers ≡ i → IsPlaceBelow all x i o → IfSome o (λ at. at < length numbers)
number_there all x i None numbers long h = tt
number_there all x i (Some n) numbers long h = omega (arith, long, h.low)

-- so has the new one
new_first : (all : List KeptModel) (i n : ℕ) (x : KeptModel) (numbers : List ℕ) (o : Option ℕ) → slice_get all i ≡ Some x → IsPlaceBelow all x i o → IsNumberFor numbers i o n → AreNumbersBelow all i numbers → IsFirstPlace all i n
new_first all i n x numbers (Some p) at h num so =
    let f = so.each p n num in
    let same : slice_get all p ≡ slice_get all i = h.at ∙ sym at in
    record { low = omega (arith, f.low, h.low); same = f.same ∙ same; first = λ m e. f.first m (e ∙ sym same) }
new_first all i n x numbers None at h num so = record {
  low = omega (arith, num);
  same = ap (slice_get all) num;
  first = λ m e. elim (cases_lt m i) [ inl lt ↦ absurd (h m lt (e ∙ at)) | inr ge ↦ omega (arith, num, ge) ];
}

-- one more fact is numbered
pub numbers_more : (xs : List KeptFactKey) (i : ℕ) (k : KeptFactKey) (m : BTreeMap KeptFactKey ℕ) (o : Option ℕ) (n : ℕ) (old new : List ℕ) → i < length xs → k ≡ get_or xs i k → o ≡ get key_cmp m k → IsHome (map key_view xs) i k m
    → IsNumberFor old i o n → new ≡ old ++ n ∷ [] → AreNumbersBelow (map key_view xs) i old → AreNumbersBelow (map key_view xs) (i + 1) new
numbers_more xs i k m o n old new lt is answer places num pushed so =
    let all = map key_view xs in
    let at : slice_get all i ≡ Some (key_view k) = slice_get-map key_view xs i ∙ ap (option_map key_view) (slice_get_read xs (length xs) i k refl lt is) in
    let h : IsPlaceBelow all (key_view k) i o = subst (IsPlaceBelow all (key_view k) i) (sym answer) places in
    subst (AreNumbersBelow all (i + 1)) (sym pushed) (one_more (IsFirstPlace all) i old n so (new_first all i n (key_view k) old o at h num so))

-- all facts are
pub all_numbered : (xs : List KeptFactKey) (i : ℕ) (numbers : List ℕ) → i ≤ length xs → length xs ≤ i → AreNumbersBelow (map key_view xs) i numbers → AreFactNumbers (map key_view xs) numbers
all_numbered xs i numbers le ge so = record { long = so.long ∙ sym count; low = low; same = same }
  where
    count : length (map key_view xs) ≡ i
    count = omega (arith, length-map xs key_view, le, ge)

    low : (k d : ℕ) → k < length numbers → get_or numbers k d < length (map key_view xs)
    low k d lt = omega (arith, (so.each k (get_or numbers k d) (slice_get-get_or numbers k d lt)).low, so.long, count, lt)

    same : (j k : ℕ) (f g : KeptModel) → slice_get (map key_view xs) j ≡ Some f → slice_get (map key_view xs) k ≡ Some g → SameFact numbers j k ↔ (f ≡ g)
    same j k f g aj ak =
        let all = map key_view xs in
        let nj = slice_get-get_or numbers j 0 (omega (arith, so.long, count, slice_get_within all j f aj)) in
        let nk = slice_get-get_or numbers k 0 (omega (arith, so.long, count, slice_get_within all k g ak)) in
        let n = get_or numbers j 0 in
        let m = get_or numbers k 0 in
        let a = so.each j n nj in
        let b = so.each k m nk in (
          λ e. (let one = same_Some n m (sym nj ∙ e ∙ nk) in same_Some f g (sym aj ∙ sym a.same ∙ ap (slice_get all) one ∙ b.same ∙ ak)),
          λ e. (
              let here : slice_get all j ≡ slice_get all k = aj ∙ ap (λ (h : KeptModel). Some h) e ∙ sym ak in
              let one : n ≡ m = omega (arith, a.first m (b.same ∙ sym here), b.first n (a.same ∙ here)) in
              nj ∙ ap (λ (i : ℕ). Some i) one ∙ sym nk),
        )
