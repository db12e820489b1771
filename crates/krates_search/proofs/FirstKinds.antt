-- The first places of kinds and targets, gone over place by place.
use Rattle.std.proofs.Common.{◌≡◌, ◌↔◌, ℕ, ◌+◌, ◌<◌, ◌≤◌, List, [], ◌∷◌, ◌++◌, length, get_or, map, Bool, true, false, cond, IsTrue, Some, option_map, Ordering, Less, Equal, Greater, AllPairs, Contains, inl, inr, refl, sym, ap, ◌∙◌, subst, arith}
use Rattle.std.proofs.lemmas.Bool.{cases_lt}
use Rattle.std.proofs.lemmas.List.{length-map}
use Rattle.std.proofs.lemmas.List.Elements.{Contains-append_left, Contains-push, Contains-push_cases}
use Rattle.std.proofs.lemmas.List.Quantifiers.{all_pairs_push}
use Rattle.std.proofs.lemmas.Option.{slice_get-get_or, slice_get-map, slice_get_read, slice_get_within, same_Some}
use Rattle.std.specs.BTreeMap.{is_at}
use Rattle.std.specs.BTreeSet.{BTreeSet, contains}
use Rattle.std.specs.List.{slice_get}
use Rattle.std.specs.Ordering.{is_eq}
use Rattle.krates_cm.specs.Document.{DepKindInfoModel, dep_kind_info_view}
use Rattle.krates_cm.specs.declared.resolve.DepKindInfo.{DepKindInfo}
use Rattle.krates_questions.specs.NodeEntry.{IsFirstInfo}
use Rattle.krates_search.specs.Found.{IsAmongPlaces, IsFirstKind, kind_cmp, kind_view, AreFirstKinds}
use Rattle.krates_search.specs.declared.found.KindKey.{KindKey}
use Rattle.krates_search.proofs.KindOrder.{kind_from, kind_to}
use Rattle.krates_rules.proofs.Elements.{contains_or}
use Rattle.krates_rules.proofs.PutElements.{none_there}
use Rattle.krates_rules.specs.DeclaredDependency.{FirstAt}

is_equal : (o : Ordering) → is_eq o ≡ true → o ≡ Equal
is_equal Less h = absurd cc
is_equal Equal h = refl
is_equal Greater h = absurd cc

equal_is : (o : Ordering) → o ≡ Equal → is_eq o ≡ true
equal_is o e = rw e refl

-- ---- what has been seen

-- a place below this one has the kind and target
abbrev pub StandsBelow : List DepKindInfoModel → ℕ → DepKindInfoModel → Type 0
StandsBelow ks i k = (j : ℕ) × (j < i) × (slice_get ks j ≡ Some k)

-- the set has those so far
abbrev pub AreSeen : List DepKindInfoModel → ℕ → BTreeSet KindKey → Type 0
AreSeen ks i set = (q : KindKey) → IsTrue (contains kind_cmp set q) ↔ StandsBelow ks i (kind_view q)

pub none_seen : (ks : List DepKindInfoModel) (set : BTreeSet KindKey) → set.keys ≡ [] → AreSeen ks 0 set
none_seen ks set e q = rw e (λ t. absurd cc, λ w. absurd (omega (arith, w.1)))

seen_step : (b o : Bool) (ks : List DepKindInfoModel) (i : ℕ) (k q : DepKindInfoModel) → slice_get ks i ≡ Some k → (b ≡ true → k ≡ q) → (k ≡ q → b ≡ true) → (IsTrue o ↔ StandsBelow ks i q) → IsTrue (cond b true o) ↔ StandsBelow ks (i + 1) q
seen_step true o ks i k q at there back h = (λ t. (i, omega arith, at ∙ ap (λ (x : DepKindInfoModel). Some x) (there refl)), λ w. refl)
seen_step false o ks i k q at there back h = (
  λ t. (let w = h.0 t in (w.0, omega (arith, w.1), w.2)),
  λ w. elim (cases_lt w.0 i) [
    | inl lower ↦ h.1 (w.0, lower, w.2)
    | inr le ↦ absurd (
        let same : i ≡ w.0 = omega (arith, le, w.1) in
        let yes : false ≡ true = back (same_Some k q (sym at ∙ ap (λ (n : ℕ). slice_get ks n) same ∙ w.2)) in
        cc)
  ],
)

-- one more is seen
pub seen_more : (ks : List DepKindInfoModel) (i : ℕ) (k : KindKey) (old new : BTreeSet KindKey) → slice_get ks i ≡ Some (kind_view k) → ((q : KindKey) → contains kind_cmp new q ≡ cond (is_at (kind_cmp k) q) true (contains kind_cmp old q)) → AreSeen ks i old
    → AreSeen ks (i + 1) new
seen_more ks i k old new at grown h q =
    subst (λ (b : Bool). IsTrue b ↔ StandsBelow ks (i + 1) (kind_view q)) (sym (grown q))
    (seen_step (is_eq (kind_cmp k q)) (contains kind_cmp old q) ks i (kind_view k) (kind_view q) at (λ t. kind_to k q (is_equal (kind_cmp k q) t)) (λ e. equal_is (kind_cmp k q) (kind_from k q e)) (h q))

-- ---- the first places so far

pub record AreFirstBelow (ks : List DepKindInfoModel) (i : ℕ) (places : List ℕ) : Type 0 where
  pub first : (place : ℕ) → Contains places place → IsFirstKind ks place
  pub each : (k : DepKindInfoModel) → StandsBelow ks i k → IsAmongPlaces ks places k
  pub below : (place : ℕ) → Contains places place → place < i
  pub ascending : AllPairs ◌<◌ places

pub none_first : (ks : List DepKindInfoModel) (places : List ℕ) → places ≡ [] → AreFirstBelow ks 0 places
none_first ks places e = record {
  first = λ place among. absurd (none_there place (subst (λ (ps : List ℕ). Contains ps place) e among));
  each = λ k w. absurd (omega (arith, w.1));
  below = λ place among. absurd (none_there place (subst (λ (ps : List ℕ). Contains ps place) e among));
  ascending = subst (AllPairs ◌<◌) (sym e) (λ i j d lt within. absurd (omega (arith, within)));
}

-- a kind and target that wasn't seen is added
pub first_put : (ks : List DepKindInfoModel) (i : ℕ) (k : DepKindInfoModel) (seen : Bool) (old new : List ℕ) → slice_get ks i ≡ Some k → seen ≡ false → (IsTrue seen ↔ StandsBelow ks i k) → new ≡ old ++ i ∷ [] → AreFirstBelow ks i old
    → AreFirstBelow ks (i + 1) new
first_put ks i k seen old new at fresh tells more h =
    let here : FirstAt (λ (j : DepKindInfoModel). j ≡ k) ks i k = record {
      here = at;
      holds = refl;
      before = λ j y lt there is. (
          let yes : seen ≡ true = tells.1 (j, lt, there ∙ ap (λ (x : DepKindInfoModel). Some x) is) in
          cc);
    } in
    record {
      first = λ place among. elim (Contains-push_cases old i place (subst (λ (ps : List ℕ). Contains ps place) more among)) [
        | inl before ↦ h.first place before
        | inr same ↦ subst (IsFirstKind ks) same (k, here)
      ];
      each = λ y w. elim (cases_lt w.0 i) [
        | inl lower ↦ (
            let o = h.each y (w.0, lower, w.2) in
            (o.0, subst (λ (ps : List ℕ). Contains ps o.0) (sym more) (Contains-append_left old (i ∷ []) o.0 o.1), o.2))
        | inr le ↦ (
            let same : w.0 ≡ i = omega (arith, le, w.1) in
            (i, subst (λ (ps : List ℕ). Contains ps i) (sym more) (Contains-push old i), subst (λ (n : ℕ). slice_get ks n ≡ Some y) same w.2))
      ];
      below = λ place among. elim (Contains-push_cases old i place (subst (λ (ps : List ℕ). Contains ps place) more among)) [
        | inl before ↦ omega (arith, h.below place before)
        | inr same ↦ omega (arith, same)
      ];
      ascending = subst (AllPairs ◌<◌) (sym more) (all_pairs_push ◌<◌ old i h.ascending (λ j d lt. h.below (get_or old j d) (contains_or old j d lt)));
    }

-- one that was seen is passed over
pub first_stays : (ks : List DepKindInfoModel) (i : ℕ) (k : DepKindInfoModel) (seen : Bool) (places : List ℕ) → slice_get ks i ≡ Some k → seen ≡ true → (IsTrue seen ↔ StandsBelow ks i k) → AreFirstBelow ks i places → AreFirstBelow ks (i + 1) places
first_stays ks i k seen places at known tells h = record {
  first = h.first;
  each = λ y w. elim (cases_lt w.0 i) [
    | inl lower ↦ h.each y (w.0, lower, w.2)
    | inr le ↦ (
        let same : i ≡ w.0 = omega (arith, le, w.1) in
        let is : k ≡ y = same_Some k y (sym at ∙ ap (λ (n : ℕ). slice_get ks n) same ∙ w.2) in
        subst (IsAmongPlaces ks places) is (h.each k (tells.0 known)))
  ];
  below = λ place among. omega (arith, h.below place among);
  ascending = h.ascending;
}

pub all_first : (ks : List DepKindInfoModel) (i : ℕ) (places : List ℕ) → length ks ≤ i → AreFirstBelow ks i places → AreFirstKinds ks places
all_first ks i places le h = record {
  first = h.first;
  each = λ k among. h.each k (among.0, omega (arith, among.1, le), slice_get-get_or ks among.0 k among.1 ∙ ap (λ (x : DepKindInfoModel). Some x) among.2);
  ascending = h.ascending;
}

-- of one alone it is the first place
pub one_first : (ks : List DepKindInfoModel) (places : List ℕ) → length ks ≡ 1 → places ≡ 0 ∷ [] → AreFirstKinds ks places
one_first [] places one is = absurd (omega (arith, one))
one_first (k ∷ []) places one is = record {
  first = λ place among. elim (Contains-push_cases [] 0 place (subst (λ (ps : List ℕ). Contains ps place) is among)) [
    | inl before ↦ absurd (none_there place before)
    | inr same ↦ subst (IsFirstKind (k ∷ [])) same (k, record { here = refl; holds = refl; before = λ j y lt there e. absurd (omega (arith, lt)) })
  ];
  each = λ y among. (
      let zero_th : among.0 ≡ 0 = omega (arith, among.1) in
      let there = slice_get-get_or (k ∷ []) among.0 y among.1 ∙ ap (λ (x : DepKindInfoModel). Some x) among.2 in
      (0, subst (λ (ps : List ℕ). Contains ps 0) (sym is) (Contains-push [] 0), subst (λ (n : ℕ). slice_get (k ∷ []) n ≡ Some y) zero_th there));
  ascending = subst (AllPairs ◌<◌) (sym is) (λ i j d lt within. absurd (omega (arith, lt, within)));
}
one_first (k ∷ j ∷ ks) places one is = absurd (omega (arith, one))

-- ---- kinds and targets at places, as the code finds them

-- how many there are
pub infos_long : (infos : List DepKindInfo) → length (map dep_kind_info_view infos) ≡ length infos
infos_long infos = length-map infos dep_kind_info_view

pub info_here : (infos : List DepKindInfo) (place : ℕ) (info : DepKindInfo) → place < length infos → info ≡ get_or infos place info → slice_get (map dep_kind_info_view infos) place ≡ Some (dep_kind_info_view info)
info_here infos place info lt is = slice_get-map dep_kind_info_view infos place ∙ ap (option_map dep_kind_info_view) (slice_get_read infos (length infos) place info refl lt is)

pub info_there : (infos items : List DepKindInfo) (place : ℕ) (info : DepKindInfo) → infos ≡ items → slice_get infos place ≡ Some info → slice_get (map dep_kind_info_view items) place ≡ Some (dep_kind_info_view info)
info_there infos items place info same at =
    subst (λ (ds : List DepKindInfo). slice_get (map dep_kind_info_view ds) place ≡ Some (dep_kind_info_view info)) same (slice_get-map dep_kind_info_view infos place ∙ ap (option_map dep_kind_info_view) at)

-- a first place is one of the list
pub first_within : (infos : List DepKindInfo) (places : List ℕ) (place : ℕ) → AreFirstKinds (map dep_kind_info_view infos) places → Contains places place → place < length infos
first_within infos places place first among =
    let w = first.first place among in
    subst (λ (n : ℕ). place < n) (infos_long infos) (slice_get_within (map dep_kind_info_view infos) place w.0 w.1.here)

-- and what is there is there for the first time
pub first_info : (infos : List DepKindInfo) (places : List ℕ) (place : ℕ) (info : DepKindInfo) → AreFirstKinds (map dep_kind_info_view infos) places → Contains places place → slice_get (map dep_kind_info_view infos) place ≡ Some (dep_kind_info_view info)
    → IsFirstInfo infos info place
first_info infos places place info first among here =
    let ks = map dep_kind_info_view infos in
    let w = first.first place among in
    let same : w.0 ≡ dep_kind_info_view info = same_Some w.0 (dep_kind_info_view info) (sym w.1.here ∙ here) in
    subst (λ (k : DepKindInfoModel). FirstAt (λ (j : DepKindInfoModel). j ≡ k) ks place k) same w.1
