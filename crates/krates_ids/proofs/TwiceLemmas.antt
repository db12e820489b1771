-- Correcting twice is correcting once.
use Rattle.std.proofs.Common.{◌≡◌, ◌⊎◌, inl, inr, ℕ, List, [], ◌∷◌, Option, Some, None, refl, sym, ap, ◌∙◌, subst, arith, Contains, slice_get}
use Rattle.std.specs.Option.{option_or}
use Rattle.std.proofs.lemmas.Bool.{cases_order, true_from_ne_false, false≢true}
use Rattle.std.specs.Str.{bytes_eq}
use Rattle.std.proofs.lemmas.List.Elements.{Contains-push_cases}
use Rattle.std.proofs.lemmas.Option.{same_Some}
use Rattle.krates_cm.specs.Document.{Text, VersionModel, FeaturesModel, PackageModel}
use Rattle.krates_text.specs.FeatureReference.{IsReference, simple}
use Rattle.krates_ids.specs.Correction.{named, joined, Refers, dependency_reference, IsCorrection, IndexModel, IndexVersionModel, IsFirstEqual, IsIndexed, IsCorrected, unknown, known, with_features}
use Rattle.krates_ids.proofs.CorrectedLemmas.{some_is_not_none}
use Rattle.krates_ids.proofs.CorrectionLemmas.{eq_from_true, true_from_eq}

-- a feature is there or isn't
seen : {A : Type 0} (found : Option A) → ((x : A) × (found ≡ Some x)) ⊎ (found ≡ None)
seen None = inr refl
seen (Some x) = inl (x, refl)

-- what is missing was in neither
joined_absent : (manifest index corrected : FeaturesModel) → IsCorrection manifest index corrected → (name : Text) → named corrected name ≡ None → joined manifest index name ≡ None
joined_absent manifest index corrected is name e =
    elim (seen (joined manifest index name)) [
      | inl there ↦ absurd (some_is_not_none (named corrected name) there.0 (is.has_joined name there.0 there.1) e)
      | inr none ↦ none
    ]

second_absent : {A : Type 0} (first other : Option A) → option_or first other ≡ None → other ≡ None
second_absent None other e = e
second_absent (Some x) other e = absurd cc

-- the reference that is added isn't simple
not_plain : (feature name : Text) → Contains (dependency_reference feature ∷ []) name → IsReference name (simple name) → ⊥
not_plain feature name among plain =
    elim (Contains-push_cases [] (dependency_reference feature) name among) [
      | inl none ↦ let below = none.1 in omega arith
      | inr same ↦ plain.0 (record { rest = feature; is = sym same })
    ]

-- after a correction nothing that is missing is referred to
no_more : (manifest index once : FeaturesModel) → IsCorrection manifest index once → (name : Text) → named once name ≡ None → Refers (joined once index) name → ⊥
no_more manifest index once is name absent r =
    elim (seen (named once r.feature)) [
      | inr none ↦ some_is_not_none (named index r.feature) r.values (sym (ap (λ x. option_or x (named index r.feature)) none) ∙ r.is)
          (second_absent (named manifest r.feature) (named index r.feature) (joined_absent manifest index once is r.feature none))
      | inl there ↦
          let here : named once r.feature ≡ Some r.values = there.1 ∙ sym (ap (λ x. option_or x (named index r.feature)) there.1) ∙ r.is in
          elim (seen (joined manifest index r.feature)) [
            | inl before ↦
                let same : joined manifest index r.feature ≡ Some r.values = before.1 ∙ sym (is.has_joined r.feature before.0 before.1) ∙ here in
                some_is_not_none (named once name) (dependency_reference name ∷ [])
                (is.referred name (joined_absent manifest index once is name absent) (record { feature = r.feature; values = r.values; is = same; among = r.among; plain = r.plain })) absent
            | inr new ↦
                some_is_not_none (named once r.feature) r.values here
                (is.no_other r.feature new (λ again. let values : r.values ≡ dependency_reference r.feature ∷ [] = same_Some _ _ (sym here ∙ is.referred r.feature new again) in
                not_plain r.feature name (subst (λ vs. Contains vs name) values r.among) r.plain))
          ]
    ]

pub twice : (manifest index once again : FeaturesModel) → IsCorrection manifest index once → IsCorrection once index again → (name : Text) → named again name ≡ named once name
twice manifest index once again first second name =
    elim (seen (named once name)) [
      | inl there ↦ second.has_joined name there.0 (ap (λ x. option_or x (named index name)) there.1) ∙ sym there.1
      | inr none ↦
          second.no_other name (ap (λ x. option_or x (named index name)) none ∙ second_absent (named manifest name) (named index name) (joined_absent manifest index once first name none)) (no_more manifest index once first name none)
          ∙ sym none
    ]

-- there is only one first version
one_first : (versions : List IndexVersionModel) (version : VersionModel) (j k : ℕ) (a b : FeaturesModel) → IsFirstEqual versions version j a → IsFirstEqual versions version k b → a ≡ b
one_first versions version j k a b p q = elim (cases_order j k) [
  | inl e ↦ ap (λ (v : IndexVersionModel). v.features) (same_Some _ _ (sym p.here ∙ ap (λ n. slice_get versions n) e ∙ q.here))
  | inr r ↦ elim r [ inl lt ↦ absurd (q.first j _ lt p.here refl) | inr lt ↦ absurd (p.first k _ lt q.here refl) ]
]

-- the index has only one list of features for a package
one_indexed : (index : IndexModel) (pkg : PackageModel) (a b : FeaturesModel) → IsIndexed index pkg a → IsIndexed index pkg b → a ≡ b
one_indexed index pkg a b p q =
    let same : p.versions ≡ q.versions = same_Some _ _ (same_Some _ _ (sym p.has_crate ∙ q.has_crate)) in
    one_first q.versions pkg.version p.version.0 q.version.0 a b (subst (λ vs. IsFirstEqual vs pkg.version p.version.0 a) same p.version.1) q.version.1

-- the index has the same for a package with other features
indexed_before : (index : IndexModel) (before : PackageModel) (features found : FeaturesModel) → IsIndexed index (with_features before features) found → IsIndexed index before found
indexed_before index before features found i = record { source = i.source; versions = i.versions; has_crate = i.has_crate; version = i.version }

pub corrected_twice : (index : IndexModel) (before once again : PackageModel) → IsCorrected index before once → IsCorrected index once again → (name : Text) → named again.features name ≡ named once.features name
corrected_twice index before once again first (unknown not same) name = ap (λ p. named p.features name) same
corrected_twice index before once again (unknown not is) (known features indexed done same) name =
    absurd (not features (subst (λ p. IsIndexed index p features) is indexed))
corrected_twice index before once again (known features indexed done is) (known later indexed_again done_again same) name =
    let there = indexed_before index before once.features later (subst (λ p. IsIndexed index p later) is indexed_again) in
    let one : later ≡ features = one_indexed index before later features there indexed in
    twice before.features features once.features again.features done (subst (λ f. IsCorrection once.features f again.features) one done_again) name

-- ---- there is only one correction

-- values that can't be anything but one reference are that reference
only_reference : (values : List Text) (reference : Text) → ((values ≡ reference ∷ [] → ⊥) → ⊥) → values ≡ reference ∷ []
only_reference [] reference n = absurd (n (λ e. cc))
only_reference (v ∷ []) reference n =
    ap (λ t. t ∷ [])
    (eq_from_true v reference (true_from_ne_false (bytes_eq v reference) (λ f. n (λ e. let same : v ≡ reference = cc in false≢true (sym f ∙ true_from_eq v reference same)))))
only_reference (v ∷ w ∷ rest) reference n = absurd (n (λ e. cc))

-- what is there though it wasn't joined is the reference that was added
added_values : (manifest index corrected : FeaturesModel) → IsCorrection manifest index corrected → (name : Text) → joined manifest index name ≡ None → (values : List Text) → named corrected name ≡ Some values
    → values ≡ dependency_reference name ∷ []
added_values manifest index corrected is name none values there =
    only_reference values (dependency_reference name) (λ differs. some_is_not_none (named corrected name) values there (is.no_other name none (λ r. differs (same_Some values (dependency_reference name ∷ []) (sym there ∙ is.referred name none r)))))

-- what one correction lacks, the other lacks too
absent_alike : (manifest index a b : FeaturesModel) → IsCorrection manifest index a → IsCorrection manifest index b → (name : Text) → joined manifest index name ≡ None → named a name ≡ None → named b name ≡ None
absent_alike manifest index a b p q name none absent = q.no_other name none (λ r. some_is_not_none (named a name) (dependency_reference name ∷ []) (p.referred name none r) absent)

one_correction : (manifest index a b : FeaturesModel) → IsCorrection manifest index a → IsCorrection manifest index b → (name : Text) → named a name ≡ named b name
one_correction manifest index a b p q name =
    elim (seen (joined manifest index name)) [
      | inl there ↦ p.has_joined name there.0 there.1 ∙ sym (q.has_joined name there.0 there.1)
      | inr none ↦
          elim (seen (named a name)) [
            | inr absent ↦ absent ∙ sym (absent_alike manifest index a b p q name none absent)
            | inl x ↦
                elim (seen (named b name)) [
                  | inr absent ↦ absent_alike manifest index b a q p name none absent ∙ sym absent
                  | inl y ↦
                      x.1 ∙ ap (λ v. Some v) (added_values manifest index a p name none x.0 x.1 ∙ sym (added_values manifest index b q name none y.0 y.1)) ∙ sym y.1
                ]
          ]
    ]

pub corrected_once : (index : IndexModel) (before a b : PackageModel) → IsCorrected index before a → IsCorrected index before b
    → (b ≡ with_features a b.features) × ((name : Text) → named a.features name ≡ named b.features name)
corrected_once index before a b (unknown n is) (unknown m same) =
    let e : a ≡ b = is ∙ sym same in
    (subst (λ (x : PackageModel). b ≡ with_features x b.features) (sym e) refl, λ name. ap (λ (x : PackageModel). named x.features name) e)
corrected_once index before a b (unknown n is) (known f i done same) = absurd (n f i)
corrected_once index before a b (known f i done is) (unknown n same) = absurd (n f i)
corrected_once index before a b (known f i p is) (known g j q same) =
    let one : g ≡ f = one_indexed index before g f j i in
    (same ∙ sym (ap (λ (x : PackageModel). with_features x b.features) is), λ name. one_correction before.features f a.features b.features p (subst (λ (x : FeaturesModel). IsCorrection before.features x b.features) one q) name)
