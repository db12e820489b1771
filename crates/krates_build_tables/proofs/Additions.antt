-- Lists of references to which others are added.
use Rattle.std.proofs.Common.{◌≡◌, ◌↔◌, ◌⊎◌, ℕ, ◌+◌, ◌<◌, length, get_or, take, List, [], ◌∷◌, ◌++◌, Some, None, Contains, map, inl, inr, refl, sym, subst}
use Rattle.std.proofs.lemmas.List.{get_or_default, map-append}
use Rattle.std.proofs.lemmas.List.Elements.{Contains-append_left, Contains-push, Contains-push_cases}
use Rattle.std.proofs.lemmas.Option.{none-some, same_Some}
use Rattle.krates_ids.proofs.CorrectionLemmas.{taken_more as one_more}
use Rattle.krates_rules.specs.Facts.{Id}
use Rattle.krates_rules.specs.Resolved.{Resolved}
use Rattle.krates_rules.proofs.PutElements.{none_there}
use Rattle.krates_text.specs.FeatureReference.{Reference}
use Rattle.krates_units.specs.BuildSetting.{BuildSettingModel}
use Rattle.krates_units.specs.Requests.{RootKind, IsGiven, Takes}
use Rattle.krates_build_tables.specs.References.{reference_view}
use Rattle.krates_build_tables.specs.Requests.{Adds, AsksDefault, AsksEach, IsRequestedAs, TakesGiven}
use Rattle.krates_build_tables.specs.RequestsTaken.{TellsTaken}
use Rattle.krates_build_tables.specs.declared.reference.FeatureReference.{FeatureReference}

-- ---- one step

-- nothing is added
pub adds_none : (P : Reference → Type 0) (xs : List FeatureReference) → ((v : Reference) → P v → ⊥) → Adds P xs xs
adds_none P xs none v = (λ c. inl c, λ e. elim e [ inl c ↦ c | inr p ↦ absurd (none v p) ])

-- what is added has the property, and nothing else has
pub adds_one : (P : Reference → Type 0) (xs : List FeatureReference) (x : FeatureReference) → P (reference_view x) → ((v : Reference) → P v → reference_view x ≡ v) → Adds P xs (xs ++ x ∷ [])
adds_one P xs x here only v = rw map-append (
  λ c. elim (Contains-push_cases (map reference_view xs) (reference_view x) v c) [ inl before ↦ inl before | inr e ↦ inr (subst P e here) ],
  λ e. elim e [
    | inl before ↦ Contains-append_left (map reference_view xs) (reference_view x ∷ []) v before
    | inr p ↦ subst (λ (w : Reference). Contains (map reference_view xs ++ reference_view x ∷ []) w) (only v p) (Contains-push (map reference_view xs) (reference_view x))
  ],
)

-- the same is added for another property that holds of the same references
pub adds_same : (P Q : Reference → Type 0) (xs ys : List FeatureReference) → ((v : Reference) → P v → Q v) → ((v : Reference) → Q v → P v) → Adds P xs ys → Adds Q xs ys
adds_same P Q xs ys there back added v = (
  λ c. elim ((added v).0 c) [ inl before ↦ inl before | inr p ↦ inr (there v p) ],
  λ e. elim e [ inl before ↦ (added v).1 (inl before) | inr q ↦ (added v).1 (inr (back v q)) ],
)

-- what is added in two steps
pub adds_both : (P Q R : Reference → Type 0) (xs ys zs : List FeatureReference) → ((v : Reference) → R v → P v ⊎ Q v) → ((v : Reference) → P v → R v) → ((v : Reference) → Q v → R v) → Adds P xs ys → Adds Q ys zs → Adds R xs zs
adds_both P Q R xs ys zs cases left right one two v = (
  λ c. elim ((two v).0 c) [
    | inl between ↦ elim ((one v).0 between) [ inl before ↦ inl before | inr p ↦ inr (left v p) ]
    | inr q ↦ inr (right v q)
  ],
  λ e. elim e [
    | inl before ↦ (two v).1 (inl ((one v).1 (inl before)))
    | inr r ↦ elim (cases v r) [ inl p ↦ (two v).1 (inl ((one v).1 (inr p))) | inr q ↦ (two v).1 (inr q) ]
  ],
)

-- from an empty list
pub adds_all : (P : Reference → Type 0) (xs ys : List FeatureReference) → xs ≡ [] → Adds P xs ys → (v : Reference) → P v ↔ Contains (map reference_view ys) v
adds_all P xs ys empty added v =
    let from_none : Adds P [] ys = subst (λ (zs : List FeatureReference). Adds P zs ys) empty added in (
      λ p. (from_none v).1 (inr p),
      λ c. elim ((from_none v).0 c) [ inl before ↦ absurd (none_there v before) | inr p ↦ p ],
    )

-- ---- what is taken of the references so far

-- it is taken of one of these references
pub record TakenOf (r : Resolved) (s : BuildSettingModel) (i : Id) (kind : RootKind) (these : List Reference) (w : Reference) : Type 0 where
  pub reference : Reference
  pub among : Contains these reference
  pub takes : Takes r s i kind reference w

pub taken_none : (r : Resolved) (s : BuildSettingModel) (i : Id) (kind : RootKind) (xs : List FeatureReference) → Adds (TakenOf r s i kind []) xs xs
taken_none r s i kind xs = adds_none (TakenOf r s i kind []) xs (λ v t. none_there t.reference t.among)

-- one more reference
pub taken_more : (r : Resolved) (s : BuildSettingModel) (i : Id) (kind : RootKind) (these : List Reference) (g : Reference) (xs ys zs : List FeatureReference) → Adds (TakenOf r s i kind these) xs ys → Adds (Takes r s i kind g) ys zs
    → Adds (TakenOf r s i kind (these ++ g ∷ [])) xs zs
taken_more r s i kind these g xs ys zs =
    adds_both (TakenOf r s i kind these) (Takes r s i kind g) (TakenOf r s i kind (these ++ g ∷ [])) xs ys zs
    (λ v t. elim (Contains-push_cases these g t.reference t.among) [
      | inl before ↦ inl (record { reference = t.reference; among = before; takes = t.takes })
      | inr e ↦ inr (subst (λ (h : Reference). Takes r s i kind h v) (sym e) t.takes)
    ])
    (λ v t. record { reference = t.reference; among = Contains-append_left these (g ∷ []) t.reference t.among; takes = t.takes })
    (λ v t. record { reference = g; among = Contains-push these g; takes = t })

-- which is at a place of a list
pub taken_next : (r : Resolved) (s : BuildSettingModel) (i : Id) (kind : RootKind) (gs : List FeatureReference) (k : ℕ) (d : FeatureReference) (xs ys zs : List FeatureReference) → k < length gs → Adds (TakenOf r s i kind (map reference_view (take k gs))) xs ys
    → Adds (Takes r s i kind (reference_view (get_or gs k d))) ys zs → Adds (TakenOf r s i kind (map reference_view (take (k + 1) gs))) xs zs
taken_next r s i kind gs k d xs ys zs lt so_far step =
    let g = get_or gs k d in
    let more : map reference_view (take (k + 1) gs) ≡ map reference_view (take k gs) ++ reference_view g ∷ [] = one_more reference_view gs k g lt (get_or_default gs k d g lt) in
    subst (λ (these : List Reference). Adds (TakenOf r s i kind these) xs zs) (sym more) (taken_more r s i kind (map reference_view (take k gs)) (reference_view g) xs ys zs so_far step)

pub taken_put : (r : Resolved) (s : BuildSettingModel) (i : Id) (kind : RootKind) (g : Reference) (xs : List FeatureReference) (x : FeatureReference) → TellsTaken r s i kind g (Some x) → Adds (Takes r s i kind g) xs (xs ++ x ∷ [])
taken_put r s i kind g xs x tells = adds_one (Takes r s i kind g) xs x ((tells (reference_view x)).1 refl) (λ v t. same_Some (reference_view x) v ((tells v).0 t))

pub taken_passed : (r : Resolved) (s : BuildSettingModel) (i : Id) (kind : RootKind) (g : Reference) (xs : List FeatureReference) → TellsTaken r s i kind g None → Adds (Takes r s i kind g) xs xs
taken_passed r s i kind g xs tells = adds_none (Takes r s i kind g) xs (λ v t. none-some v ((tells v).0 t))

-- of all
pub taken_all : (r : Resolved) (s : BuildSettingModel) (i : Id) (kind : RootKind) (these : List Reference) (xs ys : List FeatureReference) → ((v : Reference) → IsGiven s v ↔ Contains these v) → Adds (TakenOf r s i kind these) xs ys → Adds (TakesGiven r s i kind) xs ys
taken_all r s i kind these xs ys given =
    adds_same (TakenOf r s i kind these) (TakesGiven r s i kind) xs ys
    (λ v t. record { reference = t.reference; given = (given t.reference).1 t.among; takes = t.takes })
    (λ v t. record { reference = t.reference; among = (given t.reference).0 t.given; takes = t.takes })

-- ---- what is requested of a root, in three steps

pub adds_requested : (r : Resolved) (s : BuildSettingModel) (i : Id) (kind : RootKind) (xs ys zs us : List FeatureReference) → xs ≡ [] → Adds (AsksDefault r s i kind) xs ys → Adds (AsksEach r s i kind) ys zs → Adds (TakesGiven r s i kind) zs us
    → (v : Reference) → IsRequestedAs r s i kind v ↔ Contains (map reference_view us) v
adds_requested r s i kind xs ys zs us empty one two three =
    let later : Adds (λ v. AsksEach r s i kind v ⊎ TakesGiven r s i kind v) ys us =
    adds_both (AsksEach r s i kind) (TakesGiven r s i kind) (λ v. AsksEach r s i kind v ⊎ TakesGiven r s i kind v) ys zs us (λ v h. h) (λ v e. inl e) (λ v t. inr t) two three in
    let all : Adds (IsRequestedAs r s i kind) xs us =
    adds_both (AsksDefault r s i kind) (λ v. AsksEach r s i kind v ⊎ TakesGiven r s i kind v) (IsRequestedAs r s i kind) xs ys us (λ v h. h) (λ v d. inl d) (λ v h. inr h) one later in
    adds_all (IsRequestedAs r s i kind) xs us empty all
