-- What an answer of an index has of a package: the first version that equals the package's.
use Rattle.std.proofs.Common.{◌≡◌, ◌≢◌, inl, inr, ℕ, ◌<◌, List, length, get_or, map, sym, ap, ◌∙◌, subst, arith, Option, Some, None, slice_get, option_map, MatchOption, String, Global}
use Rattle.std.proofs.lemmas.Option.{none-some, same_Some, slice_get-map, slice_get-get_or, slice_get_cases}
use Rattle.std.specs.BTreeMap.{BTreeMap, get_by_text}
use Rattle.std.specs.Borrow.{Bor}
use Rattle.std.specs.Global.{Vec}
use Rattle.std.specs.List.{AllWithin}
use Rattle.semver.specs.Identifiers.{parts_of}
use Rattle.krates_cm.specs.Document.{Text, text_view, VersionModel, FeaturesModel, features_view, PackageModel}
use Rattle.krates_cm.specs.Queries.{crates_io}
use Rattle.krates_ids.specs.Correction.{IndexVersionModel, index_version_view, index_krate_view, IndexModel, index_view, named, IsFirstEqual, IsIndexed}
use Rattle.krates_ids.specs.declared.index.IndexAnswer.{IndexAnswer}
use Rattle.krates_ids.specs.declared.index.IndexKrate.{IndexKrate}
use Rattle.krates_ids.specs.declared.index.IndexKrateVersion.{IndexKrateVersion}
use Rattle.krates_ids.proofs.CorrectionLemmas.{named-entries}

-- an element of the view at a place is the view of the element at that place
seen_at : {A B : Type 0} (f : A → B) (xs : List A) (k : ℕ) (y : B) → slice_get (map f xs) k ≡ Some y → (x : A) × (k < length xs) × (f (get_or xs k x) ≡ y)
seen_at f xs k y here =
    elim (slice_get_cases xs k).1 [
      | inl r ↦ (r.0, r.1, same_Some (f (get_or xs k r.0)) y (ap (λ x. Some (f x)) r.3 ∙ sym (slice_get-map f xs k ∙ ap (option_map f) r.2) ∙ here))
      | inr r ↦ absurd (none-some y (sym (slice_get-map f xs k ∙ ap (option_map f) r.1) ∙ here))
    ]

-- an equal version is the first one where none before it is equal
pub first_equal : (versions : List IndexKrateVersion) (version : VersionModel) (i : ℕ) (x : IndexKrateVersion) → i < length versions → x ≡ get_or versions i x → parts_of x.version ≡ version
    → AllWithin (λ v. parts_of v.version ≢ version) versions 0 i → IsFirstEqual (map index_version_view versions) version i (features_view x.features)
first_equal versions version i x lt is same none = record {
  here = slice_get-map index_version_view versions i ∙ ap (option_map index_version_view) (slice_get-get_or versions i x lt)
      ∙ ap (λ y. Some (index_version_view y)) (sym is) ∙ ap (λ v. Some (record { version = v; features = features_view x.features })) same;
  first = λ k v low here e.
      let s = seen_at index_version_view versions k v here in
      none k s.0 (omega arith) low (ap (λ w. w.version) s.2 ∙ e);
}

-- there is no first equal version where none is equal
pub none_equal : (versions : List IndexKrateVersion) (version : VersionModel) → AllWithin (λ v. parts_of v.version ≢ version) versions 0 (length versions)
    → (place : ℕ) (features : FeaturesModel) → IsFirstEqual (map index_version_view versions) version place features → ⊥
none_equal versions version none place features first =
    let s = seen_at index_version_view versions place (record { version = version; features = features }) first.here in
    none place s.0 (omega arith) s.1 (ap (λ w. w.version) s.2)

-- what an answer has under a name
pub answer_at : (answer : IndexAnswer) (name : Text) (found : Option (Option IndexKrate)) → get_by_text answer.krates name ≡ found → named (index_view answer) name ≡ option_map (option_map index_krate_view) found
answer_at answer name found is = named-entries text_view (option_map index_krate_view) answer.krates.entries name ∙ ap (option_map (option_map index_krate_view)) is

-- the package is indexed if its version is found among those of its crate
pub indexed_as : (index : IndexModel) (pkg : PackageModel) (versions : List IndexVersionModel) (r : Option (Bor (BTreeMap (String Global) (Vec (String Global))))) → pkg.source ≡ Some crates_io → named index pkg.name ≡ Some (Some versions)
    → MatchOption r ((place : ℕ) (features : FeaturesModel) → IsFirstEqual versions pkg.version place features → ⊥) (λ features. (place : ℕ) × IsFirstEqual versions pkg.version place (features_view features.now))
    → MatchOption r ((features : FeaturesModel) → IsIndexed index pkg features → ⊥) (λ features. IsIndexed index pkg (features_view features.now))
indexed_as index pkg versions None source is none =
    λ features i.
    let same : i.versions ≡ versions = same_Some _ _ (same_Some _ _ (sym i.has_crate ∙ is)) in
    none i.version.0 features (subst (λ vs. IsFirstEqual vs pkg.version i.version.0 features) same i.version.1)
indexed_as index pkg versions (Some features) source is found = record { source = source; versions = versions; has_crate = is; version = found }

-- a package is not indexed where the answer lacks its crate
pub not_indexed : (index : IndexModel) (pkg : PackageModel) (features : FeaturesModel) (found : Option (Option (List IndexVersionModel))) → named index pkg.name ≡ found
    → ((versions : List IndexVersionModel) → found ≡ Some (Some versions) → ⊥) → IsIndexed index pkg features → ⊥
not_indexed index pkg features found is lacks i = lacks i.versions (sym is ∙ i.has_crate)
