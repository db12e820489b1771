-- A copy has the same view as its original, for each kind of field.
use Rattle.std.proofs.Common.{◌≡◌, ℕ, List, [], ◌∷◌, map, Option, None, Some, String, Global, string_bytes, refl, ap}
use Rattle.std.specs.BTreeMap.{BTreeMap, IsClone}
use Rattle.std.specs.Global.{Vec}
use Rattle.std.specs.List.{AllZip}
use Rattle.std.specs.Vec.{vec_len}
use Rattle.semver.specs.Identifiers.{parts_of, pre_text, build_text, comparator_view}
use Rattle.semver.specs.contracts.ComparatorClone.TheImpl.{ghosts as comparators}
use Rattle.semver.specs.contracts.VersionClone.TheImpl.{ghosts as versions}
use Rattle.semver.specs.contracts.VersionReqClone.TheImpl.{ghosts as requirements}
use Rattle.semver.specs.declared.Comparator.{Comparator}
use Rattle.semver.specs.declared.Version.{Version}
use Rattle.semver.specs.declared.VersionReq.{VersionReq}
use Rattle.krates_cm.specs.Document.{Text, text_view, texts_view, id_view, ids_view, features_view, requirement_view}
use Rattle.krates_cm.specs.declared.package_id.PackageId.{PackageId}

-- ---- lists and maps

-- a list, where each copied item has the same view
pub same_list : {X A : Type 0} (R : X → X → Type 0) (seen : X → A) → ((x y : X) → R x y → seen y ≡ seen x) → (xs ys : List X) → AllZip R xs ys → map seen ys ≡ map seen xs
same_list R seen same [] [] h = refl
same_list R seen same [] (y ∷ ys) h = absurd h
same_list R seen same (x ∷ xs) [] h = absurd h
same_list R seen same (x ∷ xs) (y ∷ ys) h = λ i. same x y h.0 i ∷ same_list R seen same xs ys h.1 i

-- each text of the second list has the bytes of the first
abbrev TextsCopied : Vec (String Global) → Vec (String Global) → Type 0
TextsCopied v w = AllZip (λ s t. string_bytes t ≡ string_bytes s) v.items w.items × (vec_len w ≡ vec_len v)

-- a list of texts
pub same_texts : (v w : Vec (String Global)) → TextsCopied v w → texts_view w ≡ texts_view v
same_texts v w h = same_list (λ s t. string_bytes t ≡ string_bytes s) text_view (λ s t same. same) v.items w.items h.0

-- a list of ids
pub same_ids : (v w : Vec PackageId) → AllZip (λ id copy. id_view copy ≡ id_view id) v.items w.items × (vec_len w ≡ vec_len v) → ids_view w ≡ ids_view v
same_ids v w h = same_list (λ id copy. id_view copy ≡ id_view id) id_view (λ id copy same. same) v.items w.items h.0

-- a list whose items are copied as they are
pub same_items : {X : Type 0} (xs ys : List X) → AllZip (λ x y. y ≡ x) xs ys → ys ≡ xs
same_items [] [] h = refl
same_items [] (y ∷ ys) h = absurd h
same_items (x ∷ xs) [] h = absurd h
same_items (x ∷ xs) (y ∷ ys) h = λ i. h.0 i ∷ same_items xs ys h.1 i

abbrev entry_view : String Global × Vec (String Global) → Text × List Text
entry_view e = (text_view e.0, texts_view e.1)

abbrev EntryCopied : String Global × Vec (String Global) → String Global × Vec (String Global) → Type 0
EntryCopied e f = (string_bytes f.0 ≡ string_bytes e.0) × TextsCopied e.1 f.1

same_entry : (e f : String Global × Vec (String Global)) → EntryCopied e f → entry_view f ≡ entry_view e
same_entry e f h = λ i. (h.0 i, same_texts e.1 f.1 h.1 i)

-- the features of a package
pub same_features : (m n : BTreeMap (String Global) (Vec (String Global))) → IsClone (λ s t. string_bytes t ≡ string_bytes s) TextsCopied m n → features_view n ≡ features_view m
same_features m n h = same_list EntryCopied entry_view same_entry m.entries n.entries h

-- ---- versions and requirements

-- a copy of a version has the same pre-release identifier
same_pre : (v w : Version) (a b : Option (String Global)) → versions.is_clone (record v { pre = record { identifier = a } }) (record w { pre = record { identifier = b } })
    → pre_text (record { identifier = b }) ≡ pre_text (record { identifier = a })
same_pre v w None None h = refl
same_pre v w None (Some t) h = absurd h.1.1.1.0
same_pre v w (Some s) None h = absurd h.1.1.1.0
same_pre v w (Some s) (Some t) h = h.1.1.1.0

-- and the same build identifier
same_build : (v w : Version) (a b : Option (String Global)) → versions.is_clone (record v { build = record { identifier = a } }) (record w { build = record { identifier = b } })
    → build_text (record { identifier = b }) ≡ build_text (record { identifier = a })
same_build v w None None h = refl
same_build v w None (Some t) h = absurd h.1.1.1.1
same_build v w (Some s) None h = absurd h.1.1.1.1
same_build v w (Some s) (Some t) h = h.1.1.1.1

-- and the same parts
pub same_parts : (v w : Version) → versions.is_clone v w → parts_of w ≡ parts_of v
same_parts v w h = λ i. (h.0 i, h.1.0 i, h.1.1.0 i, same_pre v w v.pre.identifier w.pre.identifier h i, same_build v w v.build.identifier w.build.identifier h i)

-- a copy of a comparator has the same minor version
same_minor : (c d : Comparator) (a b : Option ℕ) → comparators.is_clone (record c { minor = a }) (record d { minor = b }) → b ≡ a
same_minor c d None None h = refl
same_minor c d None (Some y) h = absurd h.1.1.0
same_minor c d (Some x) None h = absurd h.1.1.0
same_minor c d (Some x) (Some y) h = ap (λ n. Some n) h.1.1.0

-- and the same patch
same_patch : (c d : Comparator) (a b : Option ℕ) → comparators.is_clone (record c { patch = a }) (record d { patch = b }) → b ≡ a
same_patch c d None None h = refl
same_patch c d None (Some y) h = absurd h.1.1.1.0
same_patch c d (Some x) None h = absurd h.1.1.1.0
same_patch c d (Some x) (Some y) h = ap (λ n. Some n) h.1.1.1.0

-- and the same pre-release identifier
same_compared : (c d : Comparator) (a b : Option (String Global)) → comparators.is_clone (record c { pre = record { identifier = a } }) (record d { pre = record { identifier = b } })
    → pre_text (record { identifier = b }) ≡ pre_text (record { identifier = a })
same_compared c d None None h = refl
same_compared c d None (Some t) h = absurd h.1.1.1.1
same_compared c d (Some s) None h = absurd h.1.1.1.1
same_compared c d (Some s) (Some t) h = h.1.1.1.1

same_comparator : (c d : Comparator) → comparators.is_clone c d → comparator_view d ≡ comparator_view c
same_comparator c d h = λ i. (h.0 i, h.1.0 i, same_minor c d c.minor d.minor h i, same_patch c d c.patch d.patch h i, same_compared c d c.pre.identifier d.pre.identifier h i)

-- a copy of a requirement has the same comparators
pub same_requirement : (r s : VersionReq) → requirements.is_clone r s → requirement_view s ≡ requirement_view r
same_requirement r s h = same_list comparators.is_clone comparator_view same_comparator r.comparators.items s.comparators.items h.0
