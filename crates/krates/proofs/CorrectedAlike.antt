-- Documents that differ only in order still do after they are corrected by the same answer of an index.
use Rattle.std.proofs.Common.{◌≡◌, List, Option, Some, None, refl, sym, ap, ◌∙◌, subst}
use Rattle.std.specs.Option.{option_or}
use Rattle.std.proofs.lemmas.List.Sorted.{IsPermutation-sym}
use Rattle.std.specs.List.{AllZip}
use Rattle.krates_cm.specs.Document.{Text, FeaturesModel, PackageModel, MetadataModel, metadata_view}
use Rattle.krates_cm.specs.declared.metadata.Metadata.{Metadata}
use Rattle.krates_ids.specs.Correction.{named, joined, Refers, IndexModel, IsIndexed, IsCorrection, IsCorrected, known, unknown, index_view, with_features}
use Rattle.krates_ids.specs.declared.index.IndexAnswer.{IndexAnswer}
use Rattle.krates_rules.specs.Reordering.{ReordersPackage, ReordersPackages, Reorders}
use Rattle.krates_document.specs.CorrectedDocument.{IsCorrectedDocument}
use Rattle.krates_document.proofs.CorrectedDocument.{views_corrected, rest_kept}
use Rattle.krates.specs.Indexed.{IsSeenBy}
use Rattle.krates.proofs.MovedLists.{moved_zip, zipped_through}

-- a package has only one correction, up to the order of its features
abbrev pub OneCorrection : Type 0
OneCorrection = (index : IndexModel) (before a b : PackageModel) → IsCorrected index before a → IsCorrected index before b
    → (b ≡ with_features a b.features) × ((name : Text) → named a.features name ≡ named b.features name)

-- ---- a package

indexed_same : (index : IndexModel) (a : PackageModel) (others features : FeaturesModel) → IsIndexed index (with_features a others) features → IsIndexed index a features
indexed_same index a others features h = record { source = h.source; versions = h.versions; has_crate = h.has_crate; version = h.version }

indexed_moved : (index : IndexModel) (a : PackageModel) (others features : FeaturesModel) → IsIndexed index a features → IsIndexed index (with_features a others) features
indexed_moved index a others features h = record { source = h.source; versions = h.versions; has_crate = h.has_crate; version = h.version }

joined_same : (a b index : FeaturesModel) → ((name : Text) → named a name ≡ named b name) → (name : Text) → joined a index name ≡ joined b index name
joined_same a b index same name = ap (λ x. option_or x (named index name)) (same name)

refers_same : (a b index : FeaturesModel) → ((name : Text) → named a name ≡ named b name) → (name : Text) → Refers (joined a index) name → Refers (joined b index) name
refers_same a b index same name h = record {
  feature = h.feature;
  values = h.values;
  is = sym (joined_same a b index same h.feature) ∙ h.is;
  among = h.among;
  plain = h.plain;
}

-- features with the same values have the same corrections
correction_same : (a b index corrected : FeaturesModel) → ((name : Text) → named a name ≡ named b name) → IsCorrection b index corrected → IsCorrection a index corrected
correction_same a b index corrected same h = record {
  has_joined = λ name values e. h.has_joined name values (sym (joined_same a b index same name) ∙ e);
  referred = λ name none r. h.referred name (sym (joined_same a b index same name) ∙ none) (refers_same a b index same name r);
  no_other = λ name none r. h.no_other name (sym (joined_same a b index same name) ∙ none) (λ x. r (refers_same b a index (λ n. sym (same n)) name x));
}

-- a correction of the one package, with the features that it gives, is a correction of the other
moved_correction : (index : IndexModel) (a c : PackageModel) (others : FeaturesModel) → ((name : Text) → named a.features name ≡ named others name) → IsCorrected index (with_features a others) c
    → (d : PackageModel) × IsCorrected index a d × ((name : Text) → named d.features name ≡ named c.features name) × (c ≡ with_features d c.features)
moved_correction index a c others same (unknown none is) =
    let one : IsCorrected index a a = unknown (λ features h. none features (indexed_moved index a others features h)) refl in
    let values : (name : Text) → named a.features name ≡ named c.features name = λ name. same name ∙ ap (λ (x : PackageModel). named x.features name) (sym is) in
    (a, one, values, is ∙ ap (λ (x : PackageModel). with_features a x.features) (sym is))
moved_correction index a c others same (known features h correction is) =
    let d : PackageModel = with_features a c.features in
    let one : IsCorrected index a d = known features (indexed_same index a others features h) (correction_same a.features others features c.features same correction) refl in
    (d, one, λ name. refl, is)

package_alike : OneCorrection → (index : IndexModel) (a b c d : PackageModel) → ReordersPackage a b → IsCorrected index a c → IsCorrected index b d → ReordersPackage c d
package_alike one index a b c d w x y =
    let m = moved_correction index a d b.features w.features (subst (λ (z : PackageModel). IsCorrected index z d) w.rest y) in
    let e = m.0 in
    let both = one index a c e x m.1 in
    record {
      features = λ name. both.1 name ∙ m.2 name;
      rest = m.3 ∙ ap (λ (z : PackageModel). with_features z d.features) both.0;
    }

-- ---- all packages

packages_alike : OneCorrection → (index : IndexModel) (xs ys us vs : List PackageModel) → ReordersPackages xs ys → AllZip (IsCorrected index) xs us → AllZip (IsCorrected index) ys vs → ReordersPackages us vs
packages_alike one index xs ys us vs w x y =
    let back = moved_zip (IsCorrected index) ys w.packages vs (IsPermutation-sym w.packages ys w.moved) y in
    let Both : PackageModel → PackageModel → Type 0 = λ b c. (a : PackageModel) × ReordersPackage a b × IsCorrected index a c in
    let joint : AllZip Both w.packages us = zipped_through ReordersPackage (IsCorrected index) Both xs w.packages us w.each x (λ a b c r s. (a, r, s)) in
    record {
      packages = back.list;
      each = zipped_through Both (IsCorrected index) ReordersPackage w.packages us back.list joint back.zip (λ b c d r s. package_alike one index r.0 b c d r.1 r.2 s);
      moved = IsPermutation-sym vs back.list back.moved;
    }

-- ---- the document

reorders_with : (m n : MetadataModel) (ps qs : List PackageModel) → Reorders m n → ReordersPackages ps qs → Reorders (record m { packages = ps }) (record n { packages = qs })
reorders_with m n ps qs w packages = record {
  packages = packages;
  members = w.members;
  resolve = w.resolve;
  rest = ap (λ (z : MetadataModel). record z { packages = qs }) w.rest;
}

corrected_alike : OneCorrection → (answer : IndexAnswer) (m n p q : Metadata) → Reorders (metadata_view m) (metadata_view n) → IsCorrectedDocument answer m p → IsCorrectedDocument answer n q → Reorders (metadata_view p) (metadata_view q)
corrected_alike one answer m n p q w x y =
    let packages = packages_alike one (index_view answer) (metadata_view m).packages (metadata_view n).packages (metadata_view p).packages (metadata_view q).packages w.packages (views_corrected answer m p x) (views_corrected answer n q y) in
    let r = reorders_with (metadata_view m) (metadata_view n) (metadata_view p).packages (metadata_view q).packages w packages in
    let first = subst (λ (z : MetadataModel). Reorders z (record (metadata_view n) { packages = (metadata_view q).packages })) (sym (rest_kept answer m p x)) r in
    subst (λ (z : MetadataModel). Reorders (metadata_view p) z) (sym (rest_kept answer n q y)) first

pub seen_alike : OneCorrection → (answer : Option IndexAnswer) (m n p q : Metadata) → Reorders (metadata_view m) (metadata_view n) → IsSeenBy answer m p → IsSeenBy answer n q → Reorders (metadata_view p) (metadata_view q)
seen_alike one None m n p q w x y = subst (λ (z : Metadata). Reorders (metadata_view p) (metadata_view z)) (sym y) (subst (λ (z : Metadata). Reorders (metadata_view z) (metadata_view n)) (sym x) w)
seen_alike one (Some answer) m n p q w x y = corrected_alike one answer m n p q w x y
