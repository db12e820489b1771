-- What a selection counts of each feature is what its references count in the outline.
use Rattle.std.proofs.Common.{◌≡◌, ℕ, Bool, List, [], ◌∷◌, length, map, max, refl, sym, ap, ◌∙◌, subst}
use Rattle.std.specs.List.{AllByRecursion, AllZip, sum}
use Rattle.krates_cm.specs.Document.{Text, PackageModel, text_view}
use Rattle.krates_ids.specs.Identity.{Identity}
use Rattle.krates_text.specs.FeatureReference.{Reference}
use Rattle.krates_text.specs.FeatureReference as references
use Rattle.krates_rules.specs.Admission.{NoneDoubled}
use Rattle.krates_rules.specs.Facts.{Id}
use Rattle.krates_rules.specs.Referent.{AreReferents}
use Rattle.krates_rules.specs.Resolved.{Resolved}
use Rattle.krates_rules.specs.Setting.{SettingModel}
use Rattle.krates_rules.proofs.OnlyOne.{one_package}
use Rattle.krates_questions.specs.FeatureTable.{values_of}
use Rattle.krates_selection.specs.Selection.{id_at, CountsName, CountsReference, CountsText, HasReferences}
use Rattle.krates_selection.specs.declared.work.Work.{Work}
use Rattle.krates_drawing.specs.Outline as model
use Rattle.krates_drawing.specs.Outline.{Meaning, IsFeatureRow, IsMeaning, Names}
use Rattle.krates_drawing.specs.Views.{feature_row_view}
use Rattle.krates_drawing.specs.WorkOfOutline.{times}
use Rattle.krates_drawing.specs.declared.outline.FeatureRow.{FeatureRow}
use Rattle.krates_drawing.proofs.OneOutline.{ReadsOneReference, crates_named, ids_same, own_named, strongly_named, weakly_named}

-- ---- one reference

name_times : (r : Resolved) (all : Bool) (i : Id) (name : Text) (ids : List Id) (n : ℕ) → AreReferents r all i name ids → CountsName r all i name n → n ≡ max (length ids) 1
name_times r all i name ids n are c = c.count ∙ ap (λ (is : List Id). max (length is) 1) (ids_same r r all i name c.ids ids (λ x. (λ h. h, λ h. h)) c.are are)

reference_times : (r : Resolved) (all : Bool) (i : Id) (reference : Reference) (m : Meaning) (n : ℕ) → Names r all i reference m → CountsReference r all i reference n → n ≡ times m
reference_times r all i (references.simple g) m n is c = c ∙ sym (ap times (own_named r all i g m is))
reference_times r all i (references.krate d) m n is c = let w = crates_named r all i d m is in name_times r all i d w.0 n w.2 c ∙ sym (ap times w.1)
reference_times r all i (references.strong d g) m n is c = let w = strongly_named r all i d g m is in name_times r all i d w.0 n w.2 c ∙ sym (ap times w.1)
reference_times r all i (references.weak d g) m n is c = let w = weakly_named r all i d g m is in name_times r all i d w.0 n w.2 c ∙ sym (ap times w.1)

texts_times : ReadsOneReference → (r : Resolved) (all : Bool) (i : Id) (texts : List Text) (counts : List ℕ) (ms : List Meaning) → AllZip (CountsText r all i) texts counts → AllZip (IsMeaning r all i) texts ms → counts ≡ map times ms
texts_times one r all i [] [] [] c h = refl
texts_times one r all i [] [] (m ∷ ms) c h = absurd h
texts_times one r all i [] (n ∷ ns) ms c h = absurd c
texts_times one r all i (t ∷ ts) [] ms c h = absurd c
texts_times one r all i (t ∷ ts) (n ∷ ns) [] c h = absurd h
texts_times one r all i (t ∷ ts) (n ∷ ns) (m ∷ ms) c h =
    let o = one t in
    let same : h.0.reference ≡ c.0.reference = o.only h.0.reference h.0.is ∙ sym (o.only c.0.reference c.0.is) in
    let first = reference_times r all i c.0.reference m n (subst (λ z. Names r all i z m) same h.0.names) c.0.counts in
    ap (λ z. z ∷ ns) first ∙ ap (λ zs. times m ∷ zs) (texts_times one r all i ts ns ms c.1 h.1)

-- ---- all features

feature_times : ReadsOneReference → (r : Resolved) (s : SettingModel) (n : model.FeatureRow) (k : ℕ) → NoneDoubled r.metadata r.graph → HasReferences r s n.krate n.name k → IsFeatureRow r s.all_named n → k ≡ sum (map times n.meanings)
feature_times one r s n k none c h =
    let same = one_package r n.krate c.pkg h.pkg none c.has_package h.has_package in
    let each = subst (λ (p : PackageModel). AllZip (CountsText r s.all_named n.krate) (values_of p.features n.name) c.counts) same c.each in
    c.count ∙ ap sum (texts_times one r s.all_named n.krate (values_of h.pkg.features n.name) c.counts n.meanings each h.meanings)

pub features_times : ReadsOneReference → (r : Resolved) (s : SettingModel) (kids : List Identity) → NoneDoubled r.metadata r.graph → (ns : List FeatureRow) (counts : List ℕ)
    → AllZip (λ f k. HasReferences r s (id_at kids f.krate) (text_view f.name) k) (map (λ (n : FeatureRow). n.feature) ns) counts → AllByRecursion (IsFeatureRow r s.all_named) (map (feature_row_view kids) ns)
    → counts ≡ map (λ (n : model.FeatureRow). sum (map times n.meanings)) (map (feature_row_view kids) ns)
features_times one r s kids none [] [] c h = refl
features_times one r s kids none [] (k ∷ ks) c h = absurd c
features_times one r s kids none (n ∷ ns) [] c h = absurd c
features_times one r s kids none (n ∷ ns) (k ∷ ks) c h =
    ap (λ z. z ∷ ks) (feature_times one r s (feature_row_view kids n) k none c.0 h.0)
    ∙ ap (λ zs. sum (map times (feature_row_view kids n).meanings) ∷ zs) (features_times one r s kids none ns ks c.1 h.1)

pub same_work : (k l f g n m : ℕ) → k ≡ l → f ≡ g → n ≡ m → (let w : Work = record { krates = k; features = f; references = n } in w) ≡ record { krates = l; features = g; references = m }
same_work k l f g n m a b c = rw (a, b, c) refl
