-- Kept edges, enabled features and toggled features with the numbers of their crates, in order.
use Rattle.std.proofs.Common.{◌≡◌, ◌↔◌, ◌&&◌, ◌==◌, ℕ, List, [], ◌∷◌, Bool, Some, Ordering, true, get_or, map, All, Contains, refl, sym, ap, ◌∙◌, subst, eqb-true}
use Rattle.std.proofs.lemmas.List.Elements.{All-contains}
use Rattle.std.proofs.lemmas.Option.{same_Some}
use Rattle.std.specs.List.{AllZip, IsDistinct, slice_get}
use Rattle.std.specs.List.Sorted.{IsPermutation, IsStrictlySortedBy}
use Rattle.krates_cm.specs.Document.{DepKindInfoModel, NodeDepModel, Text, text_view}
use Rattle.krates_ids.specs.Identity.{Identity}
use Rattle.krates_rules.proofs.Elements.{both, contains_image, contains_or, contains_source}
use Rattle.krates_rules.proofs.OnlyOne.{one_dep, place_in}
use Rattle.krates_rules.proofs.Readings.{ReadsOnce, left_of, right_of}
use Rattle.krates_rules.proofs.Standings.{contains_at}
use Rattle.krates_rules.specs.Admission.{NoneDoubled}
use Rattle.krates_rules.specs.Facts.{Edge, Feature, Id, Toggled}
use Rattle.krates_rules.specs.Questions.{edge_between, kind_info_of}
use Rattle.krates_rules.specs.Resolved.{HasDep, HasNode, NodeAt, Resolved}
use Rattle.krates_rules.specs.Setting.{SettingModel}
use Rattle.krates_questions.specs.Context.{document_of}
use Rattle.krates_questions.specs.FeatureTable.{listed_view, listed_features, FeatureAt}
use Rattle.krates_questions.specs.declared.context.Context.{Context}
use Rattle.krates_questions.specs.declared.feature_table.ListedFeature.{ListedFeature}
use Rattle.krates_selection.proofs.Steps.{one_feature as same_feature_at}
use Rattle.krates_selection.specs.KeptTables.{IsKeptNode, IsNumberAt, document_in, kids_in}
use Rattle.krates_selection.specs.Selection.{id_at, IsPlaced, IsPlacedAs, edge_view, feature_cmp, feature_fact, place_cmp, same_feature, same_text, toggled_cmp, toggled_fact}
use Rattle.krates_selection.specs.declared.kept_tables.KeptTables.{KeptTables}
use Rattle.krates_selection.specs.declared.selection.EnabledFeature.{EnabledFeature}
use Rattle.krates_selection.specs.declared.selection.KeptEdge.{KeptEdge}
use Rattle.krates_selection.specs.declared.selection.ToggledFeature.{ToggledFeature}
use Rattle.krates_search.proofs.KeptFeatures.{same_name}
use Rattle.krates_search.specs.Found.{found_toggled, found_view, IsFoundEdge}
use Rattle.krates_search.specs.KeptLists.{AreInOrder, AreSorted, AreToggled, HasKeptHome, IsCopyOf, IsFeatureOf, IsToggleCopy}
use Rattle.krates_search.specs.SearchState.{IsEnabled}
use Rattle.krates_search.specs.declared.found.FoundEdge.{FoundEdge}
use Rattle.krates_search.specs.declared.found.FoundToggle.{FoundToggle}

-- ---- copies, in order

-- what is kept are the copies, in order, one of those that are equal
pub record AreOrdered {B : Type 0} (cmp : B → B → Ordering) (eq : B → B → Bool) (copies kept : List B) : Type 0 where
  pub ascending : IsStrictlySortedBy cmp kept
  pub from : (k : B) → Contains kept k → Contains copies k
  pub each : (k : B) → Contains copies k → (l : B) × Contains kept l × (eq k l ≡ true)

-- what a copy is of
source_of : {A B : Type 0} (R : A → B → Type 0) (found : List A) (copies : List B) (k : B) → AllZip R found copies → Contains copies k → (f : A) × Contains found f × R f k
source_of R found copies k z c =
    let at = place_in copies k c in
    let f = left_of R found copies at.0 k z at.1 in
    (f.0, contains_at found at.0 f.0 f.1, f.2)

-- what says the same item by item says the same
same_images : {A B F : Type 0} (R : A → B → Type 0) (f : A → F) (g : B → F) (xs : List A) (ys : List B) → ((x : A) (y : B) → R x y → g y ≡ f x) → AllZip R xs ys → map g ys ≡ map f xs
same_images R f g [] [] h z = refl
same_images R f g [] (y ∷ ys) h z = absurd z
same_images R f g (x ∷ xs) [] h z = absurd z
same_images R f g (x ∷ xs) (y ∷ ys) h z = rw (h x y z.0, same_images R f g xs ys h z.1) refl

-- where equal ones say the same, what is kept says what the copies do
same_kept : {B F : Type 0} (g : B → F) (copies kept : List B) → ((k : B) → Contains kept k → Contains copies k) → ((k : B) → Contains copies k → (l : B) × Contains kept l × (g l ≡ g k)) → (x : F)
    → Contains (map g copies) x ↔ Contains (map g kept) x
same_kept g copies kept from each x = (
  λ c. (
      let k = contains_source g copies x c in
      let l = each k.0 k.1 in
      subst (Contains (map g kept)) (l.2 ∙ k.2) (contains_image g kept l.0 l.1)),
  λ c. (
      let k = contains_source g kept x c in
      subst (Contains (map g copies)) k.2 (contains_image g copies k.0 (from k.0 k.1))),
)

-- ---- edges: those at one place are one

one_edge : (r : Resolved) (s : SettingModel) (a b : Edge) (m n k l : ℕ) → NoneDoubled r.metadata r.graph → IsPlacedAs r s a m k → IsPlacedAs r s b n l → a.parent ≡ b.parent → a.child ≡ b.child → k ≡ l → b ≡ a
one_edge r s a b m n k l none x y parent child place =
    let da = x.declared.declares in
    let db = y.declared.declares in
    let la = da.lists in
    let lb = db.lists in
    let node = subst (λ (i : Id). HasNode r i lb.node) (sym parent) lb.has_node in
    let dep = subst (λ (i : Id). HasDep lb.node i db.dep) (sym child) lb.has_dep in
    let one = one_dep r a.parent a.child la.node lb.node da.dep db.dep none la.has_node node la.has_dep dep in
    let there = ap (λ (d : NodeDepModel). slice_get d.dep_kinds l) one ∙ y.place.here in
    let kind : kind_info_of a ≡ kind_info_of b = same_Some _ _ (sym x.place.here ∙ ap (λ n. slice_get da.dep.dep_kinds n) place ∙ there) in
    ap (λ (i : Id). edge_between i b.child (kind_info_of b)) (sym parent) ∙ ap (λ (i : Id). edge_between a.parent i (kind_info_of b)) (sym child)
    ∙ ap (λ (z : DepKindInfoModel). edge_between a.parent a.child z) (sym kind)

-- whether edges have the same crates and place
abbrev pub same_place : KeptEdge → KeptEdge → Bool
same_place a b = (a.parent == b.parent) && ((a.child == b.child) && (a.place == b.place))

one_kept : (b : Context) (kids : List Identity) (f g : FoundEdge) (k l : KeptEdge) → NoneDoubled (document_of b).metadata (document_of b).graph → IsFoundEdge b f → IsFoundEdge b g → IsCopyOf kids f k → IsCopyOf kids g l → same_place k l ≡ true
    → found_view g ≡ found_view f
one_kept b kids f g k l none x y p q same =
    let outer = both (k.parent == l.parent) _ same in
    let inner = both (k.child == l.child) _ outer.1 in
    let parents : id_at kids k.parent ≡ id_at kids l.parent = ap (id_at kids) (eqb-true k.parent l.parent outer.0) in
    let children : id_at kids k.child ≡ id_at kids l.child = ap (id_at kids) (eqb-true k.child l.child inner.0) in
    let parent = sym (ap (λ (e : Edge). e.parent) p.edge) ∙ parents ∙ ap (λ (e : Edge). e.parent) q.edge in
    let child = sym (ap (λ (e : Edge). e.child) p.edge) ∙ children ∙ ap (λ (e : Edge). e.child) q.edge in
    let place = sym p.place ∙ eqb-true k.place l.place inner.1 ∙ q.place in
    one_edge (document_of b) b.setting.now (found_view f) (found_view g) f.declared g.declared f.place g.place none x.placed y.placed parent child place

-- the kept edges are in order
pub kept_in_order : (b : Context) (kids : List Identity) (found : List FoundEdge) (copies kept : List KeptEdge) → NoneDoubled (document_of b).metadata (document_of b).graph → All (IsFoundEdge b) found → AllZip (IsCopyOf kids) found copies
    → AreOrdered place_cmp same_place copies kept → AreInOrder b kids found kept
kept_in_order b kids found copies kept none right copied o = record {
  same = λ e. subst (λ es. Contains es e ↔ Contains (map (edge_view kids) kept) e) (same_images (IsCopyOf kids) found_view (edge_view kids) found copies (λ f k is. is.edge) copied) (same_kept (edge_view kids) copies kept o.from each e);
  ascending = o.ascending;
  ends = λ k z lt. (source (get_or kept k z) (o.from _ (contains_or kept k z lt))).2.ends;
  placed = λ k z lt. placed (get_or kept k z) (o.from _ (contains_or kept k z lt));
}
  where
    source : (k : KeptEdge) → Contains copies k → (f : FoundEdge) × Contains found f × IsCopyOf kids f k
    source k c = source_of (IsCopyOf kids) found copies k copied c

    each : (k : KeptEdge) → Contains copies k → (l : KeptEdge) × Contains kept l × (edge_view kids l ≡ edge_view kids k)
    each k c =
        let l = o.each k c in
        let f = source k c in
        let g = source l.0 (o.from l.0 l.1) in
        let one = one_kept b kids f.0 g.0 k l.0 none (All-contains (IsFoundEdge b) found f.0 right f.1) (All-contains (IsFoundEdge b) found g.0 right g.1) f.2 g.2 l.2 in
        (l.0, l.1, g.2.edge ∙ one ∙ sym f.2.edge)

    placed : (e : KeptEdge) → Contains copies e → IsPlaced (document_of b) b.setting.now kids e
    placed e c =
        let f = source e c in
        let there = (All-contains (IsFoundEdge b) found f.0 right f.1).placed in
        let first = subst (IsPlacedAs (document_of b) b.setting.now (found_view f.0) f.0.declared) (sym f.2.place) there in
        let declared = subst (λ (n : ℕ). IsPlacedAs (document_of b) b.setting.now (found_view f.0) n e.place) (sym f.2.declared) first in
        subst (λ (x : Edge). IsPlacedAs (document_of b) b.setting.now x e.declared e.place) (sym f.2.edge) declared

-- ---- features: those that compare as equal are the same

one_feature : (kids : List Identity) (a b : EnabledFeature) → same_feature a b ≡ true → feature_fact kids b ≡ feature_fact kids a
one_feature kids a b same =
    let parts = both (a.krate == b.krate) _ same in
    let krate : id_at kids a.krate ≡ id_at kids b.krate = ap (id_at kids) (eqb-true a.krate b.krate parts.0) in
    let name = same_name a.name b.name parts.1 in
    ap (λ (i : Id). Feature i (text_view b.name)) (sym krate) ∙ ap (λ (t : Text). Feature (id_at kids a.krate) t) (sym name)

-- the enabled features are exactly those of the numbers
enabled_told : ReadsOnce → (b : Context) (kids : List Identity) (numbers : List ℕ) (list : List EnabledFeature) → AllZip (IsFeatureOf b kids) numbers list → (i : Id) (f : Text)
    → IsEnabled b numbers i f ↔ Contains (map (feature_fact kids) list) (Feature i f)
enabled_told once b kids numbers list z i f = (
  λ e. (
      let at = place_in numbers e.number e.among in
      let x = right_of (IsFeatureOf b kids) numbers list at.0 e.number z at.1 in
      let one = same_feature_at once (document_of b) (id_at kids x.0.krate) i (text_view x.0.name) f e.number x.2.at e.at in
      let fact : feature_fact kids x.0 ≡ Feature i f = rw (one.0, one.1) refl in
      subst (Contains (map (feature_fact kids) list)) fact (contains_image (feature_fact kids) list x.0 (contains_at list at.0 x.0 x.1))),
  λ c. (
      let x = contains_source (feature_fact kids) list (Feature i f) c in
      let n = source_of (IsFeatureOf b kids) numbers list x.0 z x.1 in
      let krate : id_at kids x.0.krate ≡ i = cc in
      let name : text_view x.0.name ≡ f = cc in
      record { number = n.0; among = n.1; at = subst (λ j. FeatureAt (document_of b) j f n.0) krate (subst (λ g. FeatureAt (document_of b) (id_at kids x.0.krate) g n.0) name n.2.at) }),
)

-- the features are those of the numbers, in order
pub features_sorted : ReadsOnce → (b : Context) (kids : List Identity) (found : List ℕ) (enabled kept : List EnabledFeature) → AllZip (IsFeatureOf b kids) found enabled → (IsDistinct same_feature enabled → IsPermutation enabled kept)
    → AreOrdered feature_cmp same_feature enabled kept → AreSorted b kids found kept
features_sorted once b kids found enabled kept numbered whole o = record {
  each = λ i f. (
      let told = enabled_told once b kids found enabled numbered i f in
      let same = same_kept (feature_fact kids) enabled kept o.from each (Feature i f) in
      (λ e. same.0 (told.0 e), λ c. told.1 (same.1 c)));
  enabled = enabled;
  numbered = numbered;
  whole = whole;
  homes = λ k z lt. (source_of (IsFeatureOf b kids) found enabled (get_or kept k z) numbered (o.from _ (contains_or kept k z lt))).2.home;
  ascending = o.ascending;
}
  where
    each : (f : EnabledFeature) → Contains enabled f → (g : EnabledFeature) × Contains kept g × (feature_fact kids g ≡ feature_fact kids f)
    each f c = let g = o.each f c in (g.0, g.1, one_feature kids f g.0 g.2)

-- the crate of a listed feature is kept where that of its number is
pub home_kept : (t : KeptTables) (number : ℕ) (x : ListedFeature) → slice_get (listed_features (document_in t)) number ≡ Some (listed_view x) → HasKeptHome t.context (kids_in t) number → IsKeptNode t x.place.index
home_kept t number x there k =
    let r = document_in t in
    let same : (k.at.place, k.name) ≡ (x.place.index, x.name.now) = same_Some (k.at.place, k.name) (x.place.index, x.name.now) (sym k.at.at ∙ there) in
    record { krate = k.krate; node = subst (NodeAt r k.krate) (ap (λ (p : ℕ × Text). p.0) same) k.at.node; kept = k.kept }

-- the feature with the crate's number and the listed name is that of the number
pub feature_here : (t : KeptTables) (number : ℕ) (x : ListedFeature) (y : EnabledFeature) → slice_get (listed_features (document_in t)) number ≡ Some (listed_view x) → (k : IsKeptNode t x.place.index)
    → IsNumberAt t x.place.index y.krate → text_view y.name ≡ x.name.now → IsFeatureOf t.context (kids_in t) number y
feature_here t number x y there k n name =
    let r = document_in t in
    let kids = kids_in t in
    let node = subst (λ (i : Id). NodeAt r i x.place.index) (sym (n.is k.krate k.node)) k.node in
    let at : FeatureAt r (id_at kids y.krate) x.name.now number = record { place = x.place.index; at = there; node = node } in
    record { at = subst (λ (f : Text). FeatureAt r (id_at kids y.krate) f number) (sym name) at; home = n.below }

-- ---- toggled features

-- whether toggled features are equal
abbrev pub same_toggled : ToggledFeature → ToggledFeature → Bool
same_toggled a b = (a.by == b.by) && ((a.krate == b.krate) && same_text a.name b.name)

-- equal ones are one fact
one_toggled : (kids : List Identity) (a b : ToggledFeature) → same_toggled a b ≡ true → toggled_fact kids b ≡ toggled_fact kids a
one_toggled kids a b same =
    let outer = both (a.by == b.by) _ same in
    let inner = both (a.krate == b.krate) _ outer.1 in
    let by : id_at kids a.by ≡ id_at kids b.by = ap (id_at kids) (eqb-true a.by b.by outer.0) in
    let krate : id_at kids a.krate ≡ id_at kids b.krate = ap (id_at kids) (eqb-true a.krate b.krate inner.0) in
    let name = same_name a.name b.name inner.1 in
    ap (λ (i : Id). Toggled i (id_at kids b.krate) (text_view b.name)) (sym by) ∙ ap (λ (i : Id). Toggled (id_at kids a.by) i (text_view b.name)) (sym krate)
    ∙ ap (λ (t : Text). Toggled (id_at kids a.by) (id_at kids a.krate) t) (sym name)

-- the kept ones are those that were found, in order
pub toggled_in_order : (kids : List Identity) (found : List FoundToggle) (copies kept : List ToggledFeature) → AllZip (IsToggleCopy kids) found copies → AreOrdered toggled_cmp same_toggled copies kept → AreToggled kids found kept
toggled_in_order kids found copies kept copied o = record {
  same = λ f. subst (λ fs. Contains fs f ↔ Contains (map (toggled_fact kids) kept) f) (same_images (IsToggleCopy kids) found_toggled (toggled_fact kids) found copies (λ t k is. is.fact) copied) (same_kept (toggled_fact kids) copies kept o.from each f);
  ascending = o.ascending;
  crates = λ k z lt. (source_of (IsToggleCopy kids) found copies (get_or kept k z) copied (o.from _ (contains_or kept k z lt))).2.crates;
}
  where
    each : (k : ToggledFeature) → Contains copies k → (l : ToggledFeature) × Contains kept l × (toggled_fact kids l ≡ toggled_fact kids k)
    each k c = let l = o.each k c in (l.0, l.1, one_toggled kids k l.0 l.2)
