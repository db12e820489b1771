-- What is gathered from a selection is its outline.
use Rattle.std.proofs.Common.{IsTrue, ◌≡◌, ◌↔◌, Bool, inl, inr, ℕ, Contains, ◌++◌, zero, suc, ◌<◌, List, [], ◌∷◌, All, get_or, length, map, None, Option, Some, option_map, slice_get, refl, sym, ap, ◌∙◌, subst, arith}
use Rattle.std.proofs.lemmas.List.{get_or-map, length-map}
use Rattle.std.proofs.lemmas.Option.{get_or_from_slice_get, same_Some, slice_get-get_or, slice_get-map, slice_get_within}
use Rattle.std.proofs.lemmas.Simd.{map-map}
use Rattle.std.proofs.lemmas.List.Elements.{All-contains, All-contains_itself, All-from_recursion, All-weaker, Contains-append_left}
use Rattle.std.specs.Global.{Vec}
use Rattle.std.specs.Iterator.{Yields}
use Rattle.std.specs.declared.vec.IntoIter.{IntoIter}
use Rattle.std.proofs.IntoIterSteps.{takes, taken}
use Rattle.std.proofs.lemmas.Iterator.{YieldsList}
use Rattle.std.proofs.lemmas.Iterator.Consumers.{YieldsList-turn}
use Rattle.std.specs.List.{AllByRecursion, AllZip, sum}
use Rattle.std.specs.List.Sorted.{IsStrictlySortedBy}
use Rattle.krates_cm.specs.Document.{NodeModel, PackageModel, Text, node_view, package_view, text_view}
use Rattle.krates_ids.specs.Identity.{Identity, id_cmp}
use Rattle.krates_questions.specs.FeatureTable.{values_of}
use Rattle.krates_rules.specs.Admission.{NoneDoubled}
use Rattle.krates_rules.specs.DeclaredDependency.{dependency_entry}
use Rattle.krates_rules.specs.Derivation.{Derivable}
use Rattle.krates_rules.specs.Facts.{Id, Fact, Crate, Feature, Kept, Toggled}
use Rattle.krates_rules.specs.Questions.{kind_info_of, questions}
use Rattle.krates_rules.specs.Resolved.{Resolved, id_of, HasNode, HasPackage}
use Rattle.krates_selection.specs.Selection.{HasCrates, HasEnds, HasHome, id_at, edge_view, IsPlaced, IsSelection, crate_fact, edge_fact, facts_of, feature_fact, place_cmp, feature_cmp, HasReferences, counted}
use Rattle.krates_rules.specs.Setting.{SettingModel}
use Rattle.krates_selection.specs.declared.selection.EnabledFeature.{EnabledFeature}
use Rattle.krates_selection.specs.declared.selection.KeptEdge.{KeptEdge}
use Rattle.krates_selection.specs.declared.selection.Selection.{Selection}
use Rattle.krates_drawing.specs.Gathered.{IsBetween, IsEdgeWith, IsFeatureWith, IsRecordOf, Stands, row_in}
use Rattle.krates_drawing.specs.Outline as model
use Rattle.krates_drawing.specs.Outline.{IsCrateRow, IsEdgeRow, IsMeaning, IsFeatureRow, IsOutline, enabled_order, link_order, outlined_facts, toggle_order}
use Rattle.krates_drawing.specs.WorkOfOutline.{work_of}
use Rattle.krates_drawing.specs.InOrder.{AreInOrder}
use Rattle.krates_drawing.specs.Views.{kids_of, crate_row_view, edge_row_view, meaning_view, feature_row_view, toggle_of}
use Rattle.krates_drawing.specs.declared.outline.CrateRow.{CrateRow}
use Rattle.krates_drawing.specs.declared.outline.EdgeRow.{EdgeRow}
use Rattle.krates_drawing.specs.declared.outline.FeatureRow.{FeatureRow}
use Rattle.krates_drawing.specs.declared.gather.CrateRecord.{CrateRecord}
use Rattle.krates_document.proofs.DeclaredOnce.{declared_stands}
use Rattle.krates_drawing.proofs.Derivations.{kept_stands}
use Rattle.krates_text.specs.Texts.{has_text}
use Rattle.krates_rules.specs.Features.{ListsFeature}
use Rattle.krates_drawing.proofs.Closed.{text_has, text_there}
use Rattle.krates_drawing.proofs.Tests.{bools_same}
use Rattle.krates_drawing.proofs.ById.{crates_sorted, features_sorted, links_sorted, toggles_sorted}
use Rattle.krates_drawing.proofs.OneOutline.{ReadsOneReference}
use Rattle.krates_drawing.proofs.WorkOfOutline.{features_times, same_work}
use Rattle.krates_rules.proofs.Members.{Member, contains_of, member_map, member_of}
use Rattle.krates_rules.proofs.Zips.{all_taken}
use Rattle.krates_rules.proofs.OnlyOne.{one_node, one_package}

-- ---- what is read at places

-- the record that is read at a place is the one that is there
pub record_read : (records : List CrateRecord) (n : ℕ) (there read : CrateRecord) → slice_get records n ≡ Some there → read ≡ get_or records n read → read ≡ there
record_read records n there read at is = is ∙ get_or_from_slice_get records n there read at

-- and what is seen of an item is what is there as it is seen
pub seen_read : {A B : Type 0} (see : A → B) (xs : List A) (n : ℕ) (read : A) (there : B) → slice_get (map see xs) n ≡ Some there → read ≡ get_or xs n read → see read ≡ there
seen_read see xs n read there at is =
    let within : n < length xs = omega (arith, length-map xs see, slice_get_within (map see xs) n there at) in
    let here = slice_get-map see xs n ∙ ap (option_map see) (slice_get-get_or xs n read within) in
    ap see is ∙ same_Some (see (get_or xs n read)) there (sym here ∙ at)

-- ---- what is gathered

-- the rows of a selection, with the records of its crates
pub record AreGathered (r : Resolved) (s : SettingModel) (x : Selection) (records : List CrateRecord) (ks : List CrateRow) (ls : List EdgeRow) (fs : List FeatureRow) : Type 0 where
  pub each : AllZip (IsRecordOf r) x.krates.items records
  pub krates : ks ≡ map row_in records
  pub links : AllZip (IsEdgeWith r records) x.edges.items ls
  pub features : AllZip (IsFeatureWith r s.all_named records) x.features.items fs

-- what each call gives about the records that it reads is about those of the selection
pub gathered_by_reading : (r : Resolved) (s : SettingModel) (x : Selection) (records : List CrateRecord) (ks : List CrateRow) (ls : List EdgeRow) (fs : List FeatureRow)
    → {edges_from named_from : List CrateRecord} → edges_from ≡ records → named_from ≡ records
    → AllZip (IsRecordOf r) x.krates.items records → ks ≡ map row_in records
    → AllZip (IsEdgeWith r edges_from) x.edges.items ls → AllZip (IsFeatureWith r s.all_named named_from) x.features.items fs → AreGathered r s x records ks ls fs
gathered_by_reading r s x records ks ls fs from_read named_read each krates links features = record {
  each = each;
  krates = krates;
  links = subst (λ (xs : List CrateRecord). AllZip (IsEdgeWith r xs) x.edges.items ls) from_read links;
  features = subst (λ (xs : List CrateRecord). AllZip (IsFeatureWith r s.all_named xs) x.features.items fs) named_read features;
}

-- what holds of each item of an owned list holds of the one that a loop takes
pub at_turn : {X A : Type 0} (P : X → Type 0) (xs : List X) (start last rest : IntoIter X A) (yielded : List X) (next : Option X) (x : X)
    → All P xs → start.rest.items ≡ xs → Yields takes start yielded last → next ≡ Some x → takes last next rest → P x
at_turn {X} P xs start last rest yielded next x all all_of so_far some step =
    let road : YieldsList takes (λ (x : X). x) start start.rest.items = record { runs = taken start } in
    let turn = YieldsList-turn road yielded last so_far next rest x some step in
    subst P (sym turn.1) (subst (All P) (sym all_of) all (length yielded) x turn.0)

-- and a loop that has taken all items has a row for each
pub all_rows : {X Y A : Type 0} (R : X → Y → Type 0) (xs : List X) (ys : List Y) (start last rest : IntoIter X A) (yielded : List X) (next : Option X)
    → start.rest.items ≡ xs → Yields takes start yielded last → next ≡ None → takes last next rest → AllZip R yielded ys → AllZip R xs ys
all_rows R xs ys start last rest yielded next all_of so_far none ends rows = subst (λ zs. AllZip R zs ys) (all_taken start last rest yielded next so_far none ends ∙ all_of) rows

-- ---- what is asked of the document

-- whether a crate lists a feature is whether its node has it
pub lists_text : (r : Resolved) (i : Id) (n : NodeModel) (f : Text) (b : Bool) → NoneDoubled r.metadata r.graph → HasNode r i n → (IsTrue b ↔ ListsFeature r i f) → b ≡ has_text n.features f
lists_text r i n f b none h w = bools_same b (has_text n.features f)
    (λ e. let l = w.0 e in text_has n.features f (subst (λ (m : NodeModel). Member m.features f) (one_node r i l.node n none l.has_node h) (member_of l.node.features f l.among)))
    (λ e. w.1 (record { node = n; has_node = h; among = contains_of n.features f (text_there n.features f e) }))

-- ---- what the document has for the crate of a number

record RecordAt (r : Resolved) (kids : List Identity) (records : List CrateRecord) (n : ℕ) : Type 0 where
  here : CrateRecord
  at : slice_get records n ≡ Some here
  krate : id_of here.krate ≡ id_at kids n
  pkg : HasPackage r (id_of here.krate) (package_view here.pkg.now)
  node : HasNode r (id_of here.krate) (node_view here.node.now)

record_at : (r : Resolved) (kids : List Identity) (records : List CrateRecord) (n : ℕ) → AllZip (IsRecordOf r) kids records → n < length kids → RecordAt r kids records n
record_at r [] ts n z lt = absurd (omega (arith, lt))
record_at r (i ∷ is) [] n z lt = absurd z
record_at r (i ∷ is) (t ∷ ts) zero z lt = record { here = t; at = refl; krate = ap id_of z.0.krate; pkg = z.0.pkg; node = z.0.node }
record_at r (i ∷ is) (t ∷ ts) (suc n) z lt =
    let w = record_at r is ts n z.1 (omega (arith, lt)) in
    record { here = w.here; at = w.at; krate = w.krate; pkg = w.pkg; node = w.node }

-- ---- one element

-- the declared dependency of an edge is at its place in the list of the parent's package
at_place : (r : Resolved) (s : SettingModel) (kids : List Identity) (e : KeptEdge) (w : IsPlaced r s kids e) (p : PackageModel) → NoneDoubled r.metadata r.graph → HasPackage r (id_at kids e.parent) p
    → slice_get p.dependencies e.declared ≡ Some w.dependency
at_place r s kids e w p none h =
    let a = w.declared.declares in
    let same = one_package r (id_at kids e.parent) a.pkg p none a.has_package h in
    subst (λ (z : PackageModel). slice_get z.dependencies e.declared ≡ Some w.dependency) same
    (declared_stands a.pkg.dependencies (dependency_entry (id_at kids e.child) a.dep) (kind_info_of (edge_view kids e)) e.declared w.dependency a.declared)

-- an edge of the selection is between recorded crates
between_of : (r : Resolved) (s : SettingModel) (kids : List Identity) (records : List CrateRecord) (e : KeptEdge) → NoneDoubled r.metadata r.graph → AllZip (IsRecordOf r) kids records → HasEnds (length kids) e → IsPlaced r s kids e → IsBetween r records e
between_of r s kids records e none z ends w =
    let parent = record_at r kids records e.parent z ends.parent in
    let child = record_at r kids records e.child z ends.child in
    let has = subst (λ (i : Id). HasPackage r i (package_view parent.here.pkg.now)) parent.krate parent.pkg in
    record {
      parent = parent.here;
      at_parent = parent.at;
      dependency = w.dependency;
      declared = at_place r s kids e w (package_view parent.here.pkg.now) none has;
      child = child.here;
      at_child = child.at;
      node = child.node;
    }

link_recorded : (r : Resolved) (s : SettingModel) (kids : List Identity) (records : List CrateRecord) (e : KeptEdge) (l : EdgeRow) → NoneDoubled r.metadata r.graph → AllZip (IsRecordOf r) kids records → HasEnds (length kids) e → IsPlaced r s kids e
    → IsEdgeWith r records e l → IsEdgeRow r s (edge_row_view kids l)
unfolding between_of
link_recorded r s kids records e l none z ends w is =
    let child = record_at r kids records e.child z ends.child in
    let row : KeptEdge → model.EdgeRow = λ z. record { edge = edge_view kids z; place = z.declared; first = z.place; given = map text_view l.given.items } in
    let here : IsEdgeRow r s (row e) = record {
      placed = w;
      node = node_view child.here.node.now;
      has_node = subst (λ (i : Id). HasNode r i (node_view child.here.node.now)) child.krate child.node;
      given = is.given (between_of r s kids records e none z ends w);
    } in
    subst (λ (z : KeptEdge). IsEdgeRow r s (row z)) (sym is.edge) here

named_recorded : (r : Resolved) (all : Bool) (kids : List Identity) (records : List CrateRecord) (f : EnabledFeature) (n : FeatureRow) → AllZip (IsRecordOf r) kids records → HasHome (length kids) f
    → IsFeatureWith r all records f n → IsFeatureRow r all (feature_row_view kids n)
named_recorded r all kids records f n z home h =
    let here = record_at r kids records f.krate z home in
    let p = package_view here.here.pkg.now in
    let told = map meaning_view n.meanings.items in
    let row : EnabledFeature → model.FeatureRow = λ z. record { krate = id_at kids z.krate; name = text_view z.name; meanings = told } in
    let row_here : IsFeatureRow r all (row f) = record {
      pkg = p;
      has_package = subst (λ (i : Id). HasPackage r i p) here.krate here.pkg;
      meanings = subst (λ i. AllZip (IsMeaning r all i) (values_of p.features (text_view f.name)) told) here.krate (h.meanings here.here here.at);
    } in
    subst (λ (z : EnabledFeature). IsFeatureRow r all (row z)) (sym h.feature) row_here

-- ---- whole lists

-- what is seen of the rows of a list
seen_rows : {A B D : Type 0} (R : A → B → Type 0) (Q : D → Type 0) (view : B → D) (xs : List A) (ys : List B) → ((x : A) (y : B) → Member xs x → R x y → Q (view y)) → AllZip R xs ys → AllByRecursion Q (map view ys)
seen_rows R Q view [] [] h z = tt
seen_rows R Q view [] (y ∷ ys) h z = absurd z
seen_rows R Q view (x ∷ xs) [] h z = absurd z
seen_rows R Q view (x ∷ xs) (y ∷ ys) h z = (h x y (inl refl) z.0, seen_rows R Q view xs ys (λ a b m. h a b (inr m)) z.1)

-- rows of these items are rows of the list
rows_of : {A B : Type 0} (R : A → B → Type 0) (back : B → A) (xs : List A) (ys : List B) → ((x : A) (y : B) → R x y → back y ≡ x) → AllZip R xs ys → map back ys ≡ xs
rows_of R back [] [] h z = refl
rows_of R back [] (y ∷ ys) h z = absurd z
rows_of R back (x ∷ xs) [] h z = absurd z
rows_of R back (x ∷ xs) (y ∷ ys) h z = ap (λ a. a ∷ map back ys) (h x y z.0) ∙ ap (λ rest. x ∷ rest) (rows_of R back xs ys h z.1)

-- ---- what a kept crate has

stands : (r : Resolved) (s : SettingModel) (i : Identity) → Derivable (questions r s) (Crate (id_of i)) → Stands r i
unfolding questions
stands r s i d = let w = kept_stands (questions r s) (id_of i) d in (λ none. none w.included.pkg w.included.has_package, λ none. none w.node w.has_node)

-- each crate of a selection
pub each_stands : (r : Resolved) (s : SettingModel) (x : Selection) → IsSelection r s x → All (Stands r) x.krates.items
each_stands r s x h = All-weaker (Contains x.krates.items) (Stands r) (λ i among.
    let told = member_map crate_fact x.krates.items i (member_of x.krates.items i among) in
    stands r s i ((h.facts (crate_fact i)).1 (Contains-append_left (map crate_fact x.krates.items) _ (crate_fact i) (contains_of (map crate_fact x.krates.items) (crate_fact i) told)))) x.krates.items (All-contains_itself x.krates.items)

-- ---- the outline

-- what holds under a view holds of what is seen
all_under : {A B : Type 0} (f : A → B) (P : B → Type 0) (xs : List A) → All P (map f xs) → All (λ x. P (f x)) xs
all_under f P xs h k d lt = subst P (get_or-map f xs k d (f d) lt) (h k (f d) (rw length-map lt))

four : (a b c d e f g h : List Fact) → a ≡ e → b ≡ f → c ≡ g → d ≡ h → a ++ (b ++ (c ++ d)) ≡ e ++ (f ++ (g ++ h))
four a b c d e f g h p q u v = rw (p, q, u, v) refl

-- each edge of a selection is between its recorded crates, and each feature is one of them
pub edges_between : (r : Resolved) (s : SettingModel) (x : Selection) (records : List CrateRecord) → NoneDoubled r.metadata r.graph → IsSelection r s x → AllZip (IsRecordOf r) x.krates.items records → All (IsBetween r records) x.edges.items
edges_between r s x records none h z = λ k d lt. between_of r s x.krates.items records _ none z (h.ends k d lt) (h.placed k d lt)

pub features_home : (r : Resolved) (s : SettingModel) (x : Selection) (records : List CrateRecord) → IsSelection r s x → AllZip (IsRecordOf r) x.krates.items records → All (HasHome (length records)) x.features.items
features_home r s x records h z = subst (λ n. All (HasHome n) x.features.items) (sym (ap length (rows_of (IsRecordOf r) (λ (t : CrateRecord). t.krate) x.krates.items records (λ i t is. is.krate) z)) ∙ length-map records (λ (t : CrateRecord). t.krate)) h.homes

module _ (r : Resolved) (s : SettingModel) (x : Selection) (records : List CrateRecord) (ks : Vec CrateRow) (ls : Vec EdgeRow) (fs : Vec FeatureRow) (h : IsSelection r s x) (w : AreGathered r s x records ks.items ls.items fs.items) where
  pub same_kids : kids_of ks.items ≡ x.krates.items
  same_kids = ap kids_of w.krates ∙ map-map (λ (k : CrateRow). k.id) row_in records ∙ rows_of (IsRecordOf r) (λ (t : CrateRecord). t.krate) x.krates.items records (λ i t is. is.krate) w.each

  same_edges : map (λ (l : EdgeRow). l.edge) ls.items ≡ x.edges.items
  same_edges = rows_of (IsEdgeWith r records) (λ (l : EdgeRow). l.edge) x.edges.items ls.items (λ e l is. is.edge) w.links

  same_features : map (λ (n : FeatureRow). n.feature) fs.items ≡ x.features.items
  same_features = rows_of (IsFeatureWith r s.all_named records) (λ (n : FeatureRow). n.feature) x.features.items fs.items (λ f n is. is.feature) w.features

  as_many : length x.krates.items ≡ length ks.items
  as_many = sym (ap length same_kids) ∙ length-map ks.items (λ (k : CrateRow). k.id)

  -- ---- the order of the outline

  pub ordered : AreInOrder ks ls fs x.toggled
  ordered = record {
    krates = subst (IsStrictlySortedBy id_cmp) (sym same_kids) h.krates;
    links = subst (IsStrictlySortedBy place_cmp) (sym same_edges) h.edges;
    ends = subst (λ n. All (λ (l : EdgeRow). HasEnds n l.edge) ls.items) as_many
        (all_under (λ (l : EdgeRow). l.edge) (HasEnds (length x.krates.items)) ls.items (subst (All (HasEnds (length x.krates.items))) (sym same_edges) h.ends));
    features = subst (IsStrictlySortedBy feature_cmp) (sym same_features) h.features;
    homes = subst (λ k. All (λ (n : FeatureRow). HasHome k n.feature) fs.items) as_many
        (all_under (λ (n : FeatureRow). n.feature) (HasHome (length x.krates.items)) fs.items (subst (All (HasHome (length x.krates.items))) (sym same_features) h.homes));
    toggled = h.toggled;
    toggled_crates = subst (λ n. All (HasCrates n) x.toggled.items) as_many h.toggled_crates;
  }

  -- ---- what it says

  -- the outline, where the crates have these ids
  abbrev pub view : List Identity → model.Outline
  view ids = record {
    krates = map crate_row_view ks.items;
    links = map (edge_row_view ids) ls.items;
    features = map (feature_row_view ids) fs.items;
    toggled = map (toggle_of ids) x.toggled.items;
  }

  -- it says what the selection says
  same_facts : outlined_facts (view x.krates.items) ≡ facts_of x
  same_facts = four _ _ _ _ _ _ _ _
      (map-map (λ (k : model.CrateRow). Crate k.id) crate_row_view ks.items ∙ (sym (map-map crate_fact (λ (k : CrateRow). k.id) ks.items) ∙ ap (map crate_fact) same_kids))
      (map-map (λ (l : model.EdgeRow). Kept l.edge) (edge_row_view x.krates.items) ls.items ∙ (sym (map-map (edge_fact x.krates.items) (λ (l : EdgeRow). l.edge) ls.items) ∙ ap (map (edge_fact x.krates.items)) same_edges))
      (map-map (λ (n : model.FeatureRow). Feature n.krate n.name) (feature_row_view x.krates.items) fs.items ∙ (sym (map-map (feature_fact x.krates.items) (λ (n : FeatureRow). n.feature) fs.items) ∙ ap (map (feature_fact x.krates.items)) same_features))
      (map-map (λ (g : model.Toggle). Toggled g.by g.krate g.name) (toggle_of x.krates.items) x.toggled.items)

  told : (f : Fact) → Derivable (questions r s) f ↔ Contains (outlined_facts (view x.krates.items)) f
  told = subst (λ fs. (f : Fact) → Derivable (questions r s) f ↔ Contains fs f) (sym same_facts) h.facts

  -- ---- the lists with what is beside them

  krates_made : AllByRecursion (IsCrateRow r) (map crate_row_view ks.items)
  krates_made =
      let rows : map crate_row_view ks.items ≡ map (λ (t : CrateRecord). crate_row_view (row_in t)) records = ap (map crate_row_view) w.krates ∙ map-map crate_row_view row_in records in
      subst (AllByRecursion (IsCrateRow r)) (sym rows) (seen_rows (IsRecordOf r) (IsCrateRow r) (λ (t : CrateRecord). crate_row_view (row_in t)) x.krates.items records
      (λ i t at is. record { pkg = package_view t.pkg.now; has_package = is.pkg; declared = refl }) w.each)

  links_made : NoneDoubled r.metadata r.graph → AllByRecursion (IsEdgeRow r s) (map (edge_row_view x.krates.items) ls.items)
  links_made none = seen_rows (IsEdgeWith r records) (IsEdgeRow r s) (edge_row_view x.krates.items) x.edges.items ls.items
      (λ e l at is. (
      let among = contains_of x.edges.items e at in
      link_recorded r s x.krates.items records e l none w.each (All-contains (HasEnds (length x.krates.items)) x.edges.items e h.ends among) (All-contains (IsPlaced r s x.krates.items) x.edges.items e h.placed among) is)) w.links

  features_made : AllByRecursion (IsFeatureRow r s.all_named) (map (feature_row_view x.krates.items) fs.items)
  features_made = seen_rows (IsFeatureWith r s.all_named records) (IsFeatureRow r s.all_named) (feature_row_view x.krates.items) x.features.items fs.items
      (λ f n at is. named_recorded r s.all_named x.krates.items records f n w.each (All-contains (HasHome (length x.krates.items)) x.features.items f h.homes (contains_of x.features.items f at)) is) w.features

  -- ---- the outline

  gathered_here : NoneDoubled r.metadata r.graph → IsOutline r s (view x.krates.items)
  gathered_here none = record {
    facts = told;
    some = h.some;
    by_id = crates_sorted ks ls fs x.toggled ordered;
    krates = All-from_recursion (IsCrateRow r) (map crate_row_view ks.items) krates_made;
    by_ends = subst (λ is. IsStrictlySortedBy link_order (map (edge_row_view is) ls.items)) same_kids (links_sorted ks ls fs x.toggled ordered);
    links = All-from_recursion (IsEdgeRow r s) (map (edge_row_view x.krates.items) ls.items) (links_made none);
    by_crate = subst (λ is. IsStrictlySortedBy enabled_order (map (feature_row_view is) fs.items)) same_kids (features_sorted ks ls fs x.toggled ordered);
    features = All-from_recursion (IsFeatureRow r s.all_named) (map (feature_row_view x.krates.items) fs.items) features_made;
    by_toggling = subst (λ is. IsStrictlySortedBy toggle_order (map (toggle_of is) x.toggled.items)) same_kids (toggles_sorted ks ls fs x.toggled ordered);
  }

  pub gathered : NoneDoubled r.metadata r.graph → IsOutline r s (view (kids_of ks.items))
  gathered none = subst (λ is. IsOutline r s (view is)) (sym same_kids) (gathered_here none)

  -- the work of the selection is that of its outline
  pub worked : ReadsOneReference → NoneDoubled r.metadata r.graph → x.work ≡ work_of (view (kids_of ks.items))
  worked one none =
      let each = subst (λ gs. AllZip (λ f k. HasReferences r s (id_at x.krates.items f.krate) (text_view f.name) k) gs h.work.references.1.counts) (sym same_features) h.work.references.1.each in
      let counts = features_times one r s x.krates.items none fs.items h.work.references.1.counts each features_made in
      let here : x.work ≡ work_of (view x.krates.items) = same_work _ _ _ _ _ _
      (h.work.krates ∙ ap counted (as_many ∙ sym (length-map ks.items crate_row_view)))
      (h.work.features_once ∙ ap counted (sym (ap length same_features) ∙ (length-map fs.items (λ (n : FeatureRow). n.feature) ∙ sym (length-map fs.items (feature_row_view x.krates.items)))))
      (h.work.references.2 ∙ ap counted (h.work.references.1.total ∙ ap sum counts)) in
      subst (λ is. x.work ≡ work_of (view is)) (sym same_kids) here
