-- Documents that say the same have the same outline.
use Rattle.std.proofs.Common.{◌≡◌, ◌↔◌, ℕ, Bool, List, [], ◌∷◌, filter, Contains, length, unwrap_or, refl, sym, ap, ◌∙◌, subst}
use Rattle.std.proofs.lemmas.List.Elements.{filter_agree}
use Rattle.std.specs.List.{AllZip}
use Rattle.krates_cm.specs.Document.{Text, NodeModel}
use Rattle.krates_text.specs.FeatureReference.{Reference, HasOneReading}
use Rattle.krates_text.specs.FeatureReference as references
use Rattle.krates_rules.specs.Derivation.{Derivable}
use Rattle.krates_rules.specs.Facts.{Id, Edge, Fact, Crate, Feature, Kept, Toggled}
use Rattle.krates_rules.specs.Questions.{IsDeclaredAt, questions}
use Rattle.krates_rules.specs.Referent.{AreReferents, IsReferent, id_order}
use Rattle.krates_rules.specs.Reordering.{IsOrderFree}
use Rattle.krates_rules.specs.Resolved.{Resolved, HasPackage, HasNode}
use Rattle.krates_rules.specs.Rules.{Questions}
use Rattle.krates_rules.specs.Setting.{SettingModel}
use Rattle.krates_selection.specs.Selection.{IsPlacedAs}
use Rattle.krates_drawing.specs.Alike.{IsDrawnAlike}
use Rattle.krates_drawing.specs.Drawing.{planned_edges, planned_nodes}
use Rattle.krates_questions.specs.FeatureTable.{values_of}
use Rattle.krates_drawing.specs.Outline.{CrateRow, IsCrateRow, EdgeRow, IsEdgeRow, asked_by, Meaning, OwnFeature, Crates, FeatureOf, FeatureRow, IsFeatureRow, IsMeaning, Names, Toggle, Outline, IsOutline}
use Rattle.krates_text.specs.Texts.{has_text}
use Rattle.krates_drawing.proofs.ById.{crates_total, id_order_total, features_total, links_total, toggles_total}
use Rattle.krates_drawing.proofs.Closed.{text_there, text_has}
use Rattle.krates_drawing.proofs.Holding.{Holds, holds}
use Rattle.krates_rules.proofs.Members.{Member, member_of, contains_of}
use Rattle.krates_drawing.proofs.SaidAlike.{SaidAlike, said_alike, dependencies_same}
use Rattle.krates_drawing.proofs.Ordered.{IsWithin, same_lists}
use Rattle.krates_drawing.proofs.Tests.{bools_same}

-- ---- what the documents say of one crate, edge or feature

krates_same : (r u : Resolved) (s : SettingModel) → SaidAlike r u s → (k l : CrateRow) → k.id ≡ l.id → IsCrateRow r k → IsCrateRow u l → k ≡ l
krates_same r u s w k l id p q =
    let pkg = w.packages k.id p.pkg q.pkg p.has_package (subst (λ i. HasPackage u i q.pkg) (sym id) q.has_package) in
    let declared : k.declared ≡ l.declared = p.declared ∙ (ap length (dependencies_same p.pkg q.pkg pkg) ∙ sym q.declared) in
    ap (λ (i : Id). record k { id = i }) id ∙ ap (λ (n : ℕ). record l { declared = n }) declared

pub listed_same : (n m : NodeModel) (g : Text) → (Contains n.features g ↔ Contains m.features g) → has_text n.features g ≡ has_text m.features g
listed_same n m g h = bools_same _ _
    (λ e. text_has m.features g (member_of m.features g (h.0 (contains_of n.features g (text_there n.features g e)))))
    (λ e. text_has n.features g (member_of n.features g (h.1 (contains_of m.features g (text_there m.features g e)))))

link_same : (e f : Edge) (m n i j : ℕ) (gs hs : List Text) → e ≡ f → m ≡ n → i ≡ j → gs ≡ hs → (let l : EdgeRow = record { edge = e; place = m; first = i; given = gs } in l) ≡ record { edge = f; place = n; first = j; given = hs }
link_same e f m n i j gs hs a b c d = rw (a, b, c, d) refl

links_same : (r u : Resolved) (s : SettingModel) → SaidAlike r u s → (k l : EdgeRow) → k.edge ≡ l.edge → IsEdgeRow r s k → IsEdgeRow u s l → k ≡ l
links_same r u s w k l edge p q =
    let declared = w.declared k.edge k.place l.place p.placed.dependency q.placed.dependency p.placed.declared (subst (λ e. IsDeclaredAt u s e l.place q.placed.dependency) (sym edge) q.placed.declared) in
    let first = w.place k.edge k.place l.place k.first l.first p.placed (subst (λ e. IsPlacedAs u s e l.place l.first) (sym edge) q.placed) in
    let node = subst (λ (e : Edge). HasNode u e.child q.node) (sym edge) q.has_node in
    let lists : (g : Text) → has_text p.node.features g ≡ has_text q.node.features g = λ g. listed_same p.node q.node g (w.features k.edge.child p.node q.node p.has_node node g) in
    let given = p.given ∙ (filter_agree (has_text p.node.features) (has_text q.node.features) lists (asked_by p.placed.dependency) ∙ (ap (λ d. filter (has_text q.node.features) (asked_by d)) declared.1 ∙ sym q.given)) in
    link_same k.edge l.edge k.place l.place k.first l.first k.given l.given edge declared.0 first given

-- ---- what references name

pub ids_same : (r u : Resolved) (all : Bool) (i : Id) (name : Text) (is js : List Id) → ((c : Id) → IsReferent r all i name c ↔ IsReferent u all i name c) → AreReferents r all i name is → AreReferents u all i name js → is ≡ js
ids_same r u all i name is js w p q = same_lists id_order id_order_total is js p.ascending q.ascending
    (λ c m. member_of js c ((q.exactly c).1 ((w c).0 ((p.exactly c).0 (contains_of is c m)))))
    (λ c m. member_of is c ((p.exactly c).1 ((w c).1 ((q.exactly c).0 (contains_of js c m)))))

pub own_named : (r : Resolved) (all : Bool) (i : Id) (g : Text) (m : Meaning) → Names r all i (references.simple g) m → m ≡ OwnFeature g
own_named r all i g (OwnFeature name) h = ap OwnFeature h
own_named r all i g (Crates ids) h = absurd h
own_named r all i g (FeatureOf ids name) h = absurd h

pub crates_named : (r : Resolved) (all : Bool) (i : Id) (d : Text) (m : Meaning) → Names r all i (references.krate d) m → (ids : List Id) × (m ≡ Crates ids) × AreReferents r all i d ids
crates_named r all i d (OwnFeature name) h = absurd h
crates_named r all i d (Crates ids) h = (ids, refl, h)
crates_named r all i d (FeatureOf ids name) h = absurd h

pub strongly_named : (r : Resolved) (all : Bool) (i : Id) (d g : Text) (m : Meaning) → Names r all i (references.strong d g) m → (ids : List Id) × (m ≡ FeatureOf ids g) × AreReferents r all i d ids
strongly_named r all i d g (OwnFeature name) h = absurd h
strongly_named r all i d g (Crates ids) h = absurd h
strongly_named r all i d g (FeatureOf ids name) h = (ids, ap (FeatureOf ids) h.1, h.0)

pub weakly_named : (r : Resolved) (all : Bool) (i : Id) (d g : Text) (m : Meaning) → Names r all i (references.weak d g) m → (ids : List Id) × (m ≡ FeatureOf ids g) × AreReferents r all i d ids
weakly_named r all i d g (OwnFeature name) h = absurd h
weakly_named r all i d g (Crates ids) h = absurd h
weakly_named r all i d g (FeatureOf ids name) h = (ids, ap (FeatureOf ids) h.1, h.0)

names_same : (r u : Resolved) (s : SettingModel) (i : Id) (reference : Reference) (m n : Meaning) → SaidAlike r u s → Names r s.all_named i reference m → Names u s.all_named i reference n → m ≡ n
names_same r u s i (references.simple g) m n w p q = own_named r s.all_named i g m p ∙ sym (own_named u s.all_named i g n q)
names_same r u s i (references.krate d) m n w p q =
    let a = crates_named r s.all_named i d m p in
    let b = crates_named u s.all_named i d n q in
    a.1 ∙ (ap Crates (ids_same r u s.all_named i d a.0 b.0 (w.referents i d) a.2 b.2) ∙ sym b.1)
names_same r u s i (references.strong d g) m n w p q =
    let a = strongly_named r s.all_named i d g m p in
    let b = strongly_named u s.all_named i d g n q in
    a.1 ∙ (ap (λ ids. FeatureOf ids g) (ids_same r u s.all_named i d a.0 b.0 (w.referents i d) a.2 b.2) ∙ sym b.1)
names_same r u s i (references.weak d g) m n w p q =
    let a = weakly_named r s.all_named i d g m p in
    let b = weakly_named u s.all_named i d g n q in
    a.1 ∙ (ap (λ ids. FeatureOf ids g) (ids_same r u s.all_named i d a.0 b.0 (w.referents i d) a.2 b.2) ∙ sym b.1)

-- each text is only one reference
abbrev pub ReadsOneReference : Type 0
ReadsOneReference = (text : Text) → HasOneReading text

meaning_same : ReadsOneReference → (r u : Resolved) (s : SettingModel) (i : Id) (text : Text) (m n : Meaning) → SaidAlike r u s → IsMeaning r s.all_named i text m → IsMeaning u s.all_named i text n → m ≡ n
meaning_same one r u s i text m n w p q =
    let o = one text in
    let same : q.reference ≡ p.reference = o.only q.reference q.is ∙ sym (o.only p.reference p.is) in
    names_same r u s i p.reference m n w p.names (subst (λ z. Names u s.all_named i z n) same q.names)

meanings_same : ReadsOneReference → (r u : Resolved) (s : SettingModel) (i : Id) (values : List Text) (ms ns : List Meaning) → SaidAlike r u s → AllZip (IsMeaning r s.all_named i) values ms → AllZip (IsMeaning u s.all_named i) values ns → ms ≡ ns
meanings_same one r u s i [] [] [] w p q = refl
meanings_same one r u s i [] [] (n ∷ ns) w p q = absurd q
meanings_same one r u s i [] (m ∷ ms) ns w p q = absurd p
meanings_same one r u s i (v ∷ vs) [] ns w p q = absurd p
meanings_same one r u s i (v ∷ vs) (m ∷ ms) [] w p q = absurd q
meanings_same one r u s i (v ∷ vs) (m ∷ ms) (n ∷ ns) w p q = ap (λ z. z ∷ ms) (meaning_same one r u s i v m n w p.0 q.0) ∙ ap (λ zs. n ∷ zs) (meanings_same one r u s i vs ms ns w p.1 q.1)

named_same : (i j : Id) (f g : Text) (ms ns : List Meaning) → i ≡ j → f ≡ g → ms ≡ ns → (let n : FeatureRow = record { krate = i; name = f; meanings = ms } in n) ≡ record { krate = j; name = g; meanings = ns }
named_same i j f g ms ns a b c = rw (a, b, c) refl

features_same : ReadsOneReference → (r u : Resolved) (s : SettingModel) → SaidAlike r u s → (k l : FeatureRow) → k.krate ≡ l.krate → k.name ≡ l.name → IsFeatureRow r s.all_named k → IsFeatureRow u s.all_named l → k ≡ l
features_same one r u s w k l krate name p q =
    let pkg = w.packages k.krate p.pkg q.pkg p.has_package (subst (λ i. HasPackage u i q.pkg) (sym krate) q.has_package) in
    let values : values_of q.pkg.features l.name ≡ values_of p.pkg.features k.name = ap (λ o. unwrap_or o []) (sym (pkg.features l.name)) ∙ ap (values_of p.pkg.features) (sym name) in
    let theirs = subst (λ vs. AllZip (IsMeaning u s.all_named k.krate) vs l.meanings) values (subst (λ i. AllZip (IsMeaning u s.all_named i) (values_of q.pkg.features l.name) l.meanings) (sym krate) q.meanings) in
    named_same k.krate l.krate k.name l.name k.meanings l.meanings krate name (meanings_same one r u s k.krate (values_of p.pkg.features k.name) k.meanings l.meanings w p.meanings theirs)

-- ---- each row of an outline is one of another

-- rows of one crate, edge or feature are equal
pub record RowsAlike (r u : Resolved) (s z : SettingModel) : Type 0 where
  pub krates : (k l : CrateRow) → k.id ≡ l.id → IsCrateRow r k → IsCrateRow u l → k ≡ l
  pub links : (k l : EdgeRow) → k.edge ≡ l.edge → IsEdgeRow r s k → IsEdgeRow u z l → k ≡ l
  pub features : (k l : FeatureRow) → k.krate ≡ l.krate → k.name ≡ l.name → IsFeatureRow r s.all_named k → IsFeatureRow u z.all_named l → k ≡ l

pub rows_alike : ReadsOneReference → (r u : Resolved) (s : SettingModel) → SaidAlike r u s → RowsAlike r u s s
rows_alike one r u s w = record { krates = krates_same r u s w; links = links_same r u s w; features = features_same one r u s w }

turned : (r u : Resolved) (s z : SettingModel) → RowsAlike r u s z → RowsAlike u r z s
turned r u s z w = record {
  krates = λ k l e p q. sym (w.krates l k (sym e) q p);
  links = λ k l e p q. sym (w.links l k (sym e) q p);
  features = λ k l e f p q. sym (w.features l k (sym e) (sym f) q p);
}

-- the facts of one outline are facts of the other
abbrev pub Carries : Questions → Questions → Type 0
Carries a b = (f : Fact) → Derivable a f → Derivable b f

-- so are the rows
pub record AreWithin (t v : Outline) : Type 0 where
  pub krates : IsWithin t.krates v.krates
  pub links : IsWithin t.links v.links
  pub features : IsWithin t.features v.features
  pub toggled : IsWithin t.toggled v.toggled

pub rows_within : (r u : Resolved) (s z : SettingModel) → RowsAlike r u s z → Carries (questions r s) (questions u z) → (t v : Outline) → Holds r s t → Holds u z v → AreWithin t v
rows_within r u s z w c t v p q = record {
  krates = λ k m.
      (let there = q.crate_in k.id (c (Crate k.id) (p.crate_of k m)) in
      subst (Member v.krates) (sym (w.krates k there.krate (sym there.id) (p.count_of k m) (q.count_of there.krate there.member))) there.member);
  links = λ l m.
      (let there = q.link_in l.edge (c (Kept l.edge) (p.link_of l m)) in
      subst (Member v.links) (sym (w.links l there.link (sym there.is) (p.edge_of l m) (q.edge_of there.link there.member))) there.member);
  features = λ n m.
      (let there = q.feature_in n.krate n.name (c (Feature n.krate n.name) (p.feature_of n m)) in
      subst (Member v.features) (sym (w.features n there.named (sym there.krate) (sym there.name) (p.named_of n m) (q.named_of there.named there.member))) there.member);
  toggled = λ g m.
      (let there = q.toggle_in g.by g.krate g.name (c (Toggled g.by g.krate g.name) (p.toggle_of g m)) in
      subst (Member v.toggled) there.is there.member);
}

-- ---- the law

outlines : (ks ls : List CrateRow) (es fs : List EdgeRow) (ns ms : List FeatureRow) (ts us : List Toggle) → ks ≡ ls → es ≡ fs → ns ≡ ms → ts ≡ us
    → (let t : Outline = record { krates = ks; links = es; features = ns; toggled = ts } in t) ≡ record { krates = ls; links = fs; features = ms; toggled = us }
outlines ks ls es fs ns ms ts us a b c d = rw (a, b, c, d) refl

one_outline : (r u : Resolved) (s : SettingModel) → RowsAlike r u s s → ((f : Fact) → Derivable (questions r s) f ↔ Derivable (questions u s) f) → (t v : Outline) → IsOutline r s t → IsOutline u s v → t ≡ v
one_outline r u s w facts t v p q =
    let a = holds r s t p in
    let b = holds u s v q in
    let there = rows_within r u s s w (λ f d. (facts f).0 d) t v a b in
    let back = rows_within u r s s (turned r u s s w) (λ f d. (facts f).1 d) v t b a in
    outlines t.krates v.krates t.links v.links t.features v.features t.toggled v.toggled
    (same_lists _ crates_total t.krates v.krates p.by_id q.by_id there.krates back.krates)
    (same_lists _ links_total t.links v.links p.by_ends q.by_ends there.links back.links)
    (same_lists _ features_total t.features v.features p.by_crate q.by_crate there.features back.features)
    (same_lists _ toggles_total t.toggled v.toggled p.by_toggling q.by_toggling there.toggled back.toggled)

pub drawn_alike : IsOrderFree → ReadsOneReference → IsDrawnAlike
drawn_alike free one m n w g h has_g has_h none s t v p q =
    let say = said_alike m n g h s (free m n w) has_g has_h none in
    let same = one_outline _ _ s (rows_alike one _ _ s say) say.facts t v p q in
    record { outline = same; nodes = ap planned_nodes same; edges = ap planned_edges same }
