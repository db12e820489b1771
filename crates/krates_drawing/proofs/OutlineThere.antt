-- An outline of a document is an outline of any that differs only in order.
use Rattle.std.proofs.Common.{◌≡◌, ℕ, List, [], All, length, unwrap_or, sym, ap, ◌∙◌, subst}
use Rattle.std.proofs.lemmas.List.Elements.{All-from_recursion, filter_agree}
use Rattle.std.specs.List.{AllZip}
use Rattle.krates_cm.specs.Document.{Text, DependencyModel, NodeDepModel}
use Rattle.krates_text.specs.FeatureReference.{Reference}
use Rattle.krates_text.specs.FeatureReference as references
use Rattle.krates_rules.specs.DeclaredDependency.{FirstAt, IsDeclared, dependency_entry}
use Rattle.krates_rules.specs.Derivation.{Derivable}
use Rattle.krates_rules.specs.Facts.{Id, Edge, Crate, Kept}
use Rattle.krates_rules.specs.Questions.{IsDeclaredAt, IsWanted, Stands, kind_info_of, questions}
use Rattle.krates_rules.specs.Referent.{AreReferents}
use Rattle.krates_rules.specs.Reordering.{IsOrderFree, SayAlike}
use Rattle.krates_rules.specs.Resolved.{Resolved}
use Rattle.krates_rules.specs.Setting.{SettingModel}
use Rattle.krates_selection.specs.Selection.{IsPlacedAs}
use Rattle.krates_drawing.specs.Alike.{IsOutlineThere}
use Rattle.krates_drawing.specs.Outline.{CrateRow, IsCrateRow, EdgeRow, IsEdgeRow, asked_by, Meaning, OwnFeature, Crates, FeatureOf, FeatureRow, IsFeatureRow, IsMeaning, Names, Outline, IsOutline}
use Rattle.krates_text.specs.Texts.{has_text}
use Rattle.krates_questions.specs.FeatureTable.{values_of}
use Rattle.krates_drawing.proofs.Derivations.{child_kept, crate_of_feature, kept_by, kept_stands}
use Rattle.krates_drawing.proofs.Holding.{Holds, holds}
use Rattle.krates_rules.proofs.Members.{Member}
use Rattle.krates_drawing.proofs.OneOutline.{listed_same}
use Rattle.krates_drawing.proofs.SaidAlike.{SaidAlike, said_alike, dependencies_same}
use Rattle.krates_drawing.proofs.Standing.{each}
use Rattle.krates_rules.proofs.Zips.{zip_there}

-- ---- what is in the first document is in the second

kept_there : (u : Resolved) (s : SettingModel) (i : Id) → Derivable (questions u s) (Crate i) → Stands u s i
unfolding questions
kept_there u s i d = kept_stands (questions u s) i d

wanted_there : (u : Resolved) (s : SettingModel) (e : Edge) → Derivable (questions u s) (Kept e) → (d : DependencyModel) × IsWanted u s e d
unfolding questions
wanted_there u s e d = let k = kept_by (questions u s) e d in (k.dep, k.opened.wanted)

-- ---- the declared dependency

-- an edge that is kept in the second is declared there as in the first
record DeclaredThere (r u : Resolved) (s : SettingModel) (e : Edge) (place : ℕ) (d : DependencyModel) (dep : NodeDepModel) : Type 0 where
  declared : IsDeclaredAt u s e place d
  same : dep ≡ declared.declares.dep

declared_there : (r u : Resolved) (s : SettingModel) → SaidAlike r u s → SayAlike r u → (e : Edge) (place : ℕ) (d : DependencyModel) → Derivable (questions u s) (Kept e) → (a : IsDeclaredAt r s e place d)
    → DeclaredThere r u s e place d a.declares.dep
declared_there r u s w say e place d kept a =
    let (c, b) = wanted_there u s e kept in
    let y = b.declared.declares in
    let same = w.declared e place b.place d c a b.declared in
    let at : IsDeclared y.pkg.dependencies (dependency_entry e.child y.dep) (kind_info_of e) place c = subst (λ k. IsDeclared y.pkg.dependencies (dependency_entry e.child y.dep) (kind_info_of e) k c) (sym same.0) y.declared in
    record {
      declared = record {
        declares = record {
          dep = y.dep;
          lists = y.lists;
          pkg = y.pkg;
          has_package = y.has_package;
          declared = subst (IsDeclared y.pkg.dependencies (dependency_entry e.child y.dep) (kind_info_of e) place) (sym same.1) at;
        };
        not_ignored = b.declared.not_ignored;
      };
      same = say.deps e a.declares.dep y.dep a.declares.lists y.lists;
    }

referents_there : (r u : Resolved) (s : SettingModel) (i : Id) (name : Text) (ids : List Id) → SaidAlike r u s → AreReferents r s.all_named i name ids → AreReferents u s.all_named i name ids
referents_there r u s i name ids w h = record {
  exactly = λ c. (λ m. (w.referents i name c).0 ((h.exactly c).0 m), λ x. (h.exactly c).1 ((w.referents i name c).1 x));
  ascending = h.ascending;
}

-- ---- the rows

krate_there : (r u : Resolved) (s : SettingModel) → SaidAlike r u s → (k : CrateRow) → Stands u s k.id → IsCrateRow r k → IsCrateRow u k
krate_there r u s w k stands h =
    let q = stands.included in
    let same = w.packages k.id h.pkg q.pkg h.has_package q.has_package in
    record { pkg = q.pkg; has_package = q.has_package; declared = h.declared ∙ ap length (dependencies_same h.pkg q.pkg same) }

link_there : (r u : Resolved) (s : SettingModel) → SaidAlike r u s → SayAlike r u → (l : EdgeRow) → Derivable (questions u s) (Kept l.edge) → IsEdgeRow r s l → IsEdgeRow u s l
link_there r u s w say l kept h =
    let p = h.placed in
    let d = declared_there r u s w say l.edge l.place p.dependency kept p.declared in
    let placed : IsPlacedAs u s l.edge l.place l.first = record {
      dependency = p.dependency;
      declared = d.declared;
      place = subst (λ (z : NodeDepModel). FirstAt (λ k. k ≡ kind_info_of l.edge) z.dep_kinds l.first (kind_info_of l.edge)) d.same p.place;
    } in
    let child = kept_there u s l.edge.child (child_kept (questions u s) l.edge kept) in
    let lists : (g : Text) → has_text h.node.features g ≡ has_text child.node.features g = λ g. listed_same h.node child.node g (w.features l.edge.child h.node child.node h.has_node child.has_node g) in
    record {
      placed = placed;
      node = child.node;
      has_node = child.has_node;
      given = h.given ∙ filter_agree (has_text h.node.features) (has_text child.node.features) lists (asked_by p.dependency);
    }

names_there : (r u : Resolved) (s : SettingModel) (i : Id) (reference : Reference) (m : Meaning) → SaidAlike r u s → Names r s.all_named i reference m → Names u s.all_named i reference m
names_there r u s i (references.simple g) (OwnFeature name) w h = h
names_there r u s i (references.simple g) (Crates ids) w h = absurd h
names_there r u s i (references.simple g) (FeatureOf ids name) w h = absurd h
names_there r u s i (references.krate d) (OwnFeature name) w h = absurd h
names_there r u s i (references.krate d) (Crates ids) w h = referents_there r u s i d ids w h
names_there r u s i (references.krate d) (FeatureOf ids name) w h = absurd h
names_there r u s i (references.strong d g) (OwnFeature name) w h = absurd h
names_there r u s i (references.strong d g) (Crates ids) w h = absurd h
names_there r u s i (references.strong d g) (FeatureOf ids name) w h = (referents_there r u s i d ids w h.0, h.1)
names_there r u s i (references.weak d g) (OwnFeature name) w h = absurd h
names_there r u s i (references.weak d g) (Crates ids) w h = absurd h
names_there r u s i (references.weak d g) (FeatureOf ids name) w h = (referents_there r u s i d ids w h.0, h.1)

meaning_there : (r u : Resolved) (s : SettingModel) (i : Id) → SaidAlike r u s → (text : Text) (m : Meaning) → IsMeaning r s.all_named i text m → IsMeaning u s.all_named i text m
meaning_there r u s i w text m h = record { reference = h.reference; is = h.is; names = names_there r u s i h.reference m w h.names }

named_there : (r u : Resolved) (s : SettingModel) → SaidAlike r u s → (n : FeatureRow) → Stands u s n.krate → IsFeatureRow r s.all_named n → IsFeatureRow u s.all_named n
named_there r u s w n stands h =
    let q = stands.included in
    let same : values_of h.pkg.features n.name ≡ values_of q.pkg.features n.name = ap (λ o. unwrap_or o []) ((w.packages n.krate h.pkg q.pkg h.has_package q.has_package).features n.name) in
    let there = zip_there (IsMeaning r s.all_named n.krate) (IsMeaning u s.all_named n.krate) (values_of h.pkg.features n.name) n.meanings (λ t at m is. meaning_there r u s n.krate w t m is) h.meanings in
    record { pkg = q.pkg; has_package = q.has_package; meanings = subst (λ vs. AllZip (IsMeaning u s.all_named n.krate) vs n.meanings) same there }

-- ---- the law

all_of : {A : Type 0} (P : A → Type 0) (xs : List A) → ((x : A) → Member xs x → P x) → All P xs
all_of P xs h = All-from_recursion P xs (each P xs h)

carried : (r u : Resolved) (s : SettingModel) → SaidAlike r u s → SayAlike r u → (t : Outline) → IsOutline r s t → IsOutline u s t
carried r u s w say t h =
    let p : Holds r s t = holds r s t h in
    let krate : (k : CrateRow) → Member t.krates k → Stands u s k.id = λ k m. kept_there u s k.id ((w.facts (Crate k.id)).0 (p.crate_of k m)) in
    let feature : (n : FeatureRow) → Member t.features n → Stands u s n.krate = λ n m.
    kept_there u s n.krate (crate_of_feature (questions u s) n.krate n.name ((w.facts _).0 (p.feature_of n m))) in
    record {
      facts = λ f. (λ d. (h.facts f).0 ((w.facts f).1 d), λ c. (w.facts f).0 ((h.facts f).1 c));
      some = (h.some.0, (w.facts (Crate h.some.0)).0 h.some.1);
      by_id = h.by_id;
      krates = all_of (IsCrateRow u) t.krates (λ k m. krate_there r u s w k (krate k m) (p.count_of k m));
      by_ends = h.by_ends;
      links = all_of (IsEdgeRow u s) t.links (λ l m. link_there r u s w say l ((w.facts (Kept l.edge)).0 (p.link_of l m)) (p.edge_of l m));
      by_crate = h.by_crate;
      features = all_of (IsFeatureRow u s.all_named) t.features (λ n m. named_there r u s w n (feature n m) (p.named_of n m));
      by_toggling = h.by_toggling;
    }

pub outline_there : IsOrderFree → IsOutlineThere
outline_there free m n w g h has_g has_h none s t p =
    let alike = free m n w in
    carried _ _ s (said_alike m n g h s alike has_g has_h none) (alike.says g h has_g has_h none) t p
