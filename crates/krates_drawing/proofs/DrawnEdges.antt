-- Which edges are drawn, from which end to which.
use Rattle.std.proofs.Common.{◌≡◌, inl, inr, List, [], ◌∷◌, filter, true, refl, sym, ap, ◌∙◌, subst}
use Rattle.std.proofs.lemmas.Bool.{and_parts, and_from}
use Rattle.std.specs.List.{flat_map}
use Rattle.krates_cm.specs.Document.{Text}
use Rattle.krates_rules.specs.Facts.{Id}
use Rattle.krates_rules.specs.Kind.{kind_of}
use Rattle.krates_drawing.specs.Drawing.{id_eq, Endpoint, AtCrate, AtFeature, EdgeModel, Dep, DepFeature, Feature, PlannedEdge, line, uses, is_link, is_between, leads, pair_lines, crate_lines, targets, feature_lines, planned_edges}
use Rattle.krates_drawing.specs.Outline.{CrateRow, EdgeRow, Meaning, OwnFeature, Crates, FeatureOf, FeatureRow, Toggle, Outline}
use Rattle.krates_rules.proofs.Members.{Member, member_append, member_left, member_right, mapped_of, member_map, kept_of, member_filter, spread_of, member_spread, passing_of, member_any}
use Rattle.krates_drawing.proofs.NodeNumbers.{id_is, id_same, HasCrate}

-- an edge is drawn from one end to another, with this weight
pub data IsDrawnEdge (t : Outline) : Endpoint → Endpoint → EdgeModel → Type 0 where
  -- a kept edge that gives no feature
  dep : (l : EdgeRow) → Member t.links l → l.given ≡ [] → IsDrawnEdge t (AtCrate l.edge.parent) (AtCrate l.edge.child) (Dep (kind_of l.edge.kind) l.edge.cfg)
  -- each feature that a kept edge gives
  dep_feature : (l : EdgeRow) (g : Text) → Member t.links l → Member l.given g → IsDrawnEdge t (AtCrate l.edge.parent) (AtFeature l.edge.child g) (DepFeature (kind_of l.edge.kind) l.edge.cfg)
  -- each feature that a crate toggles, if a kept edge leads to the feature's crate
  toggles : (g : Toggle) (l : EdgeRow) → Member t.toggled g → Member t.links l → l.edge.parent ≡ g.by → l.edge.child ≡ g.krate → IsDrawnEdge t (AtCrate g.by) (AtFeature g.krate g.name) Feature
  -- an enabled feature, to its own crate
  own : (n : FeatureRow) → Member t.features n → IsDrawnEdge t (AtFeature n.krate n.name) (AtCrate n.krate) Feature
  -- to what its references name
  names : (n : FeatureRow) (g : Text) → Member t.features n → Member n.meanings (OwnFeature g) → IsDrawnEdge t (AtFeature n.krate n.name) (AtFeature n.krate g) Feature
  names_crate : (n : FeatureRow) (ids : List Id) (l : EdgeRow) → Member t.features n → Member n.meanings (Crates ids) → Member ids l.edge.child → Member t.links l → l.edge.parent ≡ n.krate
      → IsDrawnEdge t (AtFeature n.krate n.name) (AtCrate l.edge.child) Feature
  names_feature : (n : FeatureRow) (ids : List Id) (g : Text) (l : EdgeRow) → Member t.features n → Member n.meanings (FeatureOf ids g) → Member ids l.edge.child → Member t.links l → l.edge.parent ≡ n.krate
      → IsDrawnEdge t (AtFeature n.krate n.name) (AtFeature l.edge.child g) Feature

-- a line is that of some planned
pub record Drawn (t : Outline) (x : PlannedEdge) : Type 0 where
  pub from : Endpoint
  pub to : Endpoint
  pub tie : EdgeModel
  pub planned : IsDrawnEdge t from to tie
  pub is : line t from to tie ≡ x

-- ---- kept edges

-- a kept edge from one crate to another
pub record Between (t : Outline) (p q : Id) : Type 0 where
  pub link : EdgeRow
  pub member : Member t.links link
  pub parent : link.edge.parent ≡ p
  pub child : link.edge.child ≡ q

-- a link from one crate to another is one between them, and the other way round
pub is_between_them : (p q : Id) (l : EdgeRow) → is_link p q l ≡ true → (l.edge.parent ≡ p) × (l.edge.child ≡ q)
is_between_them p q l h = let w = and_parts _ _ h in (id_is l.edge.parent p w.0, id_is l.edge.child q w.1)

pub links_them : (p q : Id) (l : EdgeRow) → l.edge.parent ≡ p → l.edge.child ≡ q → is_link p q l ≡ true
links_them p q l from to = and_from _ _ (subst (λ i. id_eq l.edge.parent i ≡ true) from (id_same l.edge.parent)) (subst (λ i. id_eq l.edge.child i ≡ true) to (id_same l.edge.child))

pub leads_of : (t : Outline) (p q : Id) → leads t p q ≡ true → Between t p q
leads_of t p q h =
    let w = passing_of (is_link p q) t.links h in
    let is = is_between_them p q w.from w.passes in
    record { link = w.from; member = w.member; parent = is.0; child = is.1 }

pub leads_by : (t : Outline) (p q : Id) → Between t p q → leads t p q ≡ true
leads_by t p q b = member_any (is_link p q) t.links b.link b.member (links_them p q b.link b.parent b.child)

-- ---- each drawn line is that of some planned

use_of : (t : Outline) (l : EdgeRow) (gs : List Text) (x : PlannedEdge) → Member t.links l → l.given ≡ gs → Member (uses t l gs) x → Drawn t x
unfolding uses
use_of t l [] x at e (inl is) = record { from = _; to = _; tie = _; planned = dep l at e; is = is }
use_of t l [] x at e (inr m) = absurd m
use_of t l (g ∷ gs) x at e m =
    let w = mapped_of (λ f. line t (AtCrate l.edge.parent) (AtFeature l.edge.child f) (DepFeature (kind_of l.edge.kind) l.edge.cfg)) (g ∷ gs) x m in
    record { from = _; to = _; tie = _; planned = dep_feature l w.from at (subst (λ fs. Member fs w.from) (sym e) w.member); is = w.is }

pair_of : (t : Outline) (p q : Id) (x : PlannedEdge) → Between t p q → Member (pair_lines t p q) x → Drawn t x
unfolding pair_lines
pair_of t p q x b m = elim (member_append (flat_map (λ l. uses t l l.given) (filter (is_link p q) t.links)) _ x m) [
  | inl here ↦ (
      let w = spread_of (λ l. uses t l l.given) (filter (is_link p q) t.links) x here in
      use_of t w.from w.from.given x (kept_of (is_link p q) t.links w.from w.member).0 refl w.there)
  | inr more ↦ (
      let w = mapped_of (λ (g : Toggle). line t (AtCrate p) (AtFeature q g.name) Feature) (filter (is_between p q) t.toggled) x more in
      let k = kept_of (is_between p q) t.toggled w.from w.member in
      let same = and_parts _ _ k.1 in
      let by = id_is w.from.by p same.0 in
      let krate = id_is w.from.krate q same.1 in
      record {
        from = AtCrate w.from.by;
        to = AtFeature w.from.krate w.from.name;
        tie = Feature;
        planned = toggles w.from b.link k.0 b.member (b.parent ∙ sym by) (b.child ∙ sym krate);
        is = ap (λ i. line t (AtCrate i) (AtFeature w.from.krate w.from.name) Feature) by ∙ ap (λ i. line t (AtCrate p) (AtFeature i w.from.name) Feature) krate ∙ w.is;
      })
]

crate_of : (t : Outline) (p : CrateRow) (x : PlannedEdge) → Member (crate_lines t p) x → Drawn t x
unfolding crate_lines
crate_of t p x m =
    let w = spread_of (λ (q : CrateRow). pair_lines t p.id q.id) (filter (λ q. leads t p.id q.id) t.krates) x m in
    let k = kept_of (λ (q : CrateRow). leads t p.id q.id) t.krates w.from w.member in
    pair_of t p.id w.from.id x (leads_of t p.id w.from.id k.1) w.there

target_of : (t : Outline) (n : FeatureRow) (m : Meaning) (e : Endpoint) → Member t.features n → Member n.meanings m → Member (targets t n.krate m) e → IsDrawnEdge t (AtFeature n.krate n.name) e Feature
target_of t n (OwnFeature g) e at among (inl is) = subst (λ z. IsDrawnEdge t (AtFeature n.krate n.name) z Feature) is (names n g at among)
target_of t n (OwnFeature g) e at among (inr m) = absurd m
target_of t n (Crates ids) e at among m =
    let w = mapped_of AtCrate (filter (leads t n.krate) ids) e m in
    let k = kept_of (leads t n.krate) ids w.from w.member in
    let b = leads_of t n.krate w.from k.1 in
    subst (λ z. IsDrawnEdge t (AtFeature n.krate n.name) z Feature) (ap AtCrate b.child ∙ w.is) (names_crate n ids b.link at among (subst (Member ids) (sym b.child) k.0) b.member b.parent)
target_of t n (FeatureOf ids g) e at among m =
    let w = mapped_of (λ q. AtFeature q g) (filter (leads t n.krate) ids) e m in
    let k = kept_of (leads t n.krate) ids w.from w.member in
    let b = leads_of t n.krate w.from k.1 in
    subst (λ z. IsDrawnEdge t (AtFeature n.krate n.name) z Feature) (ap (λ q. AtFeature q g) b.child ∙ w.is) (names_feature n ids g b.link at among (subst (Member ids) (sym b.child) k.0) b.member b.parent)

-- its crate, or what a reference names
end_drawn : (t : Outline) (n : FeatureRow) (e : Endpoint) → Member t.features n → Member (AtCrate n.krate ∷ flat_map (targets t n.krate) n.meanings) e → IsDrawnEdge t (AtFeature n.krate n.name) e Feature
end_drawn t n e at (inl is) = subst (λ z. IsDrawnEdge t (AtFeature n.krate n.name) z Feature) is (own n at)
end_drawn t n e at (inr m) = let w = spread_of (targets t n.krate) n.meanings e m in target_of t n w.from e at w.member w.there

feature_of : (t : Outline) (n : FeatureRow) (x : PlannedEdge) → Member t.features n → Member (feature_lines t n) x → Drawn t x
unfolding feature_lines
feature_of t n x at m =
    let w = mapped_of (λ e. line t (AtFeature n.krate n.name) e Feature) (AtCrate n.krate ∷ flat_map (targets t n.krate) n.meanings) x m in
    record { from = _; to = w.from; tie = _; planned = end_drawn t n w.from at w.member; is = w.is }

pub drawn_of : (t : Outline) (x : PlannedEdge) → Member (planned_edges t) x → Drawn t x
unfolding planned_edges
drawn_of t x m = elim (member_append (flat_map (crate_lines t) t.krates) _ x m) [
  | inl here ↦ (let w = spread_of (crate_lines t) t.krates x here in crate_of t w.from x w.there)
  | inr more ↦ (let w = spread_of (feature_lines t) t.features x more in feature_of t w.from x w.member w.there)
]

-- ---- each planned has its line, if the ends of kept edges are kept

abbrev pub KeepsEnds : Outline → Type 0
KeepsEnds t = (l : EdgeRow) → Member t.links l → HasCrate t l.edge.parent × HasCrate t l.edge.child

-- a line between two crates is drawn where an edge leads from the one to the other
between_in : (t : Outline) (p q : Id) (x : PlannedEdge) → KeepsEnds t → Between t p q → Member (pair_lines t p q) x → Member (planned_edges t) x
unfolding planned_edges crate_lines
between_in t p q x ends b there =
    let k = ends b.link b.member in
    let from = (k.0).krate in
    let to = (k.1).krate in
    let at_p : from.id ≡ p = (k.0).id ∙ b.parent in
    let at_q : to.id ≡ q = (k.1).id ∙ b.child in
    let led : leads t from.id to.id ≡ true = leads_by t from.id to.id (record { link = b.link; member = b.member; parent = b.parent ∙ sym at_p; child = b.child ∙ sym at_q }) in
    let here : Member (pair_lines t from.id to.id) x = subst (λ i. Member (pair_lines t i to.id) x) (sym at_p) (subst (λ i. Member (pair_lines t p i) x) (sym at_q) there) in
    member_left (flat_map (crate_lines t) t.krates) _ x
    (member_spread (crate_lines t) t.krates from x (k.0).member
    (member_spread (λ (z : CrateRow). pair_lines t from.id z.id) (filter (λ z. leads t from.id z.id) t.krates) to x (member_filter (λ (z : CrateRow). leads t from.id z.id) t.krates to led (k.1).member) here))

use_in : (t : Outline) (l : EdgeRow) (x : PlannedEdge) → KeepsEnds t → Member t.links l → Member (uses t l l.given) x → Member (planned_edges t) x
unfolding pair_lines
use_in t l x ends at m =
    let p = l.edge.parent in
    let q = l.edge.child in
    between_in t p q x ends (record { link = l; member = at; parent = refl; child = refl })
    (member_left (flat_map (λ z. uses t z z.given) (filter (is_link p q) t.links)) _ x (member_spread (λ z. uses t z z.given) (filter (is_link p q) t.links) l x (member_filter (is_link p q) t.links l (links_them p q l refl refl) at) m))

toggle_in : (t : Outline) (g : Toggle) (l : EdgeRow) → KeepsEnds t → Member t.toggled g → Member t.links l → l.edge.parent ≡ g.by → l.edge.child ≡ g.krate → Member (planned_edges t) (line t (AtCrate g.by) (AtFeature g.krate g.name) Feature)
unfolding pair_lines
toggle_in t g l ends at kept by theirs =
    let p = g.by in
    let q = g.krate in
    between_in t p q _ ends (record { link = l; member = kept; parent = by; child = theirs })
    (member_right (flat_map (λ z. uses t z z.given) (filter (is_link p q) t.links)) _ _ (member_map (λ (z : Toggle). line t (AtCrate p) (AtFeature q z.name) Feature) (filter (is_between p q) t.toggled) g (member_filter (is_between p q) t.toggled g (and_from _ _ (id_same p) (id_same q)) at)))

-- a line from a feature is drawn to its crate and to what its references name
end_in : (t : Outline) (n : FeatureRow) (e : Endpoint) → Member t.features n → Member (AtCrate n.krate ∷ flat_map (targets t n.krate) n.meanings) e → Member (planned_edges t) (line t (AtFeature n.krate n.name) e Feature)
unfolding planned_edges feature_lines
end_in t n e at there =
    member_right (flat_map (crate_lines t) t.krates) _ _
    (member_spread (feature_lines t) t.features n _ at (member_map (λ z. line t (AtFeature n.krate n.name) z Feature) (AtCrate n.krate ∷ flat_map (targets t n.krate) n.meanings) e there))

meaning_in : (t : Outline) (n : FeatureRow) (m : Meaning) (e : Endpoint) → Member t.features n → Member n.meanings m → Member (targets t n.krate m) e → Member (planned_edges t) (line t (AtFeature n.krate n.name) e Feature)
meaning_in t n m e at among there = end_in t n e at (inr (member_spread (targets t n.krate) n.meanings m e among there))

referent_in : (t : Outline) (p : Id) (ids : List Id) (l : EdgeRow) → Member ids l.edge.child → Member t.links l → l.edge.parent ≡ p → Member (filter (leads t p) ids) l.edge.child
referent_in t p ids l among at e = member_filter (leads t p) ids l.edge.child (leads_by t p l.edge.child (record { link = l; member = at; parent = e; child = refl })) among

pub edge_in : (t : Outline) (from to : Endpoint) (tie : EdgeModel) → KeepsEnds t → IsDrawnEdge t from to tie → Member (planned_edges t) (line t from to tie)
unfolding uses
edge_in t _ _ _ ends (dep l at none) =
    let x = line t (AtCrate l.edge.parent) (AtCrate l.edge.child) (Dep (kind_of l.edge.kind) l.edge.cfg) in
    use_in t l x ends at (subst (λ gs. Member (uses t l gs) x) (sym none) (inl refl))
edge_in t _ _ _ ends (dep_feature l g at gives) = use_in t l _ ends at (given_line l.given gives)
  where
    given_line : (gs : List Text) → Member gs g → Member (uses t l gs) (line t (AtCrate l.edge.parent) (AtFeature l.edge.child g) (DepFeature (kind_of l.edge.kind) l.edge.cfg))
    given_line [] m = absurd m
    given_line (f ∷ fs) m = member_map (λ z. line t (AtCrate l.edge.parent) (AtFeature l.edge.child z) (DepFeature (kind_of l.edge.kind) l.edge.cfg)) (f ∷ fs) g m
edge_in t _ _ _ ends (toggles g l at kept by theirs) = toggle_in t g l ends at kept by theirs
edge_in t _ _ _ ends (own n at) = end_in t n _ at (inl refl)
edge_in t _ _ _ ends (names n g at among) = meaning_in t n (OwnFeature g) _ at among (inl refl)
edge_in t _ _ _ ends (names_crate n ids l at among means kept e) = meaning_in t n (Crates ids) _ at among (member_map AtCrate _ _ (referent_in t n.krate ids l means kept e))
edge_in t _ _ _ ends (names_feature n ids g l at among means kept e) = meaning_in t n (FeatureOf ids g) _ at among (member_map (λ q. AtFeature q g) _ _ (referent_in t n.krate ids l means kept e))
