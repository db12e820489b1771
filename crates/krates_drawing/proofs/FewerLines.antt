-- A smaller outline draws no more lines.
use Rattle.std.proofs.Common.{◌≤◌, List, [], ◌∷◌, length, map, filter, flat_map, arith}
use Rattle.std.proofs.lemmas.List.{length-map}
use Rattle.krates_cm.specs.Document.{Text}
use Rattle.krates_rules.specs.Facts.{Id}
use Rattle.krates_drawing.specs.Drawing.{AtFeature, Feature, line, uses, is_link, is_between, leads, pair_lines, crate_lines, targets, feature_lines, planned_edges, planned_crate, planned_feature, planned_nodes}
use Rattle.krates_drawing.specs.Narrower.{IsPart, DrawsNoMore}
use Rattle.krates_drawing.specs.Outline.{CrateRow, EdgeRow, Meaning, OwnFeature, Crates, FeatureOf, FeatureRow, Outline}
use Rattle.krates_drawing.proofs.Parts.{whole, part_filter, part_any, spread_length, mapped_length, joined_length}

-- each list of the first outline is a part of that of the second
pub record IsPartOutline (t v : Outline) : Type 0 where
  pub krates : IsPart t.krates v.krates
  pub links : IsPart t.links v.links
  pub features : IsPart t.features v.features
  pub toggled : IsPart t.toggled v.toggled

-- ---- from crates

same_uses : (t v : Outline) (l : EdgeRow) (given : List Text) → length (uses t l given) ≤ length (uses v l given)
unfolding uses
same_uses t v l [] = omega arith
same_uses t v l (f ∷ fs) = mapped_length _ _ (f ∷ fs) (f ∷ fs) (whole (f ∷ fs))

fewer_pairs : (t v : Outline) (p q : Id) → IsPartOutline t v → length (pair_lines t p q) ≤ length (pair_lines v p q)
unfolding pair_lines
fewer_pairs t v p q w =
    joined_length _ _ _ _
    (spread_length (λ l. uses t l l.given) (λ l. uses v l l.given) (filter (is_link p q) t.links) (filter (is_link p q) v.links) (λ l. same_uses t v l l.given) (part_filter (is_link p q) (is_link p q) t.links v.links (λ x e. e) w.links))
    (mapped_length _ _ _ _ (part_filter (is_between p q) (is_between p q) t.toggled v.toggled (λ x e. e) w.toggled))

fewer_of_crate : (t v : Outline) (k : CrateRow) → IsPartOutline t v → length (crate_lines t k) ≤ length (crate_lines v k)
unfolding crate_lines
fewer_of_crate t v k w =
    spread_length (λ (q : CrateRow). pair_lines t k.id q.id) (λ q. pair_lines v k.id q.id) (filter (λ q. leads t k.id q.id) t.krates) (filter (λ q. leads v k.id q.id) v.krates) (λ q. fewer_pairs t v k.id q.id w)
    (part_filter (λ q. leads t k.id q.id) (λ q. leads v k.id q.id) t.krates v.krates (λ q e. part_any (is_link k.id q.id) t.links v.links w.links e) w.krates)

-- ---- from features

leading : (t v : Outline) (p : Id) (ids : List Id) → IsPartOutline t v → IsPart (filter (leads t p) ids) (filter (leads v p) ids)
leading t v p ids w = part_filter (leads t p) (leads v p) ids ids (λ q e. part_any (is_link p q) t.links v.links w.links e) (whole ids)

fewer_targets : (t v : Outline) (p : Id) (m : Meaning) → IsPartOutline t v → length (targets t p m) ≤ length (targets v p m)
fewer_targets t v p (OwnFeature g) w = omega arith
fewer_targets t v p (Crates ids) w = mapped_length _ _ _ _ (leading t v p ids w)
fewer_targets t v p (FeatureOf ids g) w = mapped_length _ _ _ _ (leading t v p ids w)

fewer_of_feature : (t v : Outline) (n : FeatureRow) → IsPartOutline t v → length (feature_lines t n) ≤ length (feature_lines v n)
unfolding feature_lines
fewer_of_feature t v n w =
    let le = spread_length (targets t n.krate) (targets v n.krate) n.meanings n.meanings (λ m. fewer_targets t v n.krate m w) (whole n.meanings) in
    rw (length-map (flat_map (targets t n.krate) n.meanings) (λ e. line t (AtFeature n.krate n.name) e Feature), length-map (flat_map (targets v n.krate) n.meanings) (λ e. line v (AtFeature n.krate n.name) e Feature)) (omega (arith, le))

-- ---- all

fewer_lines : (t v : Outline) → IsPartOutline t v → length (planned_edges t) ≤ length (planned_edges v)
unfolding planned_edges
fewer_lines t v w =
    joined_length _ _ _ _
    (spread_length (crate_lines t) (crate_lines v) t.krates v.krates (λ k. fewer_of_crate t v k w) w.krates)
    (spread_length (feature_lines t) (feature_lines v) t.features v.features (λ n. fewer_of_feature t v n w) w.features)

fewer_planned_nodes : (t v : Outline) → IsPartOutline t v → length (planned_nodes t) ≤ length (planned_nodes v)
fewer_planned_nodes t v w =
    joined_length (map (planned_crate t) t.krates) (map (planned_feature t) t.features) (map (planned_crate v) v.krates) (map (planned_feature v) v.features)
    (mapped_length (planned_crate t) (planned_crate v) t.krates v.krates w.krates) (mapped_length (planned_feature t) (planned_feature v) t.features v.features w.features)

pub draws_no_more : (t v : Outline) → IsPartOutline t v → DrawsNoMore t v
draws_no_more t v w = record {
  krates = w.krates;
  links = w.links;
  features = w.features;
  toggled = w.toggled;
  nodes = fewer_planned_nodes t v w;
  edges = fewer_lines t v w;
}
