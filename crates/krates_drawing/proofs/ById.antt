-- The lists of the program's outline, with the ids of crates in place of their numbers, are in the outline's orders.
use Rattle.std.proofs.Common.{length, map, rules, refl, ap, ◌∙◌}
use Rattle.std.proofs.lemmas.List.Elements.{recursion_from_All}
use Rattle.std.specs.Cmp.{IsTotalOrder}
use Rattle.std.specs.Cmp.Lexicographic.{slice_cmp}
use Rattle.std.specs.Cmp.Rules.{comparing}
use Rattle.std.specs.Global.{Vec}
use Rattle.std.specs.List.Sorted.{IsStrictlySortedBy}
use Rattle.std.specs.Ordering.{nat_cmp, ordering_then}
use Rattle.krates_cm.specs.Document.{text_view}
use Rattle.krates_ids.specs.Identity.{id_cmp}
use Rattle.krates_rules.proofs.SeenInOrder.{sorted_seen, sorted_unseen}
use Rattle.krates_selection.specs.Selection.{HasCrates, HasEnds, HasHome, id_at, place_cmp, feature_cmp, toggled_cmp}
use Rattle.krates_selection.specs.declared.selection.ToggledFeature.{ToggledFeature}
use Rattle.krates_rules.specs.Referent.{id_order}
use Rattle.krates_drawing.specs.InOrder.{AreInOrder}
use Rattle.krates_drawing.specs.Outline.{crate_order, link_order, enabled_order, toggle_order}
use Rattle.krates_drawing.specs.Views.{kids_of, crate_row_view, edge_row_view, feature_row_view, toggle_of}
use Rattle.krates_drawing.specs.declared.outline.CrateRow.{CrateRow}
use Rattle.krates_drawing.specs.declared.outline.EdgeRow.{EdgeRow}
use Rattle.krates_drawing.specs.declared.outline.FeatureRow.{FeatureRow}
use Rattle.krates_drawing.proofs.CratePlaces.{ids_compare}
use Rattle.krates_drawing.proofs.Tests.{sorted_as}

-- ---- orders

pub id_order_total : IsTotalOrder id_order
id_order_total = search (comparing, rules) depth 9

pub crates_total : IsTotalOrder crate_order
crates_total = search (comparing, rules) depth 9

pub links_total : IsTotalOrder link_order
links_total = search (comparing, rules) depth 9

pub features_total : IsTotalOrder enabled_order
features_total = search (comparing, rules) depth 9

pub toggles_total : IsTotalOrder toggle_order
toggles_total = search (comparing, rules) depth 9

-- ---- the lists

module _ (ks : Vec CrateRow) (ls : Vec EdgeRow) (fs : Vec FeatureRow) (ts : Vec ToggledFeature) (o : AreInOrder ks ls fs ts) where
  pub crates_sorted : IsStrictlySortedBy crate_order (map crate_row_view ks.items)
  crates_sorted = sorted_as id_cmp crate_order (λ (k : CrateRow). k.id) crate_row_view (λ a b. refl) ks.items o.krates

  pub links_sorted : IsStrictlySortedBy link_order (map (edge_row_view (kids_of ks.items)) ls.items)
  links_sorted = sorted_seen (λ (a b : EdgeRow). place_cmp a.edge b.edge) link_order (edge_row_view (kids_of ks.items)) (λ (l : EdgeRow). HasEnds (length ks.items) l.edge)
      (λ a b p q.
      ap (λ z. ordering_then z (ordering_then (id_order (id_at (kids_of ks.items) a.edge.child) (id_at (kids_of ks.items) b.edge.child)) (nat_cmp a.edge.place b.edge.place))) (ids_compare ks.items a.edge.parent b.edge.parent o.krates p.parent q.parent)
      ∙ ap (λ z. ordering_then (nat_cmp a.edge.parent b.edge.parent) (ordering_then z (nat_cmp a.edge.place b.edge.place))) (ids_compare ks.items a.edge.child b.edge.child o.krates p.child q.child))
      ls.items (recursion_from_All (λ (l : EdgeRow). HasEnds (length ks.items) l.edge) ls.items o.ends) (sorted_unseen place_cmp (λ (l : EdgeRow). l.edge) ls.items o.links)

  pub features_sorted : IsStrictlySortedBy enabled_order (map (feature_row_view (kids_of ks.items)) fs.items)
  features_sorted = sorted_seen (λ (a b : FeatureRow). feature_cmp a.feature b.feature) enabled_order (feature_row_view (kids_of ks.items)) (λ (n : FeatureRow). HasHome (length ks.items) n.feature)
      (λ a b p q. ap (λ z. ordering_then z (slice_cmp nat_cmp (text_view a.feature.name) (text_view b.feature.name))) (ids_compare ks.items a.feature.krate b.feature.krate o.krates p q))
      fs.items (recursion_from_All (λ (n : FeatureRow). HasHome (length ks.items) n.feature) fs.items o.homes) (sorted_unseen feature_cmp (λ (n : FeatureRow). n.feature) fs.items o.features)

  pub toggles_sorted : IsStrictlySortedBy toggle_order (map (toggle_of (kids_of ks.items)) ts.items)
  toggles_sorted = sorted_seen toggled_cmp toggle_order (toggle_of (kids_of ks.items)) (HasCrates (length ks.items))
      (λ a b p q.
      ap (λ z. ordering_then z (ordering_then (id_order (id_at (kids_of ks.items) a.krate) (id_at (kids_of ks.items) b.krate)) (slice_cmp nat_cmp (text_view a.name) (text_view b.name)))) (ids_compare ks.items a.by b.by o.krates p.by q.by)
      ∙ ap (λ z. ordering_then (nat_cmp a.by b.by) (ordering_then z (slice_cmp nat_cmp (text_view a.name) (text_view b.name)))) (ids_compare ks.items a.krate b.krate o.krates p.krate q.krate))
      ts.items (recursion_from_All (HasCrates (length ks.items)) ts.items o.toggled_crates) o.toggled
