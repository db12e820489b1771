-- The stored graph of an outline is connected like the drawn one, and the direct queries agree on it.
use Rattle.std.proofs.Common.{◌≡◌, ◌↔◌, ℕ, zero, suc, ◌<◌, ◌^◌, List, [], ◌∷◌, ◌++◌, length, map, Option, Some, None, option_map, slice_get, refl, sym, ap, ◌∙◌, subst}
use Rattle.std.proofs.lemmas.Option.{slice_get-map, same_Some}
use Rattle.krates_cm.specs.Document.{MetadataModel}
use Rattle.krates_drawing.specs.Agreement.{DependsOn, LeadsTo, DependenciesAgree, OneEach}
use Rattle.krates_drawing.specs.Connected as drawn
use Rattle.krates_drawing.specs.Drawing.{PlannedCrate, crate_number, planned_crate, planned_edges, planned_feature, planned_nodes}
use Rattle.krates_drawing.specs.Outline.{CrateRow, FeatureRow, Outline}
use Rattle.krates_drawing.specs.Stored.{IsStoredAs, LeadsAlong}
use Rattle.krates_drawing.specs.declared.edge.Edge.{Edge}
use Rattle.krates_rules.proofs.Members.{member_of, contains_of, partner_of}
use Rattle.krates_drawing.proofs.Storing.{stored_leads}
use Rattle.krates_graph.specs.Graph.{StoredGraph}
use Rattle.krates_ids.specs.Identity.{Identity}
use Rattle.krates_rules.specs.Admission.{NoneDoubled}
use Rattle.krates_rules.specs.Facts.{Id}
use Rattle.krates_rules.specs.Resolved.{id_of, resolved}
use Rattle.krates_rules.specs.Setting.{SettingModel}
use Rattle.krates.specs.BuildLaws.{IsBuildAgreeing}
use Rattle.krates_queries.specs.Direct.{AreConnected, value_at, value_in}
use Rattle.krates_queries.specs.Drawn.{IsDrawing, IsOutlineFor, planned_node}
use Rattle.krates_drawing.specs.Node.{crate_ids, CratesFirst}
use Rattle.krates_drawing.specs.declared.node.Node.{Node}
use Rattle.krates_drawing.specs.declared.node.Node.TheVariants.{Krate, Feature}
use Rattle.krates_queries.proofs.DirectLemmas.{got}

-- ---- connected

value_there : {N : Type 0} (o : Option (Node N)) (id : Id) (m : List (Option ℕ)) → option_map planned_node o ≡ Some (PlannedCrate id m) → (x : N) × (value_in o ≡ Some x)
value_there None id m e = absurd cc
value_there (Some (Krate i krate features mapping)) id m e = (krate, refl)
value_there (Some (Feature krate_index name)) id m e = absurd cc

pub connects : {N E : Type 0} (made : Edge → E → Type 0) (m : MetadataModel) (s : SettingModel) (t : Outline) (g : StoredGraph (Node N) E) → drawn.AreConnected → IsOutlineFor m s t → IsDrawing made t g → length g.nodes < 2 ^ 32
    → AreConnected g.nodes g.edges
connects made m s t g law h d few =
    let c = law (resolved m h.graph) s t h.holds in
    record {
      mappings = λ p k w.
          (let led = c.mappings p k (subst (λ ns. DependsOn ns p k) d.nodes w) in
          let v = value_there (slice_get g.nodes k) led.id led.mapping (sym (slice_get-map planned_node g.nodes k) ∙ ap (λ ns. slice_get ns k) d.nodes ∙ led.at) in
          let along = (stored_leads made (planned_nodes t) (planned_edges t) g.edges p k d.edges).0 led.leads in
          record { krate = v.0; crate = v.1; leads = subst (λ ns. LeadsAlong ns g.edges p k) (sym d.nodes) along });
      features = λ n k name at.
          (let home = c.features n k name (ap (λ ns. slice_get ns n) (sym d.nodes) ∙ at) in
          let w = partner_of (IsStoredAs made) (planned_edges t) g.edges home.line d.edges (member_of (planned_edges t) home.line home.among) in
          record { edge = w.partner; among = contains_of g.edges w.partner w.member; from = w.related.source ∙ home.from; to = w.related.target ∙ home.to });
      numbered = few;
    }

-- ---- agreement

-- the node of a crate
record PlannedCrateAt {N : Type 0} (nodes : List (Node N)) (n : ℕ) (id : Identity) : Type 0 where
  mapping : List (Option ℕ)
  krate : N
  at : slice_get (map planned_node nodes) n ≡ Some (PlannedCrate (id_of id) mapping)
  value : value_at nodes n ≡ Some krate

planned_crate_at : {N : Type 0} (nodes : List (Node N)) (n : ℕ) (id : Identity) → CratesFirst nodes → slice_get (crate_ids nodes) n ≡ Some id → PlannedCrateAt nodes n id
planned_crate_at [] n id first e = absurd cc
planned_crate_at (Krate i k f m ∷ nodes) zero id first e = record { mapping = m.items; krate = k; at = ap (λ (x : Identity). Some (PlannedCrate (id_of x) m.items)) (same_Some i id e); value = refl }
planned_crate_at (Krate i k f m ∷ nodes) (suc n) id first e = let w = planned_crate_at nodes n id first e in record { mapping = w.mapping; krate = w.krate; at = w.at; value = w.value }
planned_crate_at (Feature krate_index name ∷ nodes) n id first e =
    let empty : List Identity = [] in
    let none : slice_get empty n ≡ Some id = subst (λ (ids : List Identity). slice_get ids n ≡ Some id) first e in
    absurd cc

-- what is drawn of features alone has no crate
no_crates_drawn : {N : Type 0} (t : Outline) (nodes : List (Node N)) (fs : List FeatureRow) → map planned_node nodes ≡ map (planned_feature t) fs → crate_ids nodes ≡ []
no_crates_drawn t [] fs e = refl
no_crates_drawn t (Krate id krate features mapping ∷ nodes) [] e = absurd cc
no_crates_drawn t (Krate id krate features mapping ∷ nodes) (f ∷ fs) e = absurd cc
no_crates_drawn t (Feature krate_index name ∷ nodes) [] e = absurd cc
no_crates_drawn t (Feature krate_index name ∷ nodes) (f ∷ fs) e =
    let rest : map planned_node nodes ≡ map (planned_feature t) fs = cc in
    no_crates_drawn t nodes fs rest

-- so in a drawing no crate comes after a feature
first_drawn : {N : Type 0} (t : Outline) (nodes : List (Node N)) (ks : List CrateRow) (fs : List FeatureRow) → map planned_node nodes ≡ map (planned_crate t) ks ++ map (planned_feature t) fs → CratesFirst nodes
first_drawn t [] ks fs e = tt
first_drawn t (Krate id krate features mapping ∷ nodes) [] [] e = absurd cc
first_drawn t (Krate id krate features mapping ∷ nodes) [] (f ∷ fs) e = absurd cc
first_drawn t (Krate id krate features mapping ∷ nodes) (k ∷ ks) fs e =
    let rest : map planned_node nodes ≡ map (planned_crate t) ks ++ map (planned_feature t) fs = cc in
    first_drawn t nodes ks fs rest
first_drawn t (Feature krate_index name ∷ nodes) [] [] e = absurd cc
first_drawn t (Feature krate_index name ∷ nodes) [] (f ∷ fs) e =
    let rest : map planned_node nodes ≡ map (planned_feature t) fs = cc in
    no_crates_drawn t nodes fs rest
first_drawn t (Feature krate_index name ∷ nodes) (k ∷ ks) fs e = absurd cc

pub agrees : {N E : Type 0} (made : Edge → E → Type 0) → drawn.AreConnected → DependenciesAgree → (m : MetadataModel) (s : SettingModel) (g : StoredGraph (Node N) E) → IsBuildAgreeing made m s g
agrees made law agree m s g a y i o p d at lt =
    let t = y.outline in
    let h = y.is_outline in
    let z = y.drawing in
    let first = first_drawn t g.nodes t.krates t.features z.nodes in
    let r = resolved m h.graph in
    let c = law r s t h.holds in
    let one : OneEach r s i = subst (λ x. OneEach (resolved m x) s i) (same_Some o.graph h.graph (sym o.has_graph ∙ h.has_graph)) o.holds in
    let none : NoneDoubled m h.graph = subst (NoneDoubled m) (same_Some a.graph h.graph (sym a.has_graph ∙ h.has_graph)) a.none_doubled in
    let here = planned_crate_at g.nodes p at.there first at.at in
    let from = c.crates p (id_of at.there) here.mapping (ap (λ ns. slice_get ns p) (sym z.nodes) ∙ here.at) in
    let other = got (crate_ids g.nodes) d lt in
    let there = planned_crate_at g.nodes d other.0 first other.1 in
    let to = c.crates d (id_of other.0) there.mapping (ap (λ ns. slice_get ns d) (sym z.nodes) ∙ there.at) in
    let both = agree r s none t h.holds (id_of at.there) (id_of other.0) from.kept to.kept (subst (OneEach r s) (sym at.same) one) in
    let numbered : DependsOn (planned_nodes t) p d ↔ LeadsTo (planned_nodes t) (planned_edges t) p d =
    subst (λ n. DependsOn (planned_nodes t) p n ↔ LeadsTo (planned_nodes t) (planned_edges t) p n) to.number
    (subst (λ n. DependsOn (planned_nodes t) n (crate_number t (id_of other.0)) ↔ LeadsTo (planned_nodes t) (planned_edges t) n (crate_number t (id_of other.0))) from.number both) in
    let stored = stored_leads made (planned_nodes t) (planned_edges t) g.edges p d z.edges in (
      λ w. record { krate = here.krate; crate = here.value; leads = subst (λ ns. LeadsAlong ns g.edges p d) (sym z.nodes) (stored.0 (numbered.0 (subst (λ ns. DependsOn ns p d) z.nodes w))) },
      λ w. subst (λ ns. DependsOn ns p d) (sym z.nodes) (numbered.1 (stored.1 (subst (λ ns. LeadsAlong ns g.edges p d) z.nodes w.leads))),
    )
