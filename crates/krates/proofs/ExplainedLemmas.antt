-- The steps of a selection explain what a build keeps.
use Rattle.std.proofs.Common.{◌≡◌, ◌<◌, ℕ, List, [], ◌∷◌, map, length, get_or, Option, Some, option_map, Contains, inl, inr, refl, sym, ap, ◌∙◌, subst, arith}
use Rattle.std.proofs.lemmas.List.{length-map}
use Rattle.std.proofs.lemmas.Option.{get_or_from_slice_get, slice_get-get_or, slice_get-map, slice_get_within}
use Rattle.std.specs.List.{slice_get}
use Rattle.std.specs.List.Sorted.{IsStrictlySortedBy}
use Rattle.krates_cm.specs.Document.{MetadataModel, Text, metadata_view, text_view}
use Rattle.krates_cm.specs.declared.metadata.Metadata.{Metadata}
use Rattle.krates_cm.specs.declared.package.Package.{Package}
use Rattle.krates_rules.proofs.Members.{Member, contains_of, mapped_of, member_append, member_map, member_of}
use Rattle.krates_drawing.specs.Views.{kids_in, outline_view}
use Rattle.krates_drawing.specs.declared.edge.Edge.{Edge}
use Rattle.krates_drawing.specs.declared.outline.Outline.{Outline}
use Rattle.krates_selection.proofs.KeptFactLemmas.{same_in}
use Rattle.krates_selection.proofs.PickedSteps.{seen_back}
use Rattle.krates_selection.specs.KeptFacts.{AreBelow, Enables, IsBelow, KeepsCrate, KeepsEdge, KeptModel, Toggles, fact_in, facts_in, kept_view, step_in, steps_in}
use Rattle.krates_selection.specs.Selection.{id_at, no_id, IsExplained, IsExplainedOf, IsSelection, crate_fact, edge_fact, facts_of, feature_fact, toggled_fact}
use Rattle.krates_selection.specs.KeptTables.{AreStepsOf, IsKeptIn}
use Rattle.krates_selection.specs.declared.kept.KeptStep.{KeptStep}
use Rattle.krates_graph.specs.Graph.{StoredGraph}
use Rattle.krates_ids.specs.Identity.{Identity, empty_identity, id_cmp}
use Rattle.krates_selection.specs.declared.selection.Selection.{Selection}
use Rattle.krates_rules.proofs.ListsOfSteps.{contained_derived}
use Rattle.krates_rules.proofs.OnlyOne.{place_in}
use Rattle.krates_rules.proofs.Standings.{contains_at}
use Rattle.krates_rules.specs.Derivation.{Derivable}
use Rattle.krates_rules.specs.Facts.{Id, Fact, Crate, Feature}
use Rattle.krates_rules.specs.Questions.{questions}
use Rattle.krates_rules.specs.Resolved.{HasGraphWith, Resolved, StandsAt, id_of, resolved}
use Rattle.krates_rules.specs.Setting.{SettingModel}
use Rattle.krates_rules.specs.StepParts.{HaveOwnFacts}
use Rattle.krates_rules.specs.Steps.{EachFollows, StepModel}
use Rattle.krates_queries.proofs.NodeLemmas.{crate_id, feature_member, as_many_features, place_at}
use Rattle.krates.proofs.BuildLemmas.{Builds, enabled}
use Rattle.krates.proofs.DrawnLemmas.{kept_ids}
use Rattle.krates.proofs.EnabledLemmas.{stands_at_some}
use Rattle.krates_rules.proofs.OrderedIds.{Compares}
use Rattle.krates.proofs.FeaturesDrawn.{viewed_ids}
use Rattle.krates_queries.specs.Drawn.{IsOutlineFor}
use Rattle.krates_queries.specs.Why.{AreExplained, AreStepsFor, HasStepOf, IsExplainedBy, node_says}
use Rattle.krates_queries.specs.Kept.{AreNodes, IsEnabledIn}
use Rattle.krates.specs.KeptGraph.{IsGraphOf}
use Rattle.krates_drawing.specs.Node.{crate_features, crate_ids}
use Rattle.krates_drawing.specs.declared.division.Division.{Division}
use Rattle.krates_drawing.specs.declared.node.Node.{Node}
use Rattle.krates_drawing.specs.declared.node.Node.TheVariants as nodes_are

-- ---- the steps of a selection

-- a document has only one graph
pub explained_in : (m : MetadataModel) (s : SettingModel) (x : Selection) (r : Resolved) → IsExplainedOf m s x → HasGraphWith m (λ g. r ≡ resolved m g) → IsExplained r s x
explained_in m s x r e h =
    let same : e.graph ≡ h.graph = cc (e.has_graph, h.has_graph) in
    rw h.holds (subst (λ g. IsExplained (resolved m g) s x) same e.holds)

-- no fact of these is that a crate is kept
no_crate : {X : Type 0} (fact : X → Fact) (xs : List X) (i : Id) → ((x : X) → fact x ≡ Crate i → ⊥) → Member (map fact xs) (Crate i) → ⊥
no_crate fact xs i none m = let w = mapped_of fact xs (Crate i) m in none w.from w.is

-- a crate among a selection's facts is one of its crates
crate_among : (x : Selection) (i : Id) → Member (facts_of x) (Crate i) → Member (map id_of x.krates.items) i
crate_among x i m = elim (member_append (map crate_fact x.krates.items) _ (Crate i) m) [
  | inl here ↦
      (let w = mapped_of crate_fact x.krates.items (Crate i) here in
      let same : id_of w.from ≡ i = cc (w.is) in
      subst (Member (map id_of x.krates.items)) same (member_map id_of x.krates.items w.from w.member))
  | inr more ↦ elim (member_append (map (edge_fact x.krates.items) x.edges.items) _ (Crate i) more) [
    | inl edge ↦ absurd (no_crate (edge_fact x.krates.items) x.edges.items i (λ e h. cc h) edge)
    | inr rest ↦ elim (member_append (map (feature_fact x.krates.items) x.features.items) _ (Crate i) rest) [
      | inl feature ↦ absurd (no_crate (feature_fact x.krates.items) x.features.items i (λ e h. cc h) feature)
      | inr toggled ↦ absurd (no_crate (toggled_fact x.krates.items) x.toggled.items i (λ t h. cc h) toggled)
    ]
  ]
]

-- the derivable crates are those of the selection
pub crates_in : (r : Resolved) (s : SettingModel) (x : Selection) → IsSelection r s x → (i : Id) → Derivable (questions r s) (Crate i) → IsKeptIn x.krates.items i
crates_in r s x sel i d = stands_at_some x.krates.items i (crate_among x i (member_of (facts_of x) (Crate i) ((sel.facts (Crate i)).0 d)))

-- a fact of a list of steps belongs to one of the steps
step_with : (steps : List StepModel) (f : Fact) → Contains (facts_in steps) f → (x : StepModel) × Contains steps x × (x.fact ≡ f)
step_with steps f c =
    let at = place_in (facts_in steps) f c in
    let w = seen_back (λ (x : StepModel). x.fact) steps at.0 f at.1 in
    (w.0, contains_at steps at.0 w.0 w.1, w.2)

pub steps_for : (m : MetadataModel) (s : SettingModel) (x : Selection) (r : Resolved) (steps : List KeptStep) → HasGraphWith m (λ g. IsSelection (resolved m g) s x) → IsExplainedOf m s x → HasGraphWith m (λ g. r ≡ resolved m g)
    → AreStepsOf r s x.krates.items x.steps.items steps → AreStepsFor m s x.krates.items steps
steps_for m s x r steps sel e h a =
    let told = steps_in x.krates.items steps in
    let at = explained_in m s x r e h in
    let selected = (let same : sel.graph ≡ h.graph = cc (sel.has_graph, h.has_graph) in subst (λ g. IsSelection (resolved m g) s x) same sel.holds) in
    let here : IsSelection r s x = rw h.holds selected in
    let follows : EachFollows (questions (resolved m h.graph) s) told = subst (λ (z : Resolved). EachFollows (questions z s) told) h.holds a.follows in
    record {
      below = a.below;
      backward = a.backward;
      own = a.own;
      explained = record {
        follows = record { graph = h.graph; has_graph = h.has_graph; holds = follows };
        facts = λ f. (
          λ d. (
              let same : d.graph ≡ h.graph = cc (d.has_graph, h.has_graph) in
              let there : Derivable (questions (resolved m h.graph) s) f = subst (λ g. Derivable (questions (resolved m g) s) f) same d.holds in
              let derived : Derivable (questions r s) f = rw h.holds there in
              a.facts f (at.stepped f ((here.facts f).0 derived))),
          λ c. (
              let w = step_with told f c in
              record { graph = h.graph; has_graph = h.has_graph; holds = subst (Derivable (questions (resolved m h.graph) s)) w.2 (contained_derived (questions (resolved m h.graph) s) told follows w.0 w.1) }),
        );
      };
    }

-- ---- the same for equal ids

same_at : (is js : List Identity) (n : ℕ) → map id_of is ≡ map id_of js → id_at is n ≡ id_at js n
same_at is js n e = ap (λ (ids : List Id). get_or ids n no_id) e

same_fact : (is js : List Identity) → map id_of is ≡ map id_of js → (f : KeptModel) → fact_in is f ≡ fact_in js f
same_fact is js e (KeepsCrate n) = ap (λ (i : Id). Crate i) (same_at is js n e)
same_fact is js e (Enables n f) = ap (λ (i : Id). Feature i f) (same_at is js n e)
same_fact is js e (KeepsEdge p c k t) = rw (same_at is js p e, same_at is js c e) refl
same_fact is js e (Toggles p c f) = rw (same_at is js p e, same_at is js c e) refl

same_steps : (is js : List Identity) → map id_of is ≡ map id_of js → (steps : List KeptStep) → steps_in is steps ≡ steps_in js steps
same_steps is js e [] = refl
same_steps is js e (x ∷ xs) =
    let one : step_in is x ≡ step_in js x = rw (same_fact is js e (kept_view x.fact)) refl in
    ap (λ (y : StepModel). y ∷ steps_in is xs) one ∙ ap (λ ys. step_in js x ∷ ys) (same_steps is js e xs)

moved : (m : MetadataModel) (s : SettingModel) (is js : List Identity) (steps : List KeptStep) → map id_of is ≡ map id_of js → AreStepsFor m s js steps → AreStepsFor m s is steps
moved m s is js steps e a =
    let same = same_steps is js e steps in
    let long : length is ≡ length js = sym (length-map is id_of) ∙ ap (λ (ids : List Id). length ids) e ∙ length-map js id_of in
    record {
      below = subst (λ n. AreBelow n steps) (sym long) a.below;
      backward = a.backward;
      own = subst HaveOwnFacts (sym same) a.own;
      explained = subst (IsExplainedBy m s) (sym same) a.explained;
    }

-- the steps, for the ids of the graph's crates
pub kept_steps : Compares → {N E : Type 0} (made : Package → N → Type 0) (made_edge : Edge → E → Type 0) (m : Metadata) (s : SettingModel) (t : Outline) (d : Division) (g : StoredGraph (Node N) E) (steps : List KeptStep)
    → IsOutlineFor (metadata_view m) s (outline_view t) → Builds m s d → IsGraphOf made made_edge (outline_view t) d.kept.items g → AreStepsFor (metadata_view m) s (kids_in t) steps → AreStepsFor (metadata_view m) s (crate_ids g.nodes) steps
kept_steps o made made_edge m s t d g steps h b w a =
    let ids : map id_of (crate_ids g.nodes) ≡ map id_of (kids_in t) = ap (λ (is : List Identity). map id_of is) w.ids ∙ kept_ids o m s t d h b ∙ sym (viewed_ids t.krates.items) in
    moved (metadata_view m) s (crate_ids g.nodes) (kids_in t) steps ids a

-- ---- each node has a step

has_step : Compares → (kids : List Identity) (steps : List KeptStep) (v : KeptModel) → IsStrictlySortedBy id_cmp kids → AreBelow (length kids) steps → IsBelow (length kids) v → Contains (facts_in (steps_in kids steps)) (fact_in kids v) → HasStepOf steps v
has_step o kids steps v sorted all low c =
    let at = place_in (facts_in (steps_in kids steps)) (fact_in kids v) c in
    let y = seen_back (λ (x : StepModel). x.fact) (steps_in kids steps) at.0 (fact_in kids v) at.1 in
    let z = seen_back (step_in kids) steps at.0 y.0 y.1 in
    let below : IsBelow (length kids) (kept_view z.0.fact) = subst (λ (x : KeptStep). IsBelow (length kids) (kept_view x.fact)) (get_or_from_slice_get steps at.0 z.0 z.0 z.1) (all at.0 z.0 (slice_get_within steps at.0 z.0 z.1)) in
    let says = ap (λ (x : StepModel). x.fact) z.2 ∙ y.2 in
    (at.0, record { step = z.0; at = z.1; says = same_in o.tells kids sorted (kept_view z.0.fact) v below low says })

module _ {N : Type 0} (o : Compares) (nodes : List (Node N)) (steps : List KeptStep) (are : AreNodes nodes) (all : AreBelow (length (crate_ids nodes)) steps)
    (crates : (i : Id) → Contains (map id_of (crate_ids nodes)) i → Contains (facts_in (steps_in (crate_ids nodes) steps)) (Crate i))
    (features : (i : Id) (f : Text) → IsEnabledIn (crate_ids nodes) (crate_features nodes) i f → Contains (facts_in (steps_in (crate_ids nodes) steps)) (Feature i f)) where
  each_node : (n : ℕ) (node : Node N) → slice_get nodes n ≡ Some node → HasStepOf steps (node_says n node)
  each_node n (nodes_are.Krate id krate sets mapping) at =
      let here = (place_at nodes n id krate sets mapping are.first at).0 in
      let is = crate_id (crate_ids nodes) n id here in
      let among : Contains (map id_of (crate_ids nodes)) (id_of id) = contains_at (map id_of (crate_ids nodes)) n (id_of id) (slice_get-map id_of (crate_ids nodes) n ∙ ap (λ (x : Option Identity). option_map id_of x) here) in
      has_step o (crate_ids nodes) steps (KeepsCrate n) are.ordered.ascending all (slice_get_within (crate_ids nodes) n id here) (subst (λ i. Contains (facts_in (steps_in (crate_ids nodes) steps)) (Crate i)) (sym is) (crates (id_of id) among))
  each_node n (nodes_are.Feature k name) at =
      let member = feature_member nodes n k (text_view name) (record { node = nodes_are.Feature k name; at = at; is = (refl, refl) }) in
      let named = (are.features.exactly k (text_view name)).0 (contains_of _ _ member) in
      let low : k < length (crate_ids nodes) = omega (arith, as_many_features nodes, slice_get_within (crate_features nodes) k named.names named.at) in
      let w = slice_get-get_or (crate_ids nodes) k empty_identity low in
      let stands : StandsAt (crate_ids nodes) (id_at (crate_ids nodes) k) k = record { there = get_or (crate_ids nodes) k empty_identity; at = w; same = sym (crate_id (crate_ids nodes) k (get_or (crate_ids nodes) k empty_identity) w) } in
      let enabled_in : IsEnabledIn (crate_ids nodes) (crate_features nodes) (id_at (crate_ids nodes) k) (text_view name) = record { names = named.names; theirs = record { place = k; stands = stands; at = named.at }; among = named.among } in
      has_step o (crate_ids nodes) steps (Enables k (text_view name)) are.ordered.ascending all low (features (id_at (crate_ids nodes) k) (text_view name) enabled_in)

pub explains : Compares → {N E : Type 0} (made : Package → N → Type 0) (made_edge : Edge → E → Type 0) (m : Metadata) (s : SettingModel) (t : Outline) (d : Division) (g : StoredGraph (Node N) E) (steps : List KeptStep)
    → IsOutlineFor (metadata_view m) s (outline_view t) → Builds m s d → IsGraphOf made made_edge (outline_view t) d.kept.items g → AreNodes g.nodes
    → AreStepsFor (metadata_view m) s (kids_in t) steps → AreExplained g.nodes steps
explains o made made_edge m s t d g steps h b w are a =
    let z = kept_steps o made made_edge m s t d g steps h b w a in
    let enabled_is = enabled m s (outline_view t) d (λ i f. IsEnabledIn (crate_ids g.nodes) (crate_features g.nodes) i f) h b w.enabled in
    let crates : (i : Id) → Contains (map id_of (crate_ids g.nodes)) i → Contains (facts_in (steps_in (crate_ids g.nodes) steps)) (Crate i) = λ i c. (z.explained.facts (Crate i)).0 ((b.kept i).1 (subst (λ (is : List Identity). Contains (map id_of is) i) w.ids c)) in
    let features : (i : Id) (f : Text) → IsEnabledIn (crate_ids g.nodes) (crate_features g.nodes) i f → Contains (facts_in (steps_in (crate_ids g.nodes) steps)) (Feature i f) = λ i f c. (z.explained.facts (Feature i f)).0 ((enabled_is i f).1 c) in
    record {
      below = z.below;
      backward = z.backward;
      own = z.own;
      each = each_node o g.nodes steps are z.below crates features;
    }
