-- The graph of what is kept, assembled.
use Rattle.std.proofs.Common.{◌≡◌, ◌↔◌, ◌∙◌, ℕ, ◌<◌, ◌^◌, List, [], ◌∷◌, All, Contains, Result, Ok, Err, IfOk, get_or, length, map, refl, sym, ap, subst}
use Rattle.std.proofs.lemmas.List.{length-map}
use Rattle.std.proofs.lemmas.Option.{slice_get_within}
use Rattle.std.specs.BTreeSet.{BTreeSet}
use Rattle.std.specs.List.{AllZip, FoldsTo}
use Rattle.std.specs.List.Sorted.{IsStrictlySortedBy}
use Rattle.std.specs.Prelude.{String}
use Rattle.std.specs.declared.alloc.Global.{Global}
use Rattle.krates_cm.specs.Document.{MetadataModel, Text, text_view, metadata_view}
use Rattle.krates_cm.specs.declared.metadata.Metadata.{Metadata}
use Rattle.krates_cm.specs.declared.package.Package.{Package}
use Rattle.krates_drawing.specs.Drawing.{PlannedEdge, planned_edges, planned_nodes}
use Rattle.krates_drawing.specs.Ends.{EndsStand, HasEnds}
use Rattle.krates_drawing.specs.Outline as model
use Rattle.krates_drawing.specs.Outline.{IsOutline}
use Rattle.krates_drawing.specs.WorkOfOutline.{work_of}
use Rattle.krates_selection.specs.declared.work.Work.{Work}
use Rattle.krates_drawing.specs.Stored.{IsStoredAs}
use Rattle.krates_drawing.specs.Views.{crate_row_view, feature_row_view, outline_view}
use Rattle.krates_drawing.specs.declared.edge.Edge.{Edge}
use Rattle.krates_drawing.specs.declared.outline.CrateRow.{CrateRow}
use Rattle.krates_drawing.specs.declared.outline.FeatureRow.{FeatureRow}
use Rattle.krates_drawing.specs.declared.outline.Outline.{Outline}
use Rattle.krates_graph.specs.Graph.{StoredGraph}
use Rattle.krates_ids.specs.Identity.{Identity, id_cmp}
use Rattle.krates_selection.specs.Selection.{id_at, no_id, feature_fact}
use Rattle.krates_selection.specs.declared.selection.EnabledFeature.{EnabledFeature}
use Rattle.krates_rules.specs.Facts.{Id, Feature}
use Rattle.krates_rules.specs.Resolved.{HasGraphWith, Resolved, id_of, resolved}
use Rattle.krates_rules.specs.Setting.{SettingModel}
use Rattle.krates.specs.Build.{AreKeptMembers, IsBuilt, IsResolvable, KeepsCrate}
use Rattle.krates.specs.BuildLaws.{IsBuildAgreeing}
use Rattle.krates_drawing.specs.Listed.{AreThosePackages}
use Rattle.krates_drawing.specs.Division.{IsAmong, IsDivision, outline_ids, krate_ids, krate_packages}
use Rattle.krates_selection.specs.KeptFacts.{steps_in}
use Rattle.krates_selection.specs.declared.kept.KeptStep.{KeptStep}
use Rattle.krates_queries.specs.Why.{IsExplainedBy}
use Rattle.krates_queries.specs.Drawn.{IsDrawn, IsNumbered, IsOutlineFor}
use Rattle.krates.specs.Enabled.{AreEnabledSets, numbered}
use Rattle.krates_queries.proofs.NodeLemmas.{enabled_listed, crate_id}
use Rattle.krates_queries.specs.Kept.{AreFeatures, AreNodes, IsEnabledIn, IsNameAt, names_in_each}
use Rattle.krates.specs.KeptGraph.{IsGraphOf, named_fact}
use Rattle.krates.specs.MadeNodes.{IsMade}
use Rattle.krates_drawing.specs.Node.{crate_ids, crate_values, crate_features, CratesFirst, names_in}
use Rattle.krates_drawing.specs.declared.division.Division.{Division}
use Rattle.krates_drawing.specs.declared.division.Krate.{Krate}
use Rattle.krates_drawing.specs.declared.node.Node.{Node}
use Rattle.krates.proofs.BuildLemmas.{Builds, builds, enabled}
use Rattle.krates.proofs.MadeLemmas.{AreDrawnNodes, alike, first_alike, mapped_length}
use Rattle.krates_rules.proofs.Members.{Member, member_of, contains_of, mapped_of, member_map}
use Rattle.krates.proofs.EnabledLemmas.{listed_at}
use Rattle.krates.proofs.FeaturesDrawn.{are_features, stands_here, viewed_ids}
use Rattle.krates_drawing.proofs.DivisionLemmas.{ReadsOnce}
use Rattle.krates_rules.proofs.OrderedIds.{Compares, HasLike, one_order}
use Rattle.krates.proofs.OutlineFacts.{kept_among}

-- ---- the outline

pub outline_told : (m : MetadataModel) (s : SettingModel) (r : Resolved) (t : model.Outline) → HasGraphWith m (λ g. r ≡ resolved m g) → IsOutline r s t → IsOutlineFor m s t
outline_told m s r t h is = record { graph = h.graph; has_graph = h.has_graph; holds = rw (← h.holds) is }

-- ---- the features of the outline

-- features of crates whose ids are the same are the same facts
pub facts_in : (ids kids : List Identity) (ns : List FeatureRow) → map id_of ids ≡ map id_of kids → map (feature_fact ids) (map (λ (n : FeatureRow). n.feature) ns) ≡ map named_fact (map (feature_row_view kids) ns)
facts_in ids kids [] e = refl
facts_in ids kids (n ∷ ns) e =
    ap (λ fs. feature_fact ids n.feature ∷ fs) (facts_in ids kids ns e) ∙ ap (λ (is : List Id). Feature (get_or is n.feature.krate no_id) (text_view n.feature.name) ∷ map named_fact (map (feature_row_view kids) ns)) e

-- the crates of an outline are as many as those with the same ids
pub as_many_crates : (krates : List Krate) (ks : List CrateRow) → map id_of (krate_ids krates) ≡ map (λ (k : model.CrateRow). k.id) (map crate_row_view ks) → length ks ≡ length krates
as_many_crates krates ks e =
    sym (length-map ks (λ (k : CrateRow). k.id)) ∙ sym (length-map (outline_ids ks) id_of) ∙ ap length (viewed_ids ks ∙ sym e) ∙ length-map (krate_ids krates) id_of ∙ mapped_length krates

-- what is enabled by number is enabled by id
enabled_by_id : (ids : List Identity) (lists : List (List Text)) (features : List EnabledFeature) → length lists ≡ length ids → ((n : ℕ) (f : Text) → IsNameAt lists n f ↔ Contains (map numbered features) (n, f))
    → (i : Id) (f : Text) → IsEnabledIn ids lists i f ↔ (IsAmong ids i × Contains (map (feature_fact ids) features) (Feature i f))
enabled_by_id ids lists features same so i f = (
  λ h.
      (let stands = h.theirs.stands in
      let w = mapped_of numbered features (h.theirs.place, f) (member_of _ (h.theirs.place, f) ((so h.theirs.place f).0 (record { names = h.names; at = h.theirs.at; among = h.among }))) in
      let place : w.from.krate ≡ h.theirs.place = ap (λ (p : ℕ × Text). p.0) w.is in
      let name : text_view w.from.name ≡ f = ap (λ (p : ℕ × Text). p.1) w.is in
      let id : id_at ids w.from.krate ≡ i = ap (id_at ids) place ∙ (crate_id ids h.theirs.place stands.there stands.at ∙ stands.same) in
      let fact : feature_fact ids w.from ≡ Feature i f = ap (λ j. Feature j (text_view w.from.name)) id ∙ ap (Feature i) name in (
        contains_of (map id_of ids) i (subst (λ z. Member (map id_of ids) z) stands.same (listed_at ids h.theirs.place stands.there stands.at)),
        contains_of (map (feature_fact ids) features) (Feature i f) (subst (Member (map (feature_fact ids) features)) fact (member_map (feature_fact ids) features w.from w.member)),
      )),
  λ both.
      (let w = mapped_of (feature_fact ids) features (Feature i f) (member_of _ (Feature i f) both.1) in
      let id : id_at ids w.from.krate ≡ i = cc (w.is) in
      let name : text_view w.from.name ≡ f = cc (w.is) in
      let here : ◌≡◌ {A = ℕ × Text} (numbered w.from) (w.from.krate, f) = ap (λ (t : Text). (w.from.krate, t)) name in
      let at = (so w.from.krate f).1 (contains_of _ (w.from.krate, f) (subst (Member (map numbered features)) here (member_map numbered features w.from w.member))) in
      let within : w.from.krate < length ids = subst (λ n. w.from.krate < n) same (slice_get_within lists w.from.krate at.names at.at) in
      record { names = at.names; theirs = record { place = w.from.krate; stands = stands_here ids w.from.krate i within id; at = at.at }; among = at.among }),
)

-- ---- the graph of the outline

pub graph_is : {N E : Type 0} (made : Package → N → Type 0) (made_edge : Edge → E → Type 0) (t : model.Outline) (krates : List Krate) (sets : List (BTreeSet (String Global))) (features : List EnabledFeature)
    (nodes : List (Node Package)) (planned : List PlannedEdge) → AreDrawnNodes t krates sets nodes → length sets ≡ length krates → AreEnabledSets features sets
    → map (feature_fact (krate_ids krates)) features ≡ map named_fact t.features → planned ≡ planned_edges t → (g : StoredGraph (Node N) E) → AllZip (IsMade made) nodes g.nodes → AllZip (IsStoredAs made_edge) planned g.edges → IsGraphOf made made_edge t krates g
graph_is made made_edge t krates sets features nodes planned d matched so facts e g stored edges =
    let w = alike made nodes g.nodes stored in
    let ids : crate_ids g.nodes ≡ krate_ids krates = w.ids ∙ d.made.ids in
    let names : crate_features g.nodes ≡ names_in_each sets = w.features ∙ d.made.features in
    let as_many : length (names_in_each sets) ≡ length (krate_ids krates) = length-map sets names_in ∙ matched ∙ sym (mapped_length krates) in
    record {
      drawing = record { nodes = w.planned_are ∙ d.planned_are; edges = subst (λ ls. AllZip (IsStoredAs made_edge) ls g.edges) e edges };
      ids = ids;
      values = subst (λ ps. AllZip made ps (crate_values g.nodes)) d.made.values w.values;
      enabled = λ i f. rw (ids, names, ← facts) (enabled_by_id (krate_ids krates) (names_in_each sets) features as_many so i f);
      first = first_alike made nodes g.nodes stored d.made.first;
    }

pub if_graph : {N E X : Type 0} (made : Package → N → Type 0) (made_edge : Edge → E → Type 0) (t : model.Outline) (krates : List Krate) (sets : List (BTreeSet (String Global))) (features : List EnabledFeature)
    (nodes : List (Node Package)) (planned : List PlannedEdge) (result : Result (StoredGraph (Node N) E) X) → AreDrawnNodes t krates sets nodes → length sets ≡ length krates → AreEnabledSets features sets
    → map (feature_fact (krate_ids krates)) features ≡ map named_fact t.features → planned ≡ planned_edges t → IfOk result (λ g. AllZip (IsMade made) nodes g.nodes) → IfOk result (λ g. AllZip (IsStoredAs made_edge) planned g.edges)
    → IfOk result (IsGraphOf made made_edge t krates)
if_graph made made_edge t krates sets features nodes planned (Ok g) d matched so facts e stored edges = graph_is made made_edge t krates sets features nodes planned d matched so facts e g stored edges
if_graph made made_edge t krates sets features nodes planned (Err x) d matched so facts e stored edges = tt

-- ---- the nodes of a graph

pub counted : {N : Type 0} (krates : List Krate) (nodes : List (Node N)) → crate_ids nodes ≡ krate_ids krates → length krates ≡ length (crate_ids nodes)
counted krates nodes e = sym (ap (λ (is : List Identity). length is) e ∙ mapped_length krates)

pub are_nodes : {N : Type 0} (krates : List Krate) (nodes : List (Node N)) → crate_ids nodes ≡ krate_ids krates → CratesFirst nodes → IsStrictlySortedBy id_cmp (krate_ids krates) → length krates < 2 ^ 32
    → AreFeatures nodes → length nodes < 2 ^ 32 → AreNodes nodes
are_nodes krates nodes e first s few features numbered =
    let same : length krates ≡ length (crate_ids nodes) = counted krates nodes e in
    record {
      ordered = record { ascending = subst (λ ids. IsStrictlySortedBy id_cmp ids) (sym e) s; numbered = subst (λ n. n < 2 ^ 32) same few };
      first = first;
      features = features;
      numbered = numbered;
    }

-- ends that are nodes, for other lists of the same lengths
pub stand_there : (n m : ℕ) (ls ks : List PlannedEdge) → All (HasEnds n) ls → n ≡ m → ls ≡ ks → All (HasEnds m) ks
stand_there n m ls ks h e f = subst (λ xs. All (HasEnds m) xs) f (subst (λ x. All (HasEnds x) ls) e h)

-- ---- the parts of a build

-- dividing by an outline gives what has to be kept and the rest
pub builds_outline : ReadsOnce → (m : Metadata) (s : SettingModel) (t : Outline) (d : Division) → IsOutlineFor (metadata_view m) s (outline_view t)
    → IsDivision m.packages.items (outline_ids t.krates.items) d → Builds m s d
builds_outline once m s t d h div = builds once m s (outline_view t) (outline_ids t.krates.items) d (viewed_ids t.krates.items) h div

-- the ids of the kept packages are those of the outline, place by place
pub kept_ids : Compares → (m : Metadata) (s : SettingModel) (t : Outline) (d : Division) → IsOutlineFor (metadata_view m) s (outline_view t) → Builds m s d
    → map id_of (krate_ids d.kept.items) ≡ map (λ (k : model.CrateRow). k.id) (outline_view t).krates
kept_ids o m s t d h b =
    let ids : List Identity = krate_ids d.kept.items in
    let drawn : List Identity = outline_ids t.krates.items in
    let same = viewed_ids t.krates.items in
    let among = kept_among (metadata_view m) s (outline_view t) h in
    let there : HasLike ids drawn = λ i z.
    (let k = (among i).0 ((b.kept i).1 (contains_of (map id_of ids) i z)) in
    member_of (map id_of drawn) i (subst (λ js. Contains js i) (sym same) k)) in
    let back : HasLike drawn ids = λ i z.
    (let k = subst (λ js. Contains js i) same (contains_of (map id_of drawn) i z) in
    member_of (map id_of ids) i ((b.kept i).0 ((among i).1 k))) in
    one_order o.total ids drawn b.packages.ascending t.ordered.krates there back ∙ same

-- the nodes of the graph are sorted
pub graph_nodes : Compares → {N E : Type 0} (made : Package → N → Type 0) (made_edge : Edge → E → Type 0) (m : Metadata) (s : SettingModel) (t : Outline) (d : Division) (g : StoredGraph (Node N) E)
    → IsOutlineFor (metadata_view m) s (outline_view t) → Builds m s d → IsGraphOf made made_edge (outline_view t) d.kept.items g → length d.kept.items < 2 ^ 32 → length g.nodes < 2 ^ 32 → AreNodes g.nodes
graph_nodes o made made_edge m s t d g h b w few numbered =
    let ids : map id_of (crate_ids g.nodes) ≡ map (λ (k : model.CrateRow). k.id) (outline_view t).krates = ap (λ (is : List Identity). map id_of is) w.ids ∙ kept_ids o m s t d h b in
    let ascending = subst (λ (is : List Identity). IsStrictlySortedBy id_cmp is) (sym w.ids) b.packages.ascending in
    let enabled_by = λ (i : Id) (f : Text).
    subst (λ (is : List Identity). IsEnabledIn (crate_ids g.nodes) (crate_features g.nodes) i f ↔ (IsAmong is i × Contains (map named_fact (outline_view t).features) (Feature i f))) (sym w.ids) (w.enabled i f) in
    are_nodes d.kept.items g.nodes w.ids w.first b.packages.ascending few (are_features o t g.nodes w.drawing.nodes ids ascending enabled_by) numbered

-- both ends of each edge of an outline are nodes
pub outline_stands : EndsStand → (m : MetadataModel) (s : SettingModel) (t : model.Outline) → IsOutlineFor m s t → All (HasEnds (length (planned_nodes t))) (planned_edges t)
outline_stands stand m s t h = stand (resolved m h.graph) s t h.holds

-- all that a build says about what it keeps and reports
pub is_built : {F N E : Type 0} (filters : F → Package → F → Type 0) (made : Package → N → Type 0) (made_edge : Edge → E → Type 0) (m : Metadata) (s : SettingModel) (t : Outline) (d : Division)
    (g : StoredGraph (Node N) E) (members : List ℕ) (before after : F) (work : Work) → IsOutlineFor (metadata_view m) s (outline_view t) → Builds m s d → IsGraphOf made made_edge (outline_view t) d.kept.items g
    → FoldsTo filters before (krate_packages d.others.items) after → work ≡ work_of (outline_view t) → IsResolvable (metadata_view m) → IsNumbered g
    → AreKeptMembers (metadata_view m) (crate_ids g.nodes) members
    → IsBuildAgreeing made_edge (metadata_view m) s g
    → (steps : List KeptStep) → IsExplainedBy (metadata_view m) s (steps_in (crate_ids g.nodes) steps)
    → IsBuilt filters made made_edge m s before after (record { graph = g; members = members; workspace_root = text_view m.workspace_root; work = work; steps = steps })
is_built filters made made_edge m s t d g members before after work h b w run worked resolvable numbered listed agree steps explained =
    let drawn : IsDrawn made_edge (metadata_view m) s g = record { outline = outline_view t; is_outline = h; drawing = w.drawing } in
    record {
      resolvable = resolvable;
      kept = λ i. subst (λ ids. KeepsCrate (metadata_view m) s i ↔ Contains (map id_of ids) i) (sym w.ids) (b.kept i);
      some = b.some;
      none_lost = b.none_lost;
      values = record {
        packages = krate_packages d.kept.items;
        those = subst (λ ids. AreThosePackages m.packages.items (KeepsCrate (metadata_view m) s) ids (krate_packages d.kept.items)) (sym w.ids) b.packages;
        made_of = w.values;
      };
      enabled = λ i f.
          (let derived = enabled m s (outline_view t) d (λ i f. IsEnabledIn (crate_ids g.nodes) (crate_features g.nodes) i f) h b w.enabled i f in
          let listed = enabled_listed g.nodes i f in (
            λ x. listed.0 (derived.0 x),
            λ c. derived.1 (listed.1 c),
          ));
      drawn = drawn;
      agree = agree resolvable drawn;
      numbered = numbered;
      members = listed;
      root = refl;
      work = worked;
      reported = record { ids = krate_ids d.others.items; others = krate_packages d.others.items; not_kept = b.others; run = run };
      explained = explained;
    }
