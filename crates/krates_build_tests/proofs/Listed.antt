-- The packages that a query lists, beside those that a rebuild keeps.
use Rattle.std.proofs.Common.{◌≡◌, ◌↔◌, ℕ, zero, suc, List, [], ◌∷◌, Option, Some, None, map, length, Contains, slice_get, refl, sym, ap, ◌∙◌, subst, inl, inr}
use Rattle.std.proofs.lemmas.Option.{slice_get-get_or, slice_get-map, same_Some}
use Rattle.std.specs.List.{AllZip}
use Rattle.krates_cm.specs.Document.{MetadataModel, ResolveModel, metadata_view}
use Rattle.krates_cm.specs.declared.metadata.Metadata.{Metadata}
use Rattle.krates_drawing.specs.Connected.{AreConnected, IsNumbered}
use Rattle.krates_drawing.specs.Drawing.{PlannedEdge, EdgeModel, PlannedCrate, crate_number, planned_crate, planned_feature, planned_edges, mapping, planned_nodes}
use Rattle.krates_drawing.specs.Paths.{IsDrawn, IsFiltered, IsMemberNumber, LeadsWithout, Reaches}
use Rattle.krates_drawing.specs.Rebuilding.{EnablesNoFeature, FilteredHoldsRebuild, HasMemberRoot, MembersAreRoots}
use Rattle.krates_drawing.specs.Outline.{Outline}
use Rattle.krates_drawing.specs.Stored.{IsStoredAs}
use Rattle.krates_drawing.specs.Views.{tie_view}
use Rattle.krates_drawing.specs.declared.edge.Edge.{Edge}
use Rattle.krates_rules.proofs.Members.{Member, member_of, member_left, member_map}
use Rattle.krates_graph.specs.Graph.{StoredGraph}
use Rattle.krates_graph.specs.declared.graph.edge.GraphEdge.{GraphEdge}
use Rattle.krates_ids.specs.Identity.{Identity}
use Rattle.krates_ids.specs.declared.index.IndexAnswer.{IndexAnswer}
use Rattle.krates_rules.specs.Derivation.{Derivable}
use Rattle.krates_rules.specs.Facts.{Id, Crate}
use Rattle.krates_rules.specs.Narrowing.{IsNarrower, excludes_more, ignores_more}
use Rattle.krates_rules.specs.Questions.{questions}
use Rattle.krates_rules.specs.Resolved.{HasGraphWith, IsMember, Resolved, StandsAt, id_of, resolved}
use Rattle.krates_rules.specs.Setting.{SettingModel}
use Rattle.krates_rules.specs.declared.kind.DepKind.{DepKind}
use Rattle.krates_rules.specs.declared.kind.Scope.TheVariants as scopes
use Rattle.krates.specs.Indexed.{IsSeenBy}
use Rattle.krates.specs.Build.{AreKeptMembers, IsMemberAt, KeepsCrate}
use Rattle.krates.specs.BuildLaws.{IsBuildNarrowing}
use Rattle.krates_queries.specs.Drawn.{IsDrawing, IsOutlineFor, planned_node}
use Rattle.krates_queries.specs.Kept.{KeptCrates, ids_of}
use Rattle.krates_queries.specs.Reached.{AreReached, IsReached, line_view}
use Rattle.krates_drawing.specs.Node.{CratesFirst, crate_ids}
use Rattle.krates_drawing.specs.declared.node.Node.{Node}
use Rattle.krates_drawing.specs.declared.node.Node.TheVariants.{Krate, Feature}
use Rattle.krates_queries.proofs.ReachedLemmas.{reaches_more}
use Rattle.krates_build_tests.specs.Rebuilt.{AreRebuilt, HoldsRebuilt, IgnoresToo, IsListed, Keeps, ListsRebuilt}

-- ---- stored edges are the drawn ones

line_same : (l : PlannedEdge) (g : GraphEdge Edge) → IsStoredAs (λ edge made. made ≡ edge) l g → line_view g ≡ l
line_same l g w =
    let tie : tie_view g.weight ≡ l.tie = ap tie_view w.made_from ∙ w.says in
    let from : ℕ → PlannedEdge = λ n. record { source = n; target = g.target; tie = tie_view g.weight } in
    let to : ℕ → PlannedEdge = λ n. record { source = l.source; target = n; tie = tie_view g.weight } in
    let says : EdgeModel → PlannedEdge = λ t. record { source = l.source; target = l.target; tie = t } in
    ap from w.source ∙ ap to w.target ∙ ap says tie

lines_same : (ls : List PlannedEdge) (es : List (GraphEdge Edge)) → AllZip (IsStoredAs (λ edge made. made ≡ edge)) ls es → map line_view es ≡ ls
lines_same [] [] z = refl
lines_same [] (e ∷ es) z = absurd z
lines_same (l ∷ ls) [] z = absurd z
lines_same (l ∷ ls) (e ∷ es) z = ap (λ k. k ∷ map line_view es) (line_same l e z.0) ∙ ap (λ ks. l ∷ ks) (lines_same ls es z.1)

-- ---- a kept crate has its number

record PlannedAt {N : Type 0} (nodes : List (Node N)) (n : ℕ) (i : Id) : Type 0 where
  mapping : List (Option ℕ)
  at : slice_get (map planned_node nodes) n ≡ Some (PlannedCrate i mapping)

planned_at : {N : Type 0} (nodes : List (Node N)) (n : ℕ) (id : Identity) → CratesFirst nodes → slice_get (crate_ids nodes) n ≡ Some id → PlannedAt nodes n (id_of id)
planned_at [] n id first e = absurd cc
planned_at (Krate i k f m ∷ nodes) zero id first e = record { mapping = m.items; at = ap (λ (x : Identity). Some (PlannedCrate (id_of x) m.items)) (same_Some i id e) }
planned_at (Krate i k f m ∷ nodes) (suc n) id first e = let w = planned_at nodes n id first e in record { mapping = w.mapping; at = w.at }
planned_at (Feature krate_index name ∷ nodes) n id first e =
    let empty : List Identity = [] in
    let none : slice_get empty n ≡ Some id = subst (λ (ids : List Identity). slice_get ids n ≡ Some id) first e in
    absurd cc

-- the outline has a crate that is among the nodes, under its node's number
stands_drawn : {N : Type 0} (nodes : List (Node N)) (t : Outline) → CratesFirst nodes → map planned_node nodes ≡ planned_nodes t
    → ((p : ℕ) (id : Id) (mapping : List (Option ℕ)) → slice_get (planned_nodes t) p ≡ Some (PlannedCrate id mapping) → IsNumbered t id p)
    → (i : Id) (n : ℕ) → StandsAt (crate_ids nodes) i n → IsNumbered t i n
stands_drawn nodes t first same numbered i n w =
    let s = planned_at nodes n w.there first w.at in
    subst (λ id. IsNumbered t id n) w.same (numbered n (id_of w.there) s.mapping (ap (λ ns. slice_get ns n) (sym same) ∙ s.at))

-- a kept id is at a place
place_of_id : (ids : List Identity) (i : Id) → Member (map id_of ids) i → (n : ℕ) × StandsAt ids i n
place_of_id [] i m = absurd m
place_of_id (x ∷ ids) i (inl e) = (zero, record { there = x; at = refl; same = e })
place_of_id (x ∷ ids) i (inr m) = let w = place_of_id ids i m in (suc w.0, record { there = w.1.there; at = w.1.at; same = w.1.same })

planned_kept : {N : Type 0} (nodes : List (Node N)) (i : Id) (mapping : List (Option ℕ)) → Member (map planned_node nodes) (PlannedCrate i mapping) → Member (map id_of (crate_ids nodes)) i
planned_kept [] i mapping m = absurd m
planned_kept (Krate id k f held ∷ nodes) i mapping (inl e) = inl (cc e)
planned_kept (Krate id k f held ∷ nodes) i mapping (inr m) = inr (planned_kept nodes i mapping m)
planned_kept (Feature krate_index name ∷ nodes) i mapping (inl e) = absurd cc
planned_kept (Feature krate_index name ∷ nodes) i mapping (inr m) = planned_kept nodes i mapping m

-- a crate of the outline is kept
drawn_kept : {N : Type 0} (nodes : List (Node N)) (t : Outline) → map planned_node nodes ≡ planned_nodes t → (i : Id) → IsDrawn t i → Member (map id_of (crate_ids nodes)) i
drawn_kept nodes t same i w =
    let planned = member_left (map (planned_crate t) t.krates) (map (planned_feature t) t.features) (planned_crate t w.krate) (member_map (planned_crate t) t.krates w.krate (member_of t.krates w.krate w.among)) in
    subst (λ id. Member (map id_of (crate_ids nodes)) id) w.id (planned_kept nodes w.krate.id (mapping t w.krate) (subst (λ ns. Member ns (planned_crate t w.krate)) (sym same) planned))

-- ---- one build

-- what a build keeps, with the graph of the document and the outline of the drawing
record Shown {N : Type 0} (m : MetadataModel) (s : SettingModel) (g : ResolveModel) (t : Outline) (k : KeptCrates N Edge) : Type 0 where
  has_graph : m.resolve ≡ Some g
  keeps : Keeps m s k
  nodes : map planned_node k.graph.nodes ≡ planned_nodes t
  edges : map line_view k.graph.edges ≡ planned_edges t
  first : CratesFirst k.graph.nodes
  numbered : (p : ℕ) (id : Id) (mapping : List (Option ℕ)) → slice_get (planned_nodes t) p ≡ Some (PlannedCrate id mapping) → IsNumbered t id p

-- a property of the document's graph is one of this graph
of_graph : (m : MetadataModel) (g : ResolveModel) (P : ResolveModel → Type 0) → m.resolve ≡ Some g → HasGraphWith m P → P g
of_graph m g P is h = subst P (same_Some h.graph g (sym h.has_graph ∙ is)) h.holds

number_of : {N : Type 0} (m : MetadataModel) (s : SettingModel) (g : ResolveModel) (t : Outline) (k : KeptCrates N Edge) → Shown m s g t k → (i : Id) (n : ℕ) → StandsAt (ids_of k) i n → IsNumbered t i n
number_of m s g t k h i n w = stands_drawn k.graph.nodes t h.first h.nodes h.numbered i n w

stands_there : {N : Type 0} (m : MetadataModel) (s : SettingModel) (g : ResolveModel) (t : Outline) (k : KeptCrates N Edge) → Shown m s g t k → (i : Id) → Member (map id_of (ids_of k)) i → StandsAt (ids_of k) i (crate_number t i)
stands_there m s g t k h i among =
    let w = place_of_id (ids_of k) i among in
    subst (λ n. StandsAt (ids_of k) i n) (sym (number_of m s g t k h i w.0 w.1).number) w.1

member_there : {N : Type 0} (m : MetadataModel) (s : SettingModel) (g : ResolveModel) (t : Outline) (k : KeptCrates N Edge) → Shown m s g t k → (n : ℕ) → IsMemberNumber (resolved m g) t n → Contains k.members n
member_there m s g t k h n w =
    let at = stands_there m s g t k h w.member (drawn_kept k.graph.nodes t h.nodes w.member w.kept) in
    (h.keeps.members.exactly n).1 (record {
      member = w.member;
      listed = record { graph = g; has_graph = h.has_graph; holds = w.is_member };
      kept = subst (λ p. StandsAt (ids_of k) w.member p) (sym w.number) at;
    })

member_back : {N : Type 0} (m : MetadataModel) (s : SettingModel) (g : ResolveModel) (t : Outline) (k : KeptCrates N Edge) → Shown m s g t k → (n : ℕ) → Contains k.members n → IsMemberNumber (resolved m g) t n
member_back m s g t k h n c =
    let w = (h.keeps.members.exactly n).0 c in
    let at = number_of m s g t k h w.member n w.kept in
    record { member = w.member; kept = at.kept; is_member = of_graph m g (λ x. IsMember (resolved m x) w.member) h.has_graph w.listed; number = sym at.number }

-- a crate is reached in the stored graph exactly if it is in the drawn one
filtered_reached : {N : Type 0} (kind : DepKind) (m : MetadataModel) (s : SettingModel) (g : ResolveModel) (t : Outline) (k : KeptCrates N Edge) → Shown m s g t k → (i : Id) → IsFiltered (resolved m g) t kind i
    → IsReached kind k.graph.edges k.members (crate_number t i)
filtered_reached kind m s g t k h i w =
    reaches_more (LeadsWithout kind (planned_edges t)) (LeadsWithout kind (map line_view k.graph.edges)) (IsMemberNumber (resolved m g) t) (Contains k.members) (λ a b. subst (λ (ls : List PlannedEdge). LeadsWithout kind ls a b) (sym h.edges))
    (member_there m s g t k h) (crate_number t i) w.reached

reached_filtered : {N : Type 0} (kind : DepKind) (m : MetadataModel) (s : SettingModel) (g : ResolveModel) (t : Outline) (k : KeptCrates N Edge) → Shown m s g t k → (i : Id) (n : ℕ) → StandsAt (ids_of k) i n
    → IsReached kind k.graph.edges k.members n → IsFiltered (resolved m g) t kind i
reached_filtered kind m s g t k h i n at w =
    let numbered = number_of m s g t k h i n at in
    let path = reaches_more (LeadsWithout kind (map line_view k.graph.edges)) (LeadsWithout kind (planned_edges t)) (Contains k.members) (IsMemberNumber (resolved m g) t) (λ a b. subst (λ (ls : List PlannedEdge). LeadsWithout kind ls a b) h.edges)
    (member_back m s g t k h) n w in
    record { kept = numbered.kept; reached = subst (Reaches (LeadsWithout kind (planned_edges t)) (IsMemberNumber (resolved m g) t)) (sym numbered.number) path }

-- ---- both builds

-- two builds under one setting, whose documents one answer of an index corrected, keep the same crates
kept_there : IsBuildNarrowing → (answer : Option IndexAnswer) (m p q : Metadata) (s : SettingModel) → IsSeenBy answer m p → IsSeenBy answer m q → (i : Id) → KeepsCrate (metadata_view q) s i → KeepsCrate (metadata_view p) s i
kept_there narrowing answer m p q s x y i = (narrowing answer m p q s s (excludes_more s.exclusions (λ spec c. c)) x y).facts (Crate i)

-- and the one that ignores more keeps a part
kept_wider : IsBuildNarrowing → (answer : Option IndexAnswer) (m p : Metadata) (s t : SettingModel) (kind : DepKind) → IsSeenBy answer m p → IgnoresToo kind s t → (i : Id) → KeepsCrate (metadata_view p) t i → KeepsCrate (metadata_view p) s i
kept_wider narrowing answer m p s t kind x more i =
    let step : IsNarrower s t = subst (IsNarrower s) (sym more.rest) (ignores_more more.ignored kind scopes.All more.more) in
    (narrowing answer m p p s t step x x).facts (Crate i)

pub lists_rebuilt : FilteredHoldsRebuild → IsBuildNarrowing → AreConnected → {N M : Type 0} (kind : DepKind) (k : KeptCrates N Edge) (j : KeptCrates M Edge) (numbers : List ℕ) → CratesFirst k.graph.nodes
    → ((n : ℕ) → Contains numbers n ↔ IsReached kind k.graph.edges k.members n) → (answer : Option IndexAnswer) (m p q : Metadata) (s : SettingModel) → AreRebuilt answer m p q s kind k j → ListsRebuilt (metadata_view p) s k j numbers
lists_rebuilt law narrowing connected kind k j numbers first exactly answer m p q s w =
    let d = w.first.drawn in
    let g = d.is_outline.graph in
    let t = d.outline in
    let v = metadata_view p in
    let h : Shown v s g t k = record {
      has_graph = d.is_outline.has_graph;
      keeps = w.first;
      nodes = d.drawing.nodes;
      edges = lines_same (planned_edges t) k.graph.edges d.drawing.edges;
      first = first;
      numbered = (connected (resolved v g) s t d.is_outline.holds).crates;
    } in
    let both = law (resolved v g) s kind w.ignores.ignored w.ignores.more t d.is_outline.holds in
    let same = w.ignores.rest in
    record {
      all = λ root i c.
          (let again = kept_there narrowing answer m p q w.setting w.first_seen w.second_seen i ((w.second.kept i).1 c) in
          let derived = of_graph v g (λ x. Derivable (questions (resolved v x) w.setting) (Crate i)) h.has_graph again in
          let filtered = both.all (of_graph v g (λ x. HasMemberRoot (resolved v x)) h.has_graph root) i (subst (λ x. Derivable (questions (resolved v g) x) (Crate i)) same derived) in
          let here = (w.first.kept i).0 (kept_wider narrowing answer m p s w.setting kind w.first_seen w.ignores i again) in
          record {
            number = crate_number t i;
            stands = stands_there v s g t k h i (member_of (map id_of (ids_of k)) i here);
            among = (exactly (crate_number t i)).1 (filtered_reached kind v s g t k h i filtered);
          });
      no_other = λ none roots i listed.
          (let filtered = reached_filtered kind v s g t k h i listed.number listed.stands ((exactly listed.number).0 listed.among) in
          let derived = both.no_other (of_graph v g (λ x. EnablesNoFeature (questions (resolved v x) s)) h.has_graph none) (of_graph v g (λ x. MembersAreRoots (resolved v x) s) h.has_graph roots) i filtered in
          let again : KeepsCrate v w.setting i = record { graph = g; has_graph = h.has_graph; holds = subst (λ x. Derivable (questions (resolved v g) x) (Crate i)) (sym same) derived } in
          (w.second.kept i).0 (kept_there narrowing answer m q p w.setting w.second_seen w.first_seen i again));
    }

pub holds_rebuilt : FilteredHoldsRebuild → IsBuildNarrowing → AreConnected → {N M : Type 0} (kind : DepKind) (k : KeptCrates N Edge) (j : KeptCrates M Edge) (values : List N) → CratesFirst k.graph.nodes
    → AreReached kind k.graph.nodes k.graph.edges k.members values → HoldsRebuilt kind k j values
holds_rebuilt law narrowing connected kind k j values first r = record {
  numbers = r.numbers;
  by_number = r.by_number;
  are = r.are;
  holds = lists_rebuilt law narrowing connected kind k j r.numbers first r.exactly;
}
