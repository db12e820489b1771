-- What was found grows by an edge.
use Rattle.std.proofs.Common.{◌≡◌, ℕ, ◌<◌, Bool, List, [], ◌∷◌, ◌++◌, length, map, All, Some, Contains, refl, sym, ap, ◌∙◌, subst, inl, inr}
use Rattle.std.proofs.lemmas.List.Elements.{All-push}
use Rattle.std.specs.Global.{Vec}
use Rattle.std.proofs.lemmas.Option.{same_Some, slice_get-map}
use Rattle.std.specs.List.{slice_get}
use Rattle.std.specs.Option.{option_map}
use Rattle.krates_cm.specs.Document.{DependencyModel, DepKindInfoModel, NodeDepModel, dependency_view, node_dep_view}
use Rattle.krates_cm.specs.declared.dependency.Dependency.{Dependency}
use Rattle.krates_rules.specs.Admission.{NoneDoubled}
use Rattle.krates_rules.specs.DeclaredDependency.{dependency_entry, FirstAt, IsDeclared}
use Rattle.krates_rules.specs.Facts.{Id, Edge, Fact, Crate, Feature, Kept, Toggled, Lost}
use Rattle.krates_search.specs.SearchState.{HasFound, IsAny, IsUsed, Grows, IsSound, Advances, HasEnabledFor}
use Rattle.krates_rules.specs.Resolved.{DepAt, Resolved, id_of}
use Rattle.krates_search.specs.Links.{IsMarked}
use Rattle.krates_questions.specs.NodeEntry.{parent_of, child_of, declared_in, entry_of, edge_for}
use Rattle.krates_rules.specs.Questions.{IsDeclaredAt, kind_info_of}
use Rattle.krates_search.specs.Found.{found_view, IsFoundEdge}
use Rattle.krates_selection.specs.Trace.{HasSomeStep}
use Rattle.krates_search.specs.declared.search_state.SearchState.{SearchState}
use Rattle.krates_search.specs.declared.links.Links.{Links}
use Rattle.krates_questions.specs.declared.node_entry.NodeEntry.{NodeEntry}
use Rattle.krates_questions.specs.declared.lookup.NodePlace.{NodePlace}
use Rattle.krates_search.specs.declared.found.FoundEdge.{FoundEdge}
use Rattle.krates_document.proofs.DeclaredOnce.{declared_once, declared_stands}
use Rattle.krates_rules.proofs.FirstPlaces.{seen_at}
use Rattle.krates_search.proofs.Growing.{used_grows, tried_grows}
use Rattle.krates_search.proofs.Growth.{seen_from, seen_still, seen_there}
use Rattle.krates_rules.proofs.OnlyOne.{one_dep}
use Rattle.krates_questions.proofs.DepPlaces.{one_dep_place}
use Rattle.krates_search.proofs.Waking.{wanted_once}
use Rattle.krates_questions.specs.declared.context.Context.{Context}
use Rattle.krates_questions.specs.Context.{document_of, Derives, IsNodeAt, IsDepAt, HasEntry, Wants}

abbrev WithEdges : SearchState → Vec FoundEdge → SearchState
WithEdges x v = record x { edges = v }

edge_found : (b : Context) (x : SearchState) (v : Vec FoundEdge) (e : FoundEdge) (f : Fact) → v.items ≡ x.edges.items ++ e ∷ [] → HasFound b x f → HasFound b (WithEdges x v) f
edge_found b x v e (Kept y) more h = seen_still found_view x.edges.items v.items e y more h
edge_found b x v e (Crate i) more h = h
edge_found b x v e (Feature i g) more h = h
edge_found b x v e (Toggled i j g) more h = h
edge_found b x v e (Lost c) more h = h

-- what holds of each fact found before, and of the edge that is added, holds of each fact found now
edge_each : (P : Fact → Type 0) → (b : Context) (x : SearchState) (v : Vec FoundEdge) (e : FoundEdge) (f : Fact) → ((g : Fact) → HasFound b x g → P g) → v.items ≡ x.edges.items ++ e ∷ [] → P (Kept (found_view e)) → HasFound b (WithEdges x v) f → P f
edge_each P b x v e (Kept y) old more d h = elim (seen_from found_view x.edges.items v.items e y more h) [
  | inl o ↦ old (Kept y) o
  | inr is ↦ subst (λ (z : Edge). P (Kept z)) is d
]
edge_each P b x v e (Crate i) old more d h = old (Crate i) h
edge_each P b x v e (Feature i g) old more d h = old (Feature i g) h
edge_each P b x v e (Toggled i j g) old more d h = old (Toggled i j g) h
edge_each P b x v e (Lost c) old more d h = absurd h

-- what holds of each old edge, and of the edge that is added, holds of each new one
each_edge : (x : SearchState) (v : Vec FoundEdge) (e : FoundEdge) (P : Edge → Type 0) → v.items ≡ x.edges.items ++ e ∷ [] → ((y : Edge) → Contains (map found_view x.edges.items) y → P y) → P (found_view e)
    → (y : Edge) → Contains (map found_view v.items) y → P y
each_edge x v e P more old here y h = elim (seen_from found_view x.edges.items v.items e y more h) [
  | inl o ↦ old y o
  | inr is ↦ subst P is here
]

-- the edge that is added
pub edge_kept : (x : SearchState) (v : Vec FoundEdge) (e : FoundEdge) (edge : Edge) → v.items ≡ x.edges.items ++ e ∷ [] → found_view e ≡ edge → Contains (map found_view v.items) edge
edge_kept x v e edge more is = subst (Contains (map found_view v.items)) is (seen_there found_view x.edges.items v.items e more)

-- an edge whose child is kept with all that the edge needs, and whose dependency is marked
pub edge_advances : (b : Context) (x : SearchState) (v : Vec FoundEdge) (e : FoundEdge) (edge : Edge) → IsSound b x → v.items ≡ x.edges.items ++ e ∷ [] → found_view e ≡ edge → IsFoundEdge b e
    → HasFound b x (Crate edge.child) → IsUsed b x edge → ((place index : ℕ) → IsDepAt b edge.parent edge.child place index → IsMarked x.links place index) → Derives b (Kept edge)
    → HasSomeStep (document_of b) x.trace.items (Kept edge) → Advances b x (record x { edges = v }) × HasFound b (record x { edges = v }) (Kept edge)
edge_advances b x v e edge sound more is placed reached used marked d step =
    let y = WithEdges x v in
    let grown : Grows b x y = record { found = λ f h. edge_found b x v e f more h; steps = λ n f h. h; waits = λ u k m n z at h. inl h; krates = λ k n h. h; features = λ k n h. h; krates_taken = refl; features_taken = refl } in
    let back = sym is in (
      record {
        sound = record {
          excluded = sound.excluded;
          krates_size = sound.krates_size;
          features_size = sound.features_size;
          own = sound.own;
          has_links = sound.has_links;
          derivable = λ f h. edge_each (Derives b) b x v e f sound.derivable more (subst (λ (z : Edge). Derives b (Kept z)) back d) h;
          trace = sound.trace;
          stepped = λ f h. edge_each (HasSomeStep (document_of b) x.trace.items) b x v e f sound.stepped more (subst (λ (z : Edge). HasSomeStep (document_of b) x.trace.items (Kept z)) back step) h;
          numbered = record { krates = sound.numbered.krates; features = sound.numbered.features; marked = sound.numbered.marked; waiting = sound.numbered.waiting };
          placed = subst (All (IsFoundEdge b)) (sym more) (All-push (IsFoundEdge b) x.edges.items e sound.placed placed);
          toggles = sound.toggles;
          reached = each_edge x v e (λ z. HasFound b x (Crate z.child)) more sound.reached (subst (λ (z : Edge). HasFound b x (Crate z.child)) back reached);
          used = λ z h u w. used_grows b x y u z.child grown.found (each_edge x v e (IsUsed b x) more sound.used (subst (IsUsed b x) back used) z h u w);
          marked = λ z place index h at.
              each_edge x v e (λ a. (n i : ℕ) → IsDepAt b a.parent a.child n i → IsMarked x.links n i) more (λ a o n i there. sound.marked a n i o there)
              (subst (λ (a : Edge). (n i : ℕ) → IsDepAt b a.parent a.child n i → IsMarked x.links n i) back marked) z h place index at;
          woken = sound.woken;
          tried = λ z m k at was. tried_grows b x y z IsAny grown.found (sound.tried z m k at was);
          arrived = sound.arrived;
          toggled = sound.toggled;
          enabled = sound.enabled;
        };
        grows = grown;
      },
      edge_kept x v e edge more is,
    )

-- ---- the edge of an entry

-- if the edge of an entry is wanted, it is wanted as the entry declares it
wanted_here : (b : Context) (x : NodeEntry) (k : DepKindInfoModel) (place : ℕ) (d : DependencyModel) → NoneDoubled (document_of b).metadata (document_of b).graph → HasEntry b x → IsDeclared (declared_in x) (entry_of x) k place d
    → (w : Wants b (edge_for x k) d) → (w.place ≡ place) × (w.declared.declares.dep ≡ node_dep_view x.dep.now)
wanted_here b x k place d none h first w =
    let a = w.declared.declares in
    let dep = one_dep (document_of b) (parent_of x) (child_of x) a.lists.node h.node a.dep (node_dep_view x.dep.now) none a.lists.has_node h.has_node a.lists.has_dep h.has_dep in
    let here = subst (λ (ds : List DependencyModel). IsDeclared ds (dependency_entry (child_of x) a.dep) k w.place d) (h.declares.each a.pkg a.has_package) a.declared in
    let there = subst (λ (y : NodeDepModel). IsDeclared (declared_in x) (dependency_entry (child_of x) y) k w.place d) dep here in
    ((declared_once (declared_in x) (entry_of x) k w.place place d d there first).0, dep)

-- an edge with the places that are kept beside it
abbrev PlacedAs : Context → ℕ → Edge → ℕ → DependencyModel → Type 0
PlacedAs b kind_place e place d = (a : IsDeclaredAt (document_of b) b.setting.now e place d) × FirstAt (λ o. o ≡ kind_info_of e) a.declares.dep.dep_kinds kind_place (kind_info_of e)

-- the places are those of the entry
pub placed_here : (b : Context) (x : NodeEntry) (k : DepKindInfoModel) (e : FoundEdge) (place : ℕ) (d : DependencyModel) → NoneDoubled (document_of b).metadata (document_of b).graph → HasEntry b x → IsDeclared (declared_in x) (entry_of x) k place d
    → Wants b (edge_for x k) d → found_view e ≡ edge_for x k → e.declared ≡ place → FirstAt (λ o. o ≡ k) (node_dep_view x.dep.now).dep_kinds e.place k → e.parent_node ≡ x.place → IsNodeAt b (child_of x) e.child_node.index
    → IsFoundEdge b e
placed_here b x k e place d none h first w is at first_of_kind parent_there child =
    let same = wanted_here b x k place d none h first w in
    let there : PlacedAs b e.place (edge_for x k) w.place d = (w.declared, subst (λ (y : NodeDepModel). FirstAt (λ o. o ≡ k) y.dep_kinds e.place k) (sym same.1) first_of_kind) in
    let edge = subst (λ (y : Edge). PlacedAs b e.place y w.place d) (sym is) there in
    let here = subst (λ (n : ℕ). PlacedAs b e.place (found_view e) n d) (same.0 ∙ sym at) edge in
    let parent : IsNodeAt b (id_of e.parent.now) x.place.index = subst (λ (i : Id). IsNodeAt b i x.place.index) (sym (ap (λ (y : Edge). y.parent) is)) h.at.node in
    record {
      placed = record { dependency = d; declared = here.0; place = here.1 };
      parent = subst (λ (p : NodePlace). IsNodeAt b (id_of e.parent.now) p.index) (sym parent_there) parent;
      child = subst (λ (i : Id). IsNodeAt b i e.child_node.index) (sym (ap (λ (y : Edge). y.child) is)) child;
    }

-- the declared dependency at a place, as the code reads it
pub declared_seen : (ds : List Dependency) (place : ℕ) (d : DependencyModel) (x : Dependency) → slice_get (map dependency_view ds) place ≡ Some d → slice_get ds place ≡ Some x → dependency_view x ≡ d
declared_seen ds place d x at here = same_Some (dependency_view x) d (sym (slice_get-map dependency_view ds place ∙ ap (option_map dependency_view) here) ∙ at)

-- so it is optional where the element at its place is
pub optional_declared : (x : NodeEntry) (k : DepKindInfoModel) (place : ℕ) (d : DependencyModel) (y : Dependency) → IsDeclared (declared_in x) (entry_of x) k place d → slice_get x.declared.now place ≡ Some y → (b : Bool) → y.optional ≡ b → d.optional ≡ b
optional_declared x k place d y first at b is =
    ap (λ (m : DependencyModel). m.optional) (sym (declared_seen x.declared.now place d y (declared_stands (declared_in x) (entry_of x) k place d first) at)) ∙ is

-- it is within the list
pub declared_within : (ds : List Dependency) (place : ℕ) (d : DependencyModel) → slice_get (map dependency_view ds) place ≡ Some d → place < length ds
declared_within ds place d at = (seen_at dependency_view ds place d at).1

-- an edge that is wanted as only one dependency is used as that one
pub used_once : (b : Context) (f : SearchState) (e : Edge) (d : DependencyModel) → NoneDoubled (document_of b).metadata (document_of b).graph → Wants b e d → HasEnabledFor b f d e.child → IsUsed b f e
used_once b f e d none w used z v = subst (λ (y : DependencyModel). HasEnabledFor b f y e.child) (wanted_once b e d z none w v) used

-- the mark of an entry is the mark of the dependency between its crates
pub marked_once : (r : Resolved) (p c : Id) (m i : ℕ) (links : Links) → NoneDoubled r.metadata r.graph → DepAt r p c m i → IsMarked links m i → (n j : ℕ) → DepAt r p c n j → IsMarked links n j
marked_once r p c m i links none at marked n j there =
    let same = one_dep_place r p c m i n j none at there in
    subst (λ (o : ℕ). IsMarked links o j) same.0 (subst (IsMarked links m) same.1 marked)
