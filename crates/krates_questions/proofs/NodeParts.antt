-- A node of the document at its place, with the ids of its dependencies.
use Rattle.std.proofs.Common.{◌≡◌, ℕ, suc, Bool, ◌<◌, List, [], ◌∷◌, length, get_or, map, Some, option_map, inl, inr, refl, sym, ap, ◌∙◌, subst, arith}
use Rattle.std.proofs.lemmas.List.{length-map}
use Rattle.std.proofs.lemmas.Option.{slice_get-map, slice_get-get_or, slice_get_within, slice_get_read, slice_get_cases, same_Some}
use Rattle.std.specs.Global.{Vec}
use Rattle.std.specs.Vec.{vec_len}
use Rattle.std.specs.List.{AllZip, slice_get}
use Rattle.semver.specs.Identifiers.{parts_of}
use Rattle.semver.specs.declared.Version.{Version}
use Rattle.krates_cm.specs.Document.{DependencyModel, VersionModel, NodeModel, NodeDepModel, ResolveModel, dependency_view, node_view, node_dep_view}
use Rattle.krates_cm.specs.declared.dependency.Dependency.{Dependency}
use Rattle.krates_cm.specs.declared.resolve.Node.{Node}
use Rattle.krates_cm.specs.declared.resolve.NodeDep.{NodeDep}
use Rattle.krates_ids.specs.Identity.{Identity, Reads}
use Rattle.krates_rules.specs.Admission.{AreDepIds, HasThisVersion, node_texts, dep_texts, of_dep, of_node}
use Rattle.krates_document.specs.IdLists.{kids_in, versions_in}
use Rattle.krates_rules.specs.Facts.{Id}
use Rattle.krates_rules.specs.NamedIds.{IsReadOf}
use Rattle.krates_rules.specs.Resolved.{DepAt, NodeAt, Resolved, id_of, ReadsAs, HasNode, HasDep}
use Rattle.krates_questions.specs.Lookup.{IsLookup, TellsMember, resolved_view}
use Rattle.krates_questions.specs.NodeEntry.{AreDeclaredBy, AreParts, HasItsVersion, IsEntry, IsEntryOf}
use Rattle.krates_questions.specs.declared.lookup.Lookup.{Lookup}
use Rattle.krates_questions.specs.declared.node_entry.NodeEntry.{NodeEntry}
use Rattle.krates_questions.specs.declared.node_entry.NodeParts.{NodeParts}
use Rattle.krates_questions.specs.declared.lookup.NodePlace.{NodePlace}
use Rattle.krates_rules.proofs.Readings.{left_of}
use Rattle.krates_questions.proofs.Lookups.{at_place}
use Rattle.krates_questions.proofs.ReadIds.{read_at}
use Rattle.krates_rules.proofs.Standings.{contains_at}

-- related lists are equally long
pub long_zip : {A B : Type 0} (R : A → B → Type 0) (xs : List A) (ys : List B) → AllZip R xs ys → length xs ≡ length ys
long_zip R [] [] z = refl
long_zip R [] (y ∷ ys) z = absurd z
long_zip R (x ∷ xs) [] z = absurd z
long_zip R (x ∷ xs) (y ∷ ys) z = ap suc (long_zip R xs ys z.1)

-- what is at one place of two lists is related
zip_at : {A B : Type 0} (R : A → B → Type 0) (xs : List A) (ys : List B) (k : ℕ) (x : A) (y : B) → AllZip R xs ys → slice_get xs k ≡ Some x → slice_get ys k ≡ Some y → R x y
zip_at R xs ys k x y z a b = let w = left_of R xs ys k y z b in subst (λ v. R v y) (same_Some w.0 x (sym w.1 ∙ a)) w.2

-- the node at a place has the id at that place
pub node_here : (r : Resolved) (ids : List Identity) (k : ℕ) (i : Identity) → AllZip Reads (node_texts r.graph) ids → slice_get ids k ≡ Some i → NodeAt r (id_of i) k
node_here r ids k i z at =
    let w = at_place (λ (n : NodeModel). n.id) r.graph.nodes ids (id_of i) k z (record { there = i; at = at; same = refl }) in
    record { node = w.0; at = w.1; id = w.2 }

-- the dependency at a place has the id at that place
pub has_dep_here : (n : NodeModel) (ids : List Identity) (k : ℕ) (d : NodeDepModel) (i : Identity) → AreDepIds n ids → slice_get n.deps k ≡ Some d → slice_get ids k ≡ Some i → HasDep n (id_of i) d
has_dep_here n ids k d i z here at =
    let w = at_place (λ (d : NodeDepModel). d.pkg) n.deps ids (id_of i) k z (record { there = i; at = at; same = refl }) in
    record { among = contains_at n.deps k d here; id = subst (λ (e : NodeDepModel). ReadsAs e.pkg (id_of i)) (same_Some w.0 d (sym w.1 ∙ here)) w.2 }

pub dep_ids_here : (g : ResolveModel) (lists : List (List Identity)) (k : ℕ) (n : NodeModel) (ids : List Identity) → AllZip AreDepIds g.nodes lists → slice_get g.nodes k ≡ Some n → slice_get lists k ≡ Some ids → AreDepIds n ids
dep_ids_here g lists k n ids z a b = zip_at AreDepIds g.nodes lists k n ids z a b

-- ---- the dependencies of a node, gone over

-- how many there are of each
pub nodes_long : (d : Lookup) → IsLookup d → (length (resolved_view d).graph.nodes ≡ length d.ids.now.nodes.items) × (length (resolved_view d).graph.nodes ≡ length d.resolve.now.nodes.items) × (length (resolved_view d).graph.nodes ≡ length d.ids.now.deps.items)
nodes_long d h =
    let r = resolved_view d in
    let items : Vec Identity → List Identity = λ v. v.items in (
      sym (length-map r.graph.nodes (λ (n : NodeModel). n.id)) ∙ long_zip Reads (node_texts r.graph) d.ids.now.nodes.items h.ids.nodes,
      length-map d.resolve.now.nodes.items node_view,
      long_zip AreDepIds r.graph.nodes (map items d.ids.now.deps.items) h.ids.deps ∙ length-map d.ids.now.deps.items items,
    )

-- as many versions as lists of ids
pub versions_long : (d : Lookup) → IsLookup d → length (resolved_view d).graph.nodes ≡ length d.ids.now.versions.items
versions_long d h =
    let items : Vec Identity → List Identity = λ v. v.items in
    let versions : Vec Version → List VersionModel = λ v. map parts_of v.items in
    (nodes_long d h).2 ∙ sym (length-map d.ids.now.deps.items items) ∙ long_zip (AllZip HasThisVersion) (kids_in d.ids.now.deps) (versions_in d.ids.now.versions) h.ids.versions
    ∙ length-map d.ids.now.versions.items versions

-- ---- at a place, as the code finds them

node_seen : (d : Lookup) (place : ℕ) (n : Node) → place < length (resolved_view d).graph.nodes → n ≡ get_or d.resolve.now.nodes.items place n → slice_get (resolved_view d).graph.nodes place ≡ Some (node_view n)
node_seen d place n lt is =
    let ns = d.resolve.now.nodes.items in
    let below : place < length ns = subst (λ (m : ℕ). place < m) (length-map ns node_view) lt in
    slice_get-map node_view ns place ∙ ap (option_map node_view) (slice_get_read ns (length ns) place n refl below is)

-- the ids of the dependencies of the node at a place
ids_there : (d : Lookup) (place : ℕ) (ids : Vec Identity) → IsLookup d → place < length (resolved_view d).graph.nodes → ids ≡ get_or d.ids.now.deps.items place ids → slice_get (kids_in d.ids.now.deps) place ≡ Some ids.items
ids_there d place ids h lt is =
    let lists = d.ids.now.deps.items in
    let items : Vec Identity → List Identity = λ v. v.items in
    slice_get-map items lists place ∙ ap (option_map items) (slice_get_read lists (length lists) place ids refl (subst (λ (m : ℕ). place < m) (nodes_long d h).2 lt) is)

-- and their versions
versions_there : (d : Lookup) (place : ℕ) (versions : Vec Version) → IsLookup d → place < length (resolved_view d).graph.nodes → versions ≡ get_or d.ids.now.versions.items place versions
    → slice_get (versions_in d.ids.now.versions) place ≡ Some (map parts_of versions.items)
versions_there d place versions h lt is =
    let lists = d.ids.now.versions.items in
    let parts : Vec Version → List VersionModel = λ v. map parts_of v.items in
    slice_get-map parts lists place ∙ ap (option_map parts) (slice_get_read lists (length lists) place versions refl (subst (λ (m : ℕ). place < m) (versions_long d h) lt) is)

-- they belong together
pub versions_here : (d : Lookup) (place : ℕ) (x : NodeParts) (ids : Vec Identity) (versions : Vec Version) → IsLookup d → place < length (resolved_view d).graph.nodes → ids ≡ get_or d.ids.now.deps.items place ids
    → versions ≡ get_or d.ids.now.versions.items place versions → x.children.now ≡ ids.items → x.versions.now ≡ versions.items → AllZip HasThisVersion x.children.now (map parts_of x.versions.now)
versions_here d place x ids versions h lt is_ids is_versions children own =
    rw (children, own) (zip_at (AllZip HasThisVersion) (kids_in d.ids.now.deps) (versions_in d.ids.now.versions) place ids.items (map parts_of versions.items) h.ids.versions (ids_there d place ids h lt is_ids) (versions_there d place versions h lt is_versions))

pub parts_here : (d : Lookup) (place : ℕ) (x : NodeParts) (n : Node) (ids : Vec Identity) → IsLookup d → place < length (resolved_view d).graph.nodes → x.parent.now ≡ get_or d.ids.now.nodes.items place x.parent.now
    → n ≡ get_or d.resolve.now.nodes.items place n → ids ≡ get_or d.ids.now.deps.items place ids → x.deps.now ≡ n.deps.items → x.children.now ≡ ids.items → AllZip HasThisVersion x.children.now (map parts_of x.versions.now)
    → AreDeclaredBy (resolved_view d) (id_of x.parent.now) (map dependency_view x.declared.now) → TellsMember (resolved_view d) (id_of x.parent.now) x.is_member → x.place.index ≡ place → AreParts (resolved_view d) place x
parts_here d place x n ids h lt is_id is_node is_ids deps children versions declares tells place_is =
    let r = resolved_view d in
    let long = nodes_long d h in
    let nodes = d.ids.now.nodes.items in
    let here = node_seen d place n lt is_node in
    let there = slice_get_read nodes (length nodes) place x.parent.now refl (subst (λ (m : ℕ). place < m) long.0 lt) is_id in
    let at = node_here r nodes place x.parent.now h.ids.nodes there in
    let same : at.node ≡ node_view n = same_Some at.node (node_view n) (sym at.at ∙ here) in
    let whole = dep_ids_here r.graph (kids_in d.ids.now.deps) place (node_view n) ids.items h.ids.deps here (ids_there d place ids h lt is_ids) in
    record {
      at = at;
      has_node = record { among = contains_at r.graph.nodes place at.node at.at; id = at.id };
      deps = ap (λ (m : NodeModel). m.deps) same ∙ ap (map node_dep_view) (sym deps);
      children = subst (λ (m : NodeModel). AreDepIds m x.children.now) (sym same) (subst (AreDepIds (node_view n)) (sym children) whole);
      versions = versions;
      declares = declares;
      tells = tells;
      place_is = place_is;
      read = read_at r (node_texts r.graph) nodes place x.parent.now (λ t among. of_node among) h.ids.nodes there;
    }

-- a child has the dependency at its place
pub deps_long : (r : Resolved) (place : ℕ) (x : NodeParts) → AreParts r place x → length x.children.now ≡ length x.deps.now
deps_long r place x p =
    sym (long_zip Reads (dep_texts p.at.node) x.children.now p.children) ∙ length-map p.at.node.deps (λ (d : NodeDepModel). d.pkg) ∙ ap length p.deps ∙ length-map x.deps.now node_dep_view

-- and so has its version
pub own_long : (r : Resolved) (place : ℕ) (x : NodeParts) → AreParts r place x → length x.versions.now ≡ length x.children.now
own_long r place x p = sym (long_zip HasThisVersion x.children.now (map parts_of x.versions.now) p.versions ∙ length-map x.versions.now parts_of)

pub dep_seen : (ds : List NodeDep) (k : ℕ) (d : NodeDep) → k < length ds → slice_get (map node_dep_view ds) k ≡ Some (node_dep_view (get_or ds k d))
dep_seen ds k d lt = slice_get-map node_dep_view ds k ∙ ap (option_map node_dep_view) (slice_get-get_or ds k d lt)

pub id_seen : (ids : List Identity) (k : ℕ) (i : Identity) → k < length ids → i ≡ get_or ids k i → slice_get ids k ≡ Some i
id_seen ids k i lt is = slice_get_read ids (length ids) k i refl lt is

-- the dependency at a place leads to the child there
pub dep_there : (r : Resolved) (place : ℕ) (x : NodeParts) (k : ℕ) (d : NodeDepModel) (child : Identity) → AreParts r place x → slice_get (map node_dep_view x.deps.now) k ≡ Some d → slice_get x.children.now k ≡ Some child
    → DepAt r (id_of x.parent.now) (id_of child) x.place.index k
dep_there r place x k d child p dep there =
    let here = ap (λ (ds : List NodeDepModel). slice_get ds k) p.deps ∙ dep in
    let at : DepAt r (id_of x.parent.now) (id_of child) place k = record { node = p.at; dep = d; at = here; id = (has_dep_here p.at.node x.children.now k d child p.children here there).id } in
    subst (λ (n : ℕ). DepAt r (id_of x.parent.now) (id_of child) n k) (sym p.place_is) at

-- there is one at the place of each child
pub dep_of_child : (r : Resolved) (place : ℕ) (x : NodeParts) (k : ℕ) (child : Identity) → AreParts r place x → slice_get x.children.now k ≡ Some child → DepAt r (id_of x.parent.now) (id_of child) x.place.index k
dep_of_child r place x k child p there =
    let lt = subst (λ (n : ℕ). k < n) (deps_long r place x p ∙ sym (length-map x.deps.now node_dep_view)) (slice_get_within x.children.now k child there) in
    elim (slice_get_cases (map node_dep_view x.deps.now) k).1 [
      | inl w ↦ dep_there r place x k w.0 child p w.2 there
      | inr w ↦ absurd (omega (arith, lt, w.0))
    ]

-- what an entry has, said of the parts that it is taken from
record HasEntry (r : Resolved) (parent : Id) (child : Identity) (dep : NodeDepModel) (declared : List DependencyModel) (is_member : Bool) (place index : ℕ) : Type 0 where
  node : NodeModel
  has_node : HasNode r parent node
  has_dep : HasDep node (id_of child) dep
  declares : AreDeclaredBy r parent declared
  tells : TellsMember r parent is_member
  at : DepAt r parent (id_of child) place index

-- the version of an entry is that of its child
version_here : (r : Resolved) (place : ℕ) (x : NodeParts) (k : ℕ) (y : NodeEntry) → AreParts r place x → IsEntryOf x k y → HasItsVersion y
version_here r place x k y p e =
    let version = slice_get-map parts_of x.versions.now k ∙ ap (option_map parts_of) e.version in
    zip_at HasThisVersion x.children.now (map parts_of x.versions.now) k y.child.now (parts_of y.version.now) p.versions e.child version

-- an entry of the parts of a node belongs together
pub entry_here : (r : Resolved) (place : ℕ) (x : NodeParts) (k : ℕ) (y : NodeEntry) → AreParts r place x → IsEntryOf x k y → IsEntry r y
entry_here r place x k y p e =
    let dep = slice_get-map node_dep_view x.deps.now k ∙ ap (option_map node_dep_view) e.dep in
    let here : HasEntry r (id_of x.parent.now) y.child.now (node_dep_view y.dep.now) (map dependency_view x.declared.now) x.is_member x.place.index k = record {
      node = p.at.node;
      has_node = p.has_node;
      has_dep = has_dep_here p.at.node x.children.now k (node_dep_view y.dep.now) y.child.now p.children (ap (λ (ds : List NodeDepModel). slice_get ds k) p.deps ∙ dep) e.child;
      declares = p.declares;
      tells = p.tells;
      at = dep_there r place x k (node_dep_view y.dep.now) y.child.now p dep e.child;
    } in
    let of_parent = subst (λ (i : Identity). HasEntry r (id_of i) y.child.now (node_dep_view y.dep.now) (map dependency_view x.declared.now) x.is_member x.place.index k) (sym e.parent) here in
    let of_declared = subst (λ (ds : List Dependency). HasEntry r (id_of y.parent.now) y.child.now (node_dep_view y.dep.now) (map dependency_view ds) x.is_member x.place.index k) (sym e.declared) of_parent in
    let of_member = subst (λ (b : Bool). HasEntry r (id_of y.parent.now) y.child.now (node_dep_view y.dep.now) (map dependency_view y.declared.now) b x.place.index k) (sym e.is_member) of_declared in
    let of_place = subst (λ (p : NodePlace). HasEntry r (id_of y.parent.now) y.child.now (node_dep_view y.dep.now) (map dependency_view y.declared.now) y.is_member p.index k) (sym e.place) of_member in
    let whole = subst (λ (n : ℕ). HasEntry r (id_of y.parent.now) y.child.now (node_dep_view y.dep.now) (map dependency_view y.declared.now) y.is_member y.place.index n) (sym e.index) of_place in
    record {
      node = whole.node;
      has_node = whole.has_node;
      has_dep = whole.has_dep;
      version = version_here r place x k y p e;
      declares = whole.declares;
      tells = whole.tells;
      at = whole.at;
      parent_read = subst (IsReadOf r) (sym e.parent) p.read;
      child_read = read_at r (dep_texts p.at.node) x.children.now k y.child.now (λ t among. of_dep p.at.node p.has_node.among among) p.children e.child;
    }

-- within a vector's items is within the vector
pub within_vec : {A : Type 0} (v : Vec A) (k : ℕ) → k < length v.items → k < vec_len v
within_vec v k lt = subst (λ (n : ℕ). k < n) (sym v.ok.0) lt
