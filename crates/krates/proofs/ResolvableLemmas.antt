-- A document can be resolved exactly if there are ids with which it is admitted.
use Rattle.std.proofs.Common.{◌≡◌, List, [], ◌∷◌, Option, Some, None, Result, Ok, Err, OnOk, Contains, refl, subst, inl, inr}
use Rattle.std.proofs.lemmas.Option.{same_Some}
use Rattle.std.specs.List.{AllZip}
use Rattle.krates_cm.specs.Document.{Text, VersionModel, NodeModel, ResolveModel, MetadataModel}
use Rattle.krates_ids.specs.Identity.{Identity, Reads}
use Rattle.krates_rules.specs.Admission.{AreDepIds, AreIdsOf, HasThisVersion, IdsModel, IsAdmitted, IsRootId, StandsForId, dep_texts, node_texts, of_dep, of_member, of_node, of_package, of_root, package_texts}
use Rattle.krates_rules.proofs.Members.{Member, member_of, contains_of, partner_of}
use Rattle.krates.specs.Build.{IsResolvable}

-- the text is read as an id, with its version
abbrev IsVersioned : Text → Type 0
IsVersioned t = (i : Identity) × Reads t i × ((v : VersionModel) × HasThisVersion i v)

-- ---- an admitted document can be resolved

is_read : (texts : List Text) (ids : List Identity) (t : Text) → AllZip Reads texts ids → Contains texts t → (i : Identity) × Reads t i
is_read texts ids t z c = let w = partner_of Reads texts ids t z (member_of texts t c) in (w.partner, w.related)

root_read : (text : Option Text) (root : Option Identity) (t : Text) → IsRootId text root → text ≡ Some t → (i : Identity) × Reads t i
root_read None root t h e = absurd cc
root_read (Some u) None t h e = absurd h
root_read (Some u) (Some i) t h e = (i, subst (λ v. Reads v i) (same_Some u t e) h)

dep_read : (m : MetadataModel) (g : ResolveModel) (ids : IdsModel) (n : NodeModel) (t : Text) → AreIdsOf m g ids → Contains g.nodes n → Contains (dep_texts n) t → IsVersioned t
dep_read m g ids n t a c d =
    let list = partner_of AreDepIds g.nodes ids.deps n a.deps (member_of g.nodes n c) in
    let id = partner_of Reads (dep_texts n) list.partner t list.related (member_of (dep_texts n) t d) in
    let versions = partner_of (AllZip HasThisVersion) ids.deps ids.versions list.partner a.versions list.member in
    let version = partner_of HasThisVersion list.partner versions.partner id.partner versions.related id.member in
    (id.partner, id.related, (version.partner, version.related))

stands_read : (m : MetadataModel) (g : ResolveModel) (ids : IdsModel) (t : Text) → AreIdsOf m g ids → StandsForId m g t → (i : Identity) × Reads t i
stands_read m g ids t a (of_package c) = is_read (package_texts m) ids.packages t a.packages c
stands_read m g ids t a (of_member c) = is_read m.workspace_members ids.members t a.members c
stands_read m g ids t a (of_root is) = root_read g.root ids.root t a.root is
stands_read m g ids t a (of_node c) = is_read (node_texts g) ids.nodes t a.nodes c
stands_read m g ids t a (of_dep n c d) = let w = dep_read m g ids n t a c d in (w.0, w.1)

pub resolvable : (m : MetadataModel) (ids : IdsModel) → IsAdmitted m ids → IsResolvable m
resolvable m ids a = record {
  graph = a.graph;
  has_graph = a.has_graph;
  read = λ t s. stands_read m a.graph ids t a.read s;
  versions = λ n t c d. dep_read m a.graph ids n t a.read c d;
  none_doubled = a.none_doubled;
}

-- ---- and one that can be resolved is admitted

texts_read : (texts : List Text) → ((t : Text) → Member texts t → (i : Identity) × Reads t i) → (ids : List Identity) × AllZip Reads texts ids
texts_read [] read = ([], tt)
texts_read (t ∷ texts) read =
    let first = read t (inl refl) in
    let rest = texts_read texts (λ u c. read u (inr c)) in
    (first.0 ∷ rest.0, (first.1, rest.1))

root_id : (text : Option Text) → ((t : Text) → text ≡ Some t → (i : Identity) × Reads t i) → (root : Option Identity) × IsRootId text root
root_id None read = (None, refl)
root_id (Some t) read = let w = read t refl in (Some w.0, w.1)

-- ids, and their versions
record AreVersioned (texts : List Text) : Type 0 where
  ids : List Identity
  versions : List VersionModel
  read : AllZip Reads texts ids
  have : AllZip HasThisVersion ids versions

deps_read : (texts : List Text) → ((t : Text) → Member texts t → IsVersioned t) → AreVersioned texts
deps_read [] read = record { ids = []; versions = []; read = tt; have = tt }
deps_read (t ∷ texts) read =
    let first = read t (inl refl) in
    let rest = deps_read texts (λ u c. read u (inr c)) in
    record { ids = first.0 ∷ rest.ids; versions = first.2.0 ∷ rest.versions; read = (first.1, rest.read); have = (first.2.1, rest.have) }

-- the same for each node
record AllVersioned (nodes : List NodeModel) : Type 0 where
  ids : List (List Identity)
  versions : List (List VersionModel)
  read : AllZip AreDepIds nodes ids
  have : AllZip (AllZip HasThisVersion) ids versions

nodes_read : (nodes : List NodeModel) → ((n : NodeModel) (t : Text) → Member nodes n → Member (dep_texts n) t → IsVersioned t) → AllVersioned nodes
nodes_read [] read = record { ids = []; versions = []; read = tt; have = tt }
nodes_read (n ∷ nodes) read =
    let first = deps_read (dep_texts n) (λ t d. read n t (inl refl) d) in
    let rest = nodes_read nodes (λ o t c d. read o t (inr c) d) in
    record { ids = first.ids ∷ rest.ids; versions = first.versions ∷ rest.versions; read = (first.read, rest.read); have = (first.have, rest.have) }

pub admitted_of : (m : MetadataModel) → IsResolvable m → (ids : IdsModel) × IsAdmitted m ids
admitted_of m r =
    let g = r.graph in
    let packages = texts_read (package_texts m) (λ t c. r.read t (of_package (contains_of (package_texts m) t c))) in
    let members = texts_read m.workspace_members (λ t c. r.read t (of_member (contains_of m.workspace_members t c))) in
    let root = root_id g.root (λ t is. r.read t (of_root is)) in
    let nodes = texts_read (node_texts g) (λ t c. r.read t (of_node (contains_of (node_texts g) t c))) in
    let deps = nodes_read g.nodes (λ n t c d. r.versions n t (contains_of g.nodes n c) (contains_of (dep_texts n) t d)) in
    let ids : IdsModel = record { packages = packages.0; members = members.0; root = root.0; nodes = nodes.0; deps = deps.ids; versions = deps.versions } in
    let read : AreIdsOf m g ids = record { packages = packages.1; members = members.1; root = root.1; nodes = nodes.1; deps = deps.read; versions = deps.have } in
    (ids, record { graph = g; has_graph = r.has_graph; read = read; none_doubled = r.none_doubled })

-- what holds of what was given holds where something is answered
pub on_ok : {A E : Type 0} (P : Type 0) (r : Result A E) → P → OnOk r P
on_ok P (Ok a) h = h
on_ok P (Err e) h = tt
