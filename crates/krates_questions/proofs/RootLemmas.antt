-- The roots of a document, by the ids of its members.
use Rattle.std.proofs.Common.{◌≡◌, ◌↔◌, ℕ, ◌<◌, List, [], ◌∷◌, Bool, true, false, length, get_or, map, option_map, slice_get, Option, Some, None, All, Contains, refl, sym, ap, ◌∙◌, subst, arith}
use Rattle.std.proofs.lemmas.List.{length-map}
use Rattle.std.proofs.lemmas.Option.{slice_get-map, slice_get-get_or, slice_get_read, slice_get_within, same_Some}
use Rattle.std.specs.List.{AllZip}
use Rattle.krates_cm.specs.Document.{Text, PackageModel, NodeModel, node_view, text_view}
use Rattle.krates_cm.specs.declared.resolve.Node.{Node}
use Rattle.krates_ids.specs.Identity.{Identity, Reads}
use Rattle.krates_text.specs.Path.{components}
use Rattle.krates_rules.specs.Admission.{IsRootId, NoneDoubled, of_member, of_root}
use Rattle.krates_rules.specs.Facts.{Id}
use Rattle.krates_rules.specs.NamedIds.{IsReadOf}
use Rattle.krates_rules.specs.Features.{ListsFeature}
use Rattle.krates_rules.specs.Resolved.{NodeAt, ReadsAs, Resolved, id_of, IsMember, HasPackage, HasNode}
use Rattle.krates_questions.specs.Lookup.{IsLookup, resolved_view}
use Rattle.krates_questions.specs.DocumentAnswers.{AsksFor, AsksForManifests, HasOneOf}
use Rattle.krates_rules.specs.Roots.{IsRoot, of_graph, of_workspace, of_manifests, by_setting, without_root, by_manifest, HasManifest}
use Rattle.krates_rules.specs.Setting.{SettingModel}
use Rattle.krates_questions.specs.declared.lookup.Lookup.{Lookup}
use Rattle.krates_rules.proofs.Readings.{ReadsOnce, left_of}
use Rattle.krates_rules.proofs.OnlyOne.{one_package, one_node}
use Rattle.krates_rules.proofs.Standings.{contains_at}
use Rattle.krates_questions.proofs.ReadIds.{read_at}

-- ---- which crates are roots

-- nothing is asked for, so only the graph's root is a root
pub graph_root : ReadsOnce → (r : Resolved) (s : SettingModel) (root : Identity) → s.manifests ≡ [] → s.workspace ≡ false → IsRootId r.graph.root (Some root)
    → IsRoot r s (id_of root) × ((i : Id) → IsRoot r s i → i ≡ id_of root) × IsReadOf r root
graph_root once r s root none off is =
    let text = root_text r.graph.root is in
    (of_graph none off text.1 (record { read = root; reads = text.2; same = refl }), alone text.0 text.1 text.2, (text.0, of_root text.1, text.2))
  where
    root_text : (o : Option Text) → IsRootId o (Some root) → (t : Text) × (o ≡ Some t) × Reads t root
    root_text None h = absurd cc
    root_text (Some t) h = (t, refl, h)

    same_text : (o : Option Text) (t u : Text) → o ≡ Some t → o ≡ Some u → u ≡ t
    same_text o t u a b = cc

    some_manifest : (m : Text) → [] ≡ m ∷ [] → ⊥
    some_manifest m e = cc

    no_manifest : (m : Text) → Contains [] m → ⊥
    no_manifest m (k, lt, is) = omega (arith, lt)

    alone : (t : Text) → r.graph.root ≡ Some t → Reads t root → (i : Id) → IsRoot r s i → i ≡ id_of root
    alone t at reads i (of_graph {t = u} _ _ there named) =
        sym named.same ∙ ap id_of (once t named.read root (subst (λ v. Reads v named.read) (same_text r.graph.root t u at there) named.reads) reads)
    alone t at reads i (of_workspace (by_setting _ on) m) = absurd (cc (off, on))
    alone t at reads i (of_workspace (without_root _ no_root) m) = absurd (cc (at, no_root))
    alone t at reads i (of_workspace (by_manifest w) m) = absurd (some_manifest w.manifest (sym none ∙ w.alone))
    alone t at reads i (of_manifests _ m h) = absurd (no_manifest h.manifest (subst (λ ms. Contains ms h.manifest) none h.among))

-- where members are asked for, only members are roots
pub root_member : (r : Resolved) (s : SettingModel) (all : Bool) (i : Id) → AsksFor r s all → IsRoot r s i → IsMember r i
root_member r s all i asks (of_workspace _ m) = m
root_member r s all i asks (of_manifests _ m _) = m
root_member r s true i (by_setting _ on) (of_graph _ off _ _) = absurd (cc (on, off))
root_member r s true i (without_root _ no_root) (of_graph _ _ at _) = absurd (cc (no_root, at))
root_member r s true i (by_manifest w) (of_graph none _ _ _) = absurd (cc (w.alone, none))
root_member r s false i asks (of_graph none _ _ _) = absurd (asks.some none)

-- whether the package with the id has one of the manifests
pub manifest_here : (r : Resolved) (s : SettingModel) (i : Id) (p : PackageModel) → NoneDoubled r.metadata r.graph → HasPackage r i p → HasOneOf s.manifests p.manifest_path ↔ HasManifest r s i
manifest_here r s i p none has = (
  λ h. record { pkg = p; has_package = has; manifest = h.other; among = h.among; same = h.same },
  λ h. record { other = h.manifest; among = h.among; same = h.same ∙ ap (λ (q : PackageModel). components q.manifest_path) (one_package r i h.pkg p none h.has_package has) },
)

-- ---- the members, by the ids that were read

pub are_members : (r : Resolved) (members : List Identity) → AllZip Reads r.metadata.workspace_members members → All (λ m. IsMember r (id_of m)) members
are_members r members z k d lt =
    let y = get_or members k d in
    let t = left_of Reads r.metadata.workspace_members members k y z (slice_get-get_or members k d lt) in
    record { text = t.0; among = contains_at r.metadata.workspace_members k t.0 t.1; id = record { read = y; reads = t.2; same = refl } }

-- and their ids are read of the document
pub are_read_members : (r : Resolved) (members : List Identity) → AllZip Reads r.metadata.workspace_members members → All (λ m. IsMember r (id_of m) × IsReadOf r m) members
are_read_members r members z k d lt =
    let y = get_or members k d in
    let texts = r.metadata.workspace_members in
    (are_members r members z k d lt, read_at r texts members k y (λ t among. of_member among) z (slice_get-get_or members k d lt))

-- ---- derivations

-- ---- the features that a node lists, as the code finds them

-- the node at the place of a crate is that of the crate
pub node_here : (d : Lookup) (i : Id) (place : ℕ) (n : Node) → NodeAt (resolved_view d) i place → n ≡ get_or d.resolve.now.nodes.items place n → HasNode (resolved_view d) i (node_view n)
node_here d i place n at is =
    let r = resolved_view d in
    let ns = d.resolve.now.nodes.items in
    let lt = subst (λ (m : ℕ). place < m) (length-map ns node_view) (slice_get_within r.graph.nodes place at.node at.at) in
    let here : slice_get r.graph.nodes place ≡ Some (node_view n) = slice_get-map node_view ns place ∙ ap (option_map node_view) (slice_get_read ns (length ns) place n refl lt is) in
    let same : at.node ≡ node_view n = same_Some at.node (node_view n) (sym at.at ∙ here) in
    record { among = contains_at r.graph.nodes place (node_view n) here; id = subst (λ (m : NodeModel). ReadsAs m.id i) same at.id }

-- each is a feature of the node at its place
pub listed_names : (d : Lookup) (i : Id) (place : ℕ) (n : Node) → IsLookup d → NodeAt (resolved_view d) i place → n ≡ get_or d.resolve.now.nodes.items place n
    → (f : Text) → ListsFeature (resolved_view d) i f ↔ Contains (map text_view n.features.items) f
listed_names d i place n h at is f =
    let has = node_here d i place n at is in (
      λ lists. subst (λ (m : NodeModel). Contains m.features f) (one_node (resolved_view d) i lists.node (node_view n) h.distinct lists.has_node has) lists.among,
      λ among. record { node = node_view n; has_node = has; among = among },
    )
