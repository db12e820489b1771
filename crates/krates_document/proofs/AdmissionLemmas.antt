-- How the parts of a document's ids make up the whole.
use Rattle.std.proofs.Common.{◌≡◌, ℕ, zero, suc, ◌<◌, List, [], ◌∷◌, length, get_or, Contains, Some, lit<, refl, ap, sym, ◌∙◌, subst, inl, inr, arith, string_bytes, map}
use Rattle.std.specs.List.{AllZip, AllByRecursion}
use Rattle.std.specs.Prelude.{String}
use Rattle.std.specs.declared.alloc.Global.{Global}
use Rattle.std.proofs.lemmas.Simd.{map-map}
use Rattle.krates_cm.specs.Document.{Text, NodeModel, ResolveModel, MetadataModel, id_view, node_view, node_dep_view, package_view, resolve_view, metadata_view}
use Rattle.krates_cm.specs.declared.metadata.Metadata.{Metadata}
use Rattle.krates_cm.specs.declared.package.Package.{Package}
use Rattle.krates_cm.specs.declared.resolve.Resolve.{Resolve}
use Rattle.krates_cm.specs.declared.resolve.Node.{Node}
use Rattle.krates_cm.specs.declared.resolve.NodeDep.{NodeDep}
use Rattle.krates_cm.specs.declared.package_id.PackageId.{PackageId}
use Rattle.krates_ids.specs.Identity.{Identity, Reads, Fault, IsFault}
use Rattle.krates_ids.specs.declared.error.Error.{Error}
use Rattle.krates_ids.specs.declared.error.Error.TheVariants as errors
use Rattle.krates_rules.specs.Admission.{package_texts, node_texts, dep_texts, StandsForId, of_package, of_node, of_dep, IsInvalidId, unread, bad_version, AreDepIds, AreIdsOf, IsDoubledIn, IsDoubled, doubled_package, doubled_node, doubled_dep, NoneDoubled, IdsModel}
use Rattle.krates_rules.specs.AdmissionRefusals.{AdmissionRefusal}
use Rattle.krates_document.specs.AdmissionSteps.{IsInvalidBy, InvalidIdRefusal, IsNoId, UnreadRefusal, IsBadText, InvalidDepRefusal, InvalidNodeRefusal, AreAllDistinct, HasDoubled, IsDoubledBy, DoubledRefusal, DoubledInRefusal, IsDoubledWithin, among_packages, among_nodes, among_deps, DoubledWithinRefusal}
use Rattle.krates_rules.specs.DistinctIds.{IsDoubledAmong, AreDistinct}
use Rattle.krates_rules.specs.Facts.{Id}
use Rattle.krates_rules.specs.NamedIds.{IsReadOf, NamesReadIds}
use Rattle.krates_rules.specs.Resolved.{id_of, resolved}
use Rattle.krates_rules.proofs.Readings.{left_of, right_of, ReadsOnce}

-- a text with a fault isn't read as an id
abbrev pub FaultsAreUnread : Type 0
FaultsAreUnread = (t : Text) (i : Identity) (fault : Fault) → Reads t i → IsFault t fault → ⊥

-- an id that is returned with its true fault isn't one
pub back_unread : (id copy back : PackageId) (fault : Fault) → FaultsAreUnread → string_bytes copy.repr ≡ string_bytes id.repr → back ≡ copy → IsFault (id_view copy) fault
    → Contains (id_view id ∷ []) (id_view back) × ((i : Identity) → Reads (id_view back) i → ⊥)
back_unread id copy back fault law same is true_of =
    let e : id_view back ≡ id_view id = ap id_view is ∙ same in
    let f : IsFault (id_view back) fault = subst (λ (t : PackageId). IsFault (id_view t) fault) (sym is) true_of in
    ((0, lit< tt, sym e), λ i r. law (id_view back) i fault r f)

-- the ids of the packages and of the nodes, as the code and as the definitions see them
pub package_texts_of : (m : Metadata) → package_texts (metadata_view m) ≡ map (λ (p : Package). id_view p.id) m.packages.items
package_texts_of m = map-map (λ p. p.id) package_view m.packages.items

pub node_texts_of : (g : Resolve) → node_texts (resolve_view g) ≡ map (λ (n : Node). id_view n.id) g.nodes.items
node_texts_of g = map-map (λ n. n.id) node_view g.nodes.items

-- the ids of a node's dependencies, as the code and as the definitions see them
pub dep_texts_of : (n : Node) → dep_texts (node_view n) ≡ map (λ (d : NodeDep). id_view d.pkg) n.deps.items
dep_texts_of n = map-map (λ d. d.pkg) node_dep_view n.deps.items

-- ---- a refusal by its class

-- what follows from each invalid id, and from running out of memory, follows from the refusal
invalid_so : (P : Text → Type 0) (R : Error → Type 0) → ((t : String Global) → P (string_bytes t) → R (errors.InvalidId t)) → R errors.Memory → (e : Error) → IsInvalidBy P e → R e
invalid_so P R so memory (errors.InvalidId t) h = so t h
invalid_so P R so memory errors.Memory h = memory
invalid_so P R so memory errors.NoResolveGraph h = absurd h
invalid_so P R so memory (errors.Metadata x) h = absurd h
invalid_so P R so memory (errors.InvalidPkgSpec x) h = absurd h
invalid_so P R so memory errors.NoRootKrates h = absurd h
invalid_so P R so memory (errors.Doubled x) h = absurd h
invalid_so P R so memory (errors.Lost x) h = absurd h
invalid_so P R so memory errors.TooMany h = absurd h

-- and from each doubled id
doubled_so : (P : Identity → Type 0) (R : Error → Type 0) → ((kid : Identity) → P kid → R (errors.Doubled kid)) → R errors.Memory → (e : Error) → IsDoubledBy P e → R e
doubled_so P R so memory (errors.Doubled kid) h = so kid h
doubled_so P R so memory errors.Memory h = memory
doubled_so P R so memory errors.NoResolveGraph h = absurd h
doubled_so P R so memory (errors.Metadata x) h = absurd h
doubled_so P R so memory (errors.InvalidPkgSpec x) h = absurd h
doubled_so P R so memory errors.NoRootKrates h = absurd h
doubled_so P R so memory (errors.InvalidId x) h = absurd h
doubled_so P R so memory (errors.Lost x) h = absurd h
doubled_so P R so memory errors.TooMany h = absurd h

-- ---- a fault of an id is a fault of the document

-- what is in a list of one
only : (t u : Text) (k : ℕ) → k < length (t ∷ []) → get_or (t ∷ []) k u ≡ u → t ≡ u
only t u zero lt is = is
only t u (suc k) lt is = absurd (omega (arith, lt))

-- a text that isn't an id is one of the list
pub unread_one : (texts : List Text) (t : Text) → Contains texts t → (e : Error) → UnreadRefusal (t ∷ []) e → UnreadRefusal texts e
unread_one texts t among = invalid_so (λ u. Contains (t ∷ []) u × IsNoId u) (UnreadRefusal texts) (λ u h. (subst (Contains texts) (only t (string_bytes u) h.0.0 h.0.1 h.0.2) among, h.1)) tt

-- an invalid id of a dependency is one of the list
pub bad_dep : (texts : List Text) (t : Text) → Contains texts t → (e : Error) → InvalidDepRefusal (t ∷ []) e → InvalidDepRefusal texts e
bad_dep texts t among = invalid_so (λ u. Contains (t ∷ []) u × IsBadText u) (InvalidDepRefusal texts) (λ u h. (subst (Contains texts) (only t (string_bytes u) h.0.0 h.0.1 h.0.2) among, h.1)) tt

-- an invalid id of a node's dependency is one of the nodes
pub bad_node : (nodes : List NodeModel) (n : NodeModel) → Contains nodes n → (e : Error) → InvalidDepRefusal (dep_texts n) e → InvalidNodeRefusal nodes e
bad_node nodes n among = invalid_so (λ t. Contains (dep_texts n) t × IsBadText t) (InvalidNodeRefusal nodes) (λ t h. (n, among, h.0, h.1)) tt

pub unread_bad : (m : MetadataModel) (g : ResolveModel) (texts : List Text) → ((t : Text) → Contains texts t → StandsForId m g t) → (e : Error) → UnreadRefusal texts e → InvalidIdRefusal m g e
unread_bad m g texts stands = invalid_so (λ t. Contains texts t × IsNoId t) (InvalidIdRefusal m g) (λ t h. unread (stands (string_bytes t) h.0) h.1) tt

bad_text : (m : MetadataModel) (g : ResolveModel) (n : NodeModel) (t : Text) → Contains g.nodes n → Contains (dep_texts n) t → IsBadText t → IsInvalidId m g t
bad_text m g n t among has (inl none) = unread (of_dep n among has) none
bad_text m g n t among has (inr w) = bad_version n among has w.0 w.1 w.2

pub node_bad : (m : MetadataModel) (g : ResolveModel) (e : Error) → InvalidNodeRefusal g.nodes e → InvalidIdRefusal m g e
node_bad m g = invalid_so (λ t. (n : NodeModel) × Contains g.nodes n × Contains (dep_texts n) t × IsBadText t) (InvalidIdRefusal m g) (λ t h. bad_text m g h.0 (string_bytes t) h.1 h.2 h.3) tt

-- a document with such an id is refused
pub bad_refused : (m : MetadataModel) (g : ResolveModel) → m.resolve ≡ Some g → (e : Error) → InvalidIdRefusal m g e → AdmissionRefusal m e
bad_refused m g is = invalid_so (IsInvalidId m g) (AdmissionRefusal m) (λ t h. record { graph = g; has_graph = is; holds = h }) tt

-- ---- what occurs twice

pub twice_in : (lists : List (List Identity)) (list : List Identity) → Contains lists list → (e : Error) → DoubledRefusal list e → DoubledInRefusal lists e
twice_in lists list among = doubled_so (HasDoubled list) (DoubledInRefusal lists) (λ kid h. (list, among, h)) tt

pub twice_deps : (ids : IdsModel) (e : Error) → DoubledInRefusal ids.deps e → DoubledWithinRefusal ids e
twice_deps ids = doubled_so (λ kid. (list : List Identity) × Contains ids.deps list × HasDoubled list kid) (DoubledWithinRefusal ids) (λ kid h. among_deps h.0 h.1 h.2) tt

-- an id that is doubled among the ids is doubled in their texts
pub twice_texts : (texts : List Text) (ids : List Identity) (id : Id) → AllZip Reads texts ids → IsDoubledAmong ids id → IsDoubledIn texts id
twice_texts texts ids id z t =
    let one = left_of Reads texts ids t.first t.one z t.at_first in
    let other = left_of Reads texts ids t.second t.other z t.at_second in
    record {
      first = t.first;
      second = t.second;
      apart = t.apart;
      one = one.0;
      other = other.0;
      at_first = one.1;
      at_second = other.1;
      one_holds = record { read = t.one; reads = one.2; same = t.one_holds };
      other_holds = record { read = t.other; reads = other.2; same = t.other_holds };
    }

texts_twice : ReadsOnce → (texts : List Text) (ids : List Identity) (id : Id) → AllZip Reads texts ids → IsDoubledIn texts id → IsDoubledAmong ids id
texts_twice once texts ids id z t =
    let one = right_of Reads texts ids t.first t.one z t.at_first in
    let other = right_of Reads texts ids t.second t.other z t.at_second in
    record {
      first = t.first;
      second = t.second;
      apart = t.apart;
      one = one.0;
      other = other.0;
      at_first = one.1;
      at_second = other.1;
      one_holds = ap id_of (once t.one one.0 t.one_holds.read one.2 t.one_holds.reads) ∙ t.one_holds.same;
      other_holds = ap id_of (once t.other other.0 t.other_holds.read other.2 t.other_holds.reads) ∙ t.other_holds.same;
    }

-- the dependencies of a node, and their ids
dep_list : (nodes : List NodeModel) (lists : List (List Identity)) (n : NodeModel) (k : ℕ) → AllZip AreDepIds nodes lists → k < length nodes → get_or nodes k n ≡ n → (list : List Identity) × Contains lists list × AreDepIds n list
dep_list [] lists n k z lt is = absurd (omega arith)
dep_list (m ∷ nodes) [] n k z lt is = absurd z
dep_list (m ∷ nodes) (l ∷ lists) n zero z lt is = (l, (0, omega arith, refl), subst (λ x. AreDepIds x l) is z.0)
dep_list (m ∷ nodes) (l ∷ lists) n (suc k) z lt is =
    let w = dep_list nodes lists n k z.1 (omega arith) is in
    (w.0, (suc w.1.0, omega (arith, w.1.1), w.1.2), w.2)

list_deps : (nodes : List NodeModel) (lists : List (List Identity)) (l : List Identity) (k : ℕ) → AllZip AreDepIds nodes lists → k < length lists → get_or lists k l ≡ l → (n : NodeModel) × Contains nodes n × AreDepIds n l
list_deps nodes [] l k z lt is = absurd (omega arith)
list_deps [] (x ∷ lists) l k z lt is = absurd z
list_deps (n ∷ nodes) (x ∷ lists) l zero z lt is = (n, (0, omega arith, refl), subst (AreDepIds n) is z.0)
list_deps (n ∷ nodes) (x ∷ lists) l (suc k) z lt is =
    let w = list_deps nodes lists l k z.1 (omega arith) is in
    (w.0, (suc w.1.0, omega (arith, w.1.1), w.1.2), w.2)

each_at : {A : Type 0} (P : A → Type 0) (xs : List A) (x : A) (k : ℕ) → AllByRecursion P xs → k < length xs → get_or xs k x ≡ x → P x
each_at P [] x k h lt is = absurd (omega arith)
each_at P (y ∷ xs) x zero h lt is = subst P is h.0
each_at P (y ∷ xs) x (suc k) h lt is = each_at P xs x k h.1 (omega arith) is

-- no id is doubled in a document whose ids are distinct
pub none_doubled : ReadsOnce → (m : MetadataModel) (g : ResolveModel) (ids : IdsModel) → AreIdsOf m g ids → AreAllDistinct ids → NoneDoubled m g
none_doubled once m g ids are distinct id (doubled_package t) = distinct.packages id (texts_twice once _ _ id are.packages t)
none_doubled once m g ids are distinct id (doubled_node t) = distinct.nodes id (texts_twice once _ _ id are.nodes t)
none_doubled once m g ids are distinct id (doubled_dep n among t) =
    let w = dep_list g.nodes ids.deps n among.0 are.deps among.1 among.2 in
    each_at AreDistinct ids.deps w.0 w.1.0 distinct.deps w.1.1 w.1.2 id (texts_twice once _ _ id w.2 t)

doubled_of : (m : MetadataModel) (g : ResolveModel) (ids : IdsModel) (kid : Identity) → AreIdsOf m g ids → IsDoubledWithin ids kid → IsDoubled m g (id_of kid)
doubled_of m g ids kid are (among_packages t) = doubled_package (twice_texts _ _ (id_of kid) are.packages t.1)
doubled_of m g ids kid are (among_nodes t) = doubled_node (twice_texts _ _ (id_of kid) are.nodes t.1)
doubled_of m g ids kid are (among_deps list among t) =
    let w = list_deps g.nodes ids.deps list among.0 are.deps among.1 among.2 in
    doubled_dep w.0 w.1 (twice_texts _ _ (id_of kid) w.2 t.1)

-- a document in which an id occurs twice is refused
pub twice_refused : (m : MetadataModel) (g : ResolveModel) (ids : IdsModel) → m.resolve ≡ Some g → AreIdsOf m g ids → (e : Error) → DoubledWithinRefusal ids e → AdmissionRefusal m e
twice_refused m g ids is are = doubled_so (IsDoubledWithin ids) (AdmissionRefusal m) (λ kid h. record { graph = g; has_graph = is; holds = doubled_of m g ids kid are h }) tt

-- ---- the ids that are named

-- the text that is read as an id of the list
text_of : (texts : List Text) (ids : List Identity) (kid : Identity) → AllZip Reads texts ids → Contains ids kid → (t : Text) × Contains texts t × Reads t kid
text_of [] [] kid z among = absurd (omega (arith, among.1))
text_of [] (i ∷ ids) kid z among = absurd z
text_of (t ∷ texts) [] kid z among = absurd z
text_of (t ∷ texts) (i ∷ ids) kid z (zero, lt, is) = (t, (0, omega arith, refl), subst (Reads t) is z.0)
text_of (t ∷ texts) (i ∷ ids) kid z (suc k, lt, is) =
    let w = text_of texts ids kid z.1 (k, omega (arith, lt), is) in
    (w.0, (suc w.1.0, omega (arith, w.1.1), w.1.2), w.2)

-- an id that occurs twice is read from the document
read_of : (m : MetadataModel) (g : ResolveModel) (ids : IdsModel) (kid : Identity) → AreIdsOf m g ids → IsDoubledWithin ids kid → IsReadOf (resolved m g) kid
read_of m g ids kid are (among_packages t) = let w = text_of (package_texts m) ids.packages kid are.packages t.0 in (w.0, of_package w.1, w.2)
read_of m g ids kid are (among_nodes t) = let w = text_of (node_texts g) ids.nodes kid are.nodes t.0 in (w.0, of_node w.1, w.2)
read_of m g ids kid are (among_deps list among t) =
    let n = list_deps g.nodes ids.deps list among.0 are.deps among.1 among.2 in
    let w = text_of (dep_texts n.0) list kid n.2 t.0 in
    (w.0, of_dep n.0 n.1 w.1, w.2)

pub twice_named : (m : MetadataModel) (g : ResolveModel) (ids : IdsModel) → m.resolve ≡ Some g → AreIdsOf m g ids → (e : Error) → DoubledWithinRefusal ids e → NamesReadIds m e
twice_named m g ids is are = doubled_so (IsDoubledWithin ids) (NamesReadIds m) (λ kid h. (record { graph = g; has_graph = is; holds = read_of m g ids kid are h }, tt)) tt

-- a refusal of a text that isn't an id names none
pub bad_names_none : (m : MetadataModel) (g : ResolveModel) (e : Error) → InvalidIdRefusal m g e → NamesReadIds m e
bad_names_none m g = invalid_so (IsInvalidId m g) (NamesReadIds m) (λ t h. tt) tt
