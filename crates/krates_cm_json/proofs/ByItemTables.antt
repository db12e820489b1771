-- A graph and a document whose lists are read item by item, beside what the other members are read as.
use Rattle.std.proofs.Common.{◌≡◌, ℕ, List, [], ◌∷◌, ◌++◌, true, false, cond, Option, Some, None, option_map, is_some, bytes_eq, append_assoc, refl, sym, ap, ◌∙◌, arith}
use Rattle.std.specs.Prelude.{⊤, codes, unwrap_or}
use Rattle.json.specs.Find as tree
use Rattle.json.specs.Json as json
use Rattle.json.specs.Json.{Json}
use Rattle.json.specs.Token.{Token}
use Rattle.json.specs.Tree.{json_tokens, members_tokens}
use Rattle.json.specs.Value.{members_view}
use Rattle.serde_json.specs.Data as serde
use Rattle.serde_json.specs.Data.{Data}
use Rattle.serde_json.specs.Find.{get}
use Rattle.serde_json.specs.Read.{of_members}
use Rattle.krates_cm.specs.Document.{Text, NodeModel, ResolveModel, PackageModel, MetadataModel}
use Rattle.krates_cm_json.specs.ByItem.{IsShallow, ReadsNext, Member, AreShallow, Lacks, member_tokens, joined}
use Rattle.krates_cm_json.specs.Faults.{missing}
use Rattle.krates_cm_json.specs.Readable.{IsReadable, data_in}
use Rattle.krates_cm_json.specs.Reading.{Reader, items, list, applied, if_read, found, refused, read_as, text, whole, any, nullable, present, object, required, or_default, optional}
use Rattle.krates_cm_json.specs.Tables.{node, resolve, about, settings, package_reader, metadata}
use Rattle.krates_cm_json.proofs.ByItemLemmas.{joined-tokens, readable_member, readable_joined, readable_object, readable_beside, no_member, get_joined, get_append, later_assoc, none_earlier, same_data, AreShallow-append}
use Rattle.krates_cm_json.proofs.ReadableLemmas.{part_of}

-- ---- what is read doesn't depend on the key that its faults name

abbrev AnyKey : {A : Type 0} → Reader A → Type 0
AnyKey reader = (k l : Text) (d : Data) → (reader k d).value ≡ (reader l d).value

node_any_key : AnyKey node
unfolding node
node_any_key k l serde.null = refl
node_any_key k l (serde.boolean b) = refl
node_any_key k l (serde.number n) = refl
node_any_key k l (serde.string s) = refl
node_any_key k l (serde.array ds) = refl
node_any_key k l (serde.object ms) = refl

package_any_key : AnyKey package_reader
unfolding package_reader about settings
package_any_key k l serde.null = refl
package_any_key k l (serde.boolean b) = refl
package_any_key k l (serde.number n) = refl
package_any_key k l (serde.string s) = refl
package_any_key k l (serde.array ds) = refl
package_any_key k l (serde.object ms) = refl

resolve_any_key : AnyKey resolve
unfolding resolve
resolve_any_key k l serde.null = refl
resolve_any_key k l (serde.boolean b) = refl
resolve_any_key k l (serde.number n) = refl
resolve_any_key k l (serde.string s) = refl
resolve_any_key k l (serde.array ds) = refl
resolve_any_key k l (serde.object ms) = refl

items_any_key : {A : Type 0} (reader : Reader A) → AnyKey reader → (k l : Text) (ds : serde.Items) → (items (reader k) ds).value ≡ (items (reader l) ds).value
items_any_key reader same k l serde.no_items = refl
items_any_key reader same k l (serde.item d ds) = rw (same k l d, items_any_key reader same k l ds) refl

list_any_key : {A : Type 0} (reader : Reader A) → AnyKey reader → AnyKey (list reader)
list_any_key reader same k l serde.null = refl
list_any_key reader same k l (serde.boolean b) = refl
list_any_key reader same k l (serde.number n) = refl
list_any_key reader same k l (serde.string s) = refl
list_any_key reader same k l (serde.array ds) = items_any_key reader same k l ds
list_any_key reader same k l (serde.object ms) = refl

-- ---- an object of readable members

object_made : (o : Option serde.Members) → is_some (option_map serde.object o) ≡ true → (object [] (unwrap_or (option_map serde.object o) serde.null)).value ≡ Some tt
object_made None h = absurd (cc)
object_made (Some ms) h = refl

is_object : (ms : json.Members) → IsReadable (json.object ms) → (object [] (data_in (json.object ms))).value ≡ Some tt
is_object ms h = object_made (of_members ms serde.no_members) h.1.1

-- the tokens of members that begin with these
front_tokens : (ms : List Member) (others : json.Members) (after : List Token) → members_tokens (joined ms others) ++ after ≡ member_tokens ms ++ (members_tokens others ++ after)
front_tokens ms others after = ap (λ ts. ts ++ after) (joined-tokens ms others) ∙ append_assoc (member_tokens ms) (members_tokens others) after

member_front : (k : Text) (j : Json) (others : json.Members) (after : List Token) → members_tokens (json.member k j others) ++ after ≡ Token.key k ∷ (json_tokens j ++ (members_tokens others ++ after))
member_front k j others after = ap (λ ts. Token.key k ∷ ts) (append_assoc (json_tokens j) (members_tokens others) after)

-- these members, one more, and then the others
abbrev split : List Member → Text → Json → json.Members → json.Members
split ms key j others = joined ms (json.member key j others)

split_tokens : (ms : List Member) (k : Text) (j : Json) (others : json.Members) (between after : List Token) → between ≡ json_tokens j ++ (members_tokens others ++ after)
    → members_tokens (split ms k j others) ++ after ≡ member_tokens ms ++ (Token.key k ∷ between)
split_tokens ms k j others between after is = front_tokens ms (json.member k j others) after ∙ ap (λ ts. member_tokens ms ++ ts) (member_front k j others after ∙ ap (λ ts. Token.key k ∷ ts) (sym is))

get_split : (k key : Text) (ms : List Member) (j : Json) (others : json.Members)
    → tree.get_member k (split ms key j others) ≡ tree.later_or (tree.later_or (tree.get_member k others) (cond (bytes_eq key k) (Some j) None)) (tree.get_member k (members_view ms))
get_split k key ms j others = get_joined k ms (json.member key j others)

-- of a key that no later member has
get_own : (key : Text) (ms : List Member) (j : Json) (others : json.Members) → bytes_eq key key ≡ true → tree.get_member key others ≡ None → tree.get_member key (split ms key j others) ≡ Some j
get_own key ms j others same none = rw (get_split key key ms j others, none, same) refl

-- of another key
get_other : (k key : Text) (ms : List Member) (j : Json) (others : json.Members) → bytes_eq key k ≡ false
    → tree.get_member k (split ms key j others) ≡ tree.later_or (tree.get_member k others) (tree.get_member k (members_view ms))
get_other k key ms j others differs =
    rw (get_split k key ms j others, differs) (ap (λ o. tree.later_or o (tree.get_member k (members_view ms))) (sym (none_earlier (tree.get_member k others))))

-- the members of a list alone
get_list : (k : Text) (ms : List Member) → tree.get_member k (joined ms json.no_members) ≡ tree.get_member k (members_view ms)
get_list k ms = get_joined k ms json.no_members

-- what is under another key, whatever is under the list's key
same_two : (k key : Text) (ms ns : List Member) (i j : Json) → bytes_eq key k ≡ false → tree.get_member k (split ms key i (joined ns json.no_members)) ≡ tree.get_member k (split (ms ++ ns) key j json.no_members)
same_two k key ms ns i j differs =
    get_other k key ms i (joined ns json.no_members) differs ∙ ap (λ o. tree.later_or o (tree.get_member k (members_view ms))) (get_list k ns)
    ∙ sym (get_append k ms ns) ∙ sym (get_other k key (ms ++ ns) j json.no_members differs)

same_three : (k key graph : Text) (ms ns os : List Member) (h i j : Json) → bytes_eq key k ≡ false → bytes_eq graph k ≡ false
    → tree.get_member k (split ms key h (split ns graph i (joined os json.no_members))) ≡ tree.get_member k (split ((ms ++ ns) ++ os) key j json.no_members)
same_three k key graph ms ns os h i j differs too =
    let first = tree.get_member k (members_view ms) in
    let third = tree.get_member k (members_view os) in
    get_other k key ms h (split ns graph i (joined os json.no_members)) differs
    ∙ ap (λ o. tree.later_or o first) (get_other k graph ns i (joined os json.no_members) too ∙ ap (λ o. tree.later_or o (tree.get_member k (members_view ns))) (get_list k os))
    ∙ later_assoc third (tree.get_member k (members_view ns)) first
    ∙ ap (tree.later_or third) (sym (get_append k ms ns))
    ∙ sym (get_append k (ms ++ ns) os)
    ∙ sym (get_other k key ((ms ++ ns) ++ os) j json.no_members differs)

-- ---- the graph

abbrev pub with_nodes : List NodeModel → ResolveModel → ResolveModel
with_nodes xs r = record { nodes = xs; root = r.root }

abbrev resolve_of : Option ⊤ → Option (List NodeModel) → Option (Option Text) → Option ResolveModel
resolve_of o nodes root = if_read o (applied (applied (Some (λ nodes root. record { nodes = nodes; root = root })) nodes) root)

resolve_kept : (o : Option ⊤) (nodes : Option (List NodeModel)) (root : Option (Option Text)) (xs : List NodeModel) (r : ResolveModel)
    → resolve_of o nodes root ≡ Some r → resolve_of (Some tt) (Some xs) root ≡ Some (with_nodes xs r)
resolve_kept None nodes root xs r is = absurd (cc)
resolve_kept (Some u) None root xs r is = absurd (cc)
resolve_kept (Some u) (Some ns) None xs r is = absurd (cc)
resolve_kept (Some u) (Some ns) (Some root) xs r is = ap (option_map (with_nodes xs)) is

resolve_value : (d e nodes : Data) (xs : List NodeModel) (r : ResolveModel) → (object [] d).value ≡ Some tt → get (codes "nodes") d ≡ Some nodes → (list node [] nodes).value ≡ Some xs
    → get (codes "root") d ≡ get (codes "root") e → (resolve [] e).value ≡ Some r → (resolve [] d).value ≡ Some (with_nodes xs r)
unfolding resolve
resolve_value d e nodes xs r an_object there read_is root is =
    let listed : (required (list node) (codes "nodes") d).value ≡ Some xs =
    ap (λ o. (found (refused (missing (codes "nodes"))) (list node (codes "nodes")) o).value) there ∙ list_any_key node node_any_key (codes "nodes") [] nodes ∙ read_is in
    let rooted : (required (nullable text) (codes "root") d).value ≡ (required (nullable text) (codes "root") e).value =
    ap (λ o. (found (refused (missing (codes "root"))) (nullable text (codes "root")) o).value) root in
    ap (λ o. resolve_of o (required (list node) (codes "nodes") d).value (required (nullable text) (codes "root") d).value) an_object
    ∙ ap (λ o. resolve_of (Some tt) o (required (nullable text) (codes "root") d).value) listed
    ∙ ap (resolve_of (Some tt) (Some xs)) rooted
    ∙ resolve_kept (object [] e).value (required (list node) (codes "nodes") e).value (required (nullable text) (codes "root") e).value xs r is

-- The graph of these members and of these nodes between them, where the members and an empty list are read as r.
pub resolve_next : (ms ns : List Member) (before middle rest after : List Token) (xs : List NodeModel) (r : ResolveModel)
    → AreShallow 124 ms → AreShallow 124 ns → Lacks (codes "nodes") ns
    → before ≡ member_tokens ms ++ (Token.key (codes "nodes") ∷ middle) → ReadsNext 125 (list node []) middle xs rest → rest ≡ member_tokens ns ++ (Token.end_object ∷ after)
    → (resolve [] (data_in (json.object (joined (ms ++ ns) (json.member (codes "nodes") (json.array json.no_items) json.no_members))))).value ≡ Some r
    → ReadsNext 126 (resolve []) (Token.begin_object ∷ before) (with_nodes xs r) after
resolve_next ms ns before middle rest after xs r front back lacks begins (j, shallow, middle_is, read_is) ends beside =
    let key = codes "nodes" in
    let root = codes "root" in
    let behind = joined ns json.no_members in
    let i = json.object (split ms key j behind) in
    let e = json.object (split (ms ++ ns) key (json.array json.no_items) json.no_members) in
    let whole : IsShallow 126 i = readable_object 125 (split ms key j behind) (omega arith) (readable_joined 125 124 ms (json.member key j behind) (omega arith) front
    (readable_member 125 key j behind shallow (readable_joined 125 124 ns json.no_members (omega arith) back (no_member 125)))) in
    let other : IsShallow 126 e = readable_beside 125 (ms ++ ns) key (omega arith) (omega arith) (AreShallow-append 124 ms ns front back) in
    let middle_all : middle ≡ json_tokens j ++ (members_tokens behind ++ after) = middle_is ∙ ap (λ ts. json_tokens j ++ ts) (ends ∙ sym (front_tokens ns json.no_members after)) in
    let all : Token.begin_object ∷ before ≡ json_tokens i ++ after = ap (λ ts. Token.begin_object ∷ ts) (begins ∙ sym (split_tokens ms key j behind middle after middle_all)) in
    let own : tree.get key i ≡ Some j = get_own key ms j behind refl (get_list key ns ∙ lacks) in
    let nodes : get key (data_in i) ≡ Some (data_in j) = sym (part_of key i j whole.0 (sym own)).1 in
    let rooted = same_data root i e whole.0 other.0 (same_two root key ms ns j (json.array json.no_items) refl) in
    (i, whole, all, resolve_value (data_in i) (data_in e) (data_in j) xs r (is_object (split ms key j behind) whole.0) nodes read_is rooted beside)

-- ---- the document

abbrev pub with_lists : List PackageModel → ResolveModel → MetadataModel → MetadataModel
with_lists packages graph m = record (m) { packages = packages; resolve = Some graph }

graph_read : (d : Data) (graph : ResolveModel) → (resolve [] d).value ≡ Some graph → (nullable resolve (codes "resolve") d).value ≡ Some (Some graph)
unfolding resolve
graph_read serde.null graph is = absurd (cc)
graph_read (serde.boolean b) graph is = absurd (cc)
graph_read (serde.number n) graph is = absurd (cc)
graph_read (serde.string s) graph is = absurd (cc)
graph_read (serde.array ds) graph is = absurd (cc)
graph_read (serde.object ms) graph is = ap (applied (Some (λ x. Some x))) is

abbrev metadata_of : Option ⊤ → Option (List PackageModel) → Option (List Text) → Option (Option (List Text)) → Option (Option ResolveModel) → Option Text → Option Text → Option (Option Text) → Option Data → Option ℕ
    → Option MetadataModel
metadata_of o packages members defaults graph root target build workspace version =
    if_read o (applied (applied (applied (applied (applied (applied (applied (applied (applied (Some (λ packages workspace_members workspace_default_members resolve workspace_root target_directory build_directory workspace_metadata version. record {
      packages = packages;
      workspace_members = workspace_members;
      workspace_default_members = workspace_default_members;
      resolve = resolve;
      workspace_root = workspace_root;
      target_directory = target_directory;
      build_directory = build_directory;
      workspace_metadata = workspace_metadata;
      version = version;
    })) packages) members) defaults) graph) root) target) build) workspace) version)

metadata_kept : (o : Option ⊤) (packages : Option (List PackageModel)) (members : Option (List Text)) (defaults : Option (Option (List Text))) (graph : Option (Option ResolveModel)) (root target : Option Text)
    (build : Option (Option Text)) (workspace : Option Data) (version : Option ℕ) (ps : List PackageModel) (g : ResolveModel) (m : MetadataModel)
    → metadata_of o packages members defaults graph root target build workspace version ≡ Some m
    → metadata_of (Some tt) (Some ps) members defaults (Some (Some g)) root target build workspace version ≡ Some (with_lists ps g m)
metadata_kept None a b c d e f g h i ps r m is = absurd (cc)
metadata_kept (Some u) None b c d e f g h i ps r m is = absurd (cc)
metadata_kept (Some u) (Some a) None c d e f g h i ps r m is = absurd (cc)
metadata_kept (Some u) (Some a) (Some b) None d e f g h i ps r m is = absurd (cc)
metadata_kept (Some u) (Some a) (Some b) (Some c) None e f g h i ps r m is = absurd (cc)
metadata_kept (Some u) (Some a) (Some b) (Some c) (Some d) None f g h i ps r m is = absurd (cc)
metadata_kept (Some u) (Some a) (Some b) (Some c) (Some d) (Some e) None g h i ps r m is = absurd (cc)
metadata_kept (Some u) (Some a) (Some b) (Some c) (Some d) (Some e) (Some f) None h i ps r m is = absurd (cc)
metadata_kept (Some u) (Some a) (Some b) (Some c) (Some d) (Some e) (Some f) (Some g) None i ps r m is = absurd (cc)
metadata_kept (Some u) (Some a) (Some b) (Some c) (Some d) (Some e) (Some f) (Some g) (Some h) None ps r m is = absurd (cc)
metadata_kept (Some u) (Some a) (Some b) (Some c) (Some d) (Some e) (Some f) (Some g) (Some h) (Some i) ps r m is = ap (option_map (with_lists ps r)) is

-- whether the same is under each key except those of the packages and of the graph
record SameBeside (d e : Data) : Type 0 where
  members : get (codes "workspace_members") d ≡ get (codes "workspace_members") e
  defaults : get (codes "workspace_default_members") d ≡ get (codes "workspace_default_members") e
  root : get (codes "workspace_root") d ≡ get (codes "workspace_root") e
  target : get (codes "target_directory") d ≡ get (codes "target_directory") e
  build : get (codes "build_directory") d ≡ get (codes "build_directory") e
  workspace : get (codes "metadata") d ≡ get (codes "metadata") e
  version : get (codes "version") d ≡ get (codes "version") e

metadata_value : (d e packages graph : Data) (ps : List PackageModel) (g : ResolveModel) (m : MetadataModel) → (object [] d).value ≡ Some tt
    → get (codes "packages") d ≡ Some packages → (list package_reader [] packages).value ≡ Some ps → get (codes "resolve") d ≡ Some graph → (resolve [] graph).value ≡ Some g
    → SameBeside d e → (metadata [] e).value ≡ Some m → (metadata [] d).value ≡ Some (with_lists ps g m)
unfolding metadata
metadata_value d e packages graph ps g m an_object there read_is graph_there graph_is same is =
    let listed : (required (list package_reader) (codes "packages") d).value ≡ Some ps =
    ap (λ o. (found (refused (missing (codes "packages"))) (list package_reader (codes "packages")) o).value) there ∙ list_any_key package_reader package_any_key (codes "packages") [] packages ∙ read_is in
    let linked : (optional resolve (codes "resolve") d).value ≡ Some (Some g) =
    ap (λ o. (found (read_as None) (nullable resolve (codes "resolve")) o).value) graph_there ∙ graph_read graph g graph_is in
    rw (an_object, listed, linked, same.members, same.defaults, same.root, same.target, same.build, same.workspace, same.version)
    (metadata_kept (object [] e).value (required (list package_reader) (codes "packages") e).value (required (list text) (codes "workspace_members") e).value
    (or_default (present (list text)) None (codes "workspace_default_members") e).value (optional resolve (codes "resolve") e).value (required text (codes "workspace_root") e).value
    (required text (codes "target_directory") e).value (optional text (codes "build_directory") e).value (or_default any serde.null (codes "metadata") e).value (or_default whole 0 (codes "version") e).value
    ps g m is)

-- The document of these members and, between them, of these packages and this graph, where the members and an empty list are read as m.
pub metadata_next : (ms ns os : List Member) (before one between two rest after : List Token) (ps : List PackageModel) (g : ResolveModel) (m : MetadataModel)
    → AreShallow 124 ms → AreShallow 124 ns → AreShallow 124 os → Lacks (codes "packages") ns → Lacks (codes "packages") os → Lacks (codes "resolve") os
    → before ≡ member_tokens ms ++ (Token.key (codes "packages") ∷ one) → ReadsNext 125 (list package_reader []) one ps between
    → between ≡ member_tokens ns ++ (Token.key (codes "resolve") ∷ two) → ReadsNext 126 (resolve []) two g rest
    → rest ≡ member_tokens os ++ (Token.end_object ∷ after)
    → (metadata [] (data_in (json.object (joined ((ms ++ ns) ++ os) (json.member (codes "packages") (json.array json.no_items) json.no_members))))).value ≡ Some m
    → ReadsNext 127 (metadata []) (Token.begin_object ∷ before) (with_lists ps g m) after
metadata_next ms ns os before one between two rest after ps g m front middle back lacks lacks_too lacks_graph begins (j, shallow, one_is, read_is) goes_on (k, deep, two_is, graph_is) ends beside =
    let key = codes "packages" in
    let graph = codes "resolve" in
    let none = json.array json.no_items in
    let last = joined os json.no_members in
    let behind = split ns graph k last in
    let i = json.object (split ms key j behind) in
    let others = (ms ++ ns) ++ os in
    let e = json.object (split others key none json.no_members) in
    let shallower : IsShallow 126 j = (shallow.0, omega (arith, shallow.1)) in
    let ends_readable = readable_joined 126 124 os json.no_members (omega arith) back (no_member 126) in
    let behind_readable = readable_joined 126 124 ns (json.member graph k last) (omega arith) middle (readable_member 126 graph k last deep ends_readable) in
    let whole : IsShallow 127 i = readable_object 126 (split ms key j behind) (omega arith)
    (readable_joined 126 124 ms (json.member key j behind) (omega arith) front (readable_member 126 key j behind shallower behind_readable)) in
    let other : IsShallow 127 e = readable_beside 126 others key (omega arith) (omega arith) (AreShallow-append 124 (ms ++ ns) os (AreShallow-append 124 ms ns front middle) back) in
    let two_all : two ≡ json_tokens k ++ (members_tokens last ++ after) = two_is ∙ ap (λ ts. json_tokens k ++ ts) (ends ∙ sym (front_tokens os json.no_members after)) in
    let one_all : one ≡ json_tokens j ++ (members_tokens behind ++ after) = one_is ∙ ap (λ ts. json_tokens j ++ ts) (goes_on ∙ sym (split_tokens ns graph k last two after two_all)) in
    let all : Token.begin_object ∷ before ≡ json_tokens i ++ after = ap (λ ts. Token.begin_object ∷ ts) (begins ∙ sym (split_tokens ms key j behind one after one_all)) in
    let none_behind : tree.get_member key behind ≡ None = get_other key graph ns k last refl ∙ ap (λ o. tree.later_or o (tree.get_member key (members_view ns))) (get_list key os ∙ lacks_too) ∙ lacks in
    let own : tree.get key i ≡ Some j = get_own key ms j behind refl none_behind in
    let linked : tree.get graph i ≡ Some k =
    get_other graph key ms j behind refl ∙ ap (λ o. tree.later_or o (tree.get_member graph (members_view ms))) (get_own graph ns k last refl (get_list graph os ∙ lacks_graph)) in
    let same = λ (l : Text) (differs : bytes_eq key l ≡ false) (too : bytes_eq graph l ≡ false). same_data l i e whole.0 other.0 (same_three l key graph ms ns os j k none differs too) in (
      i,
      whole,
      all,
      metadata_value (data_in i) (data_in e) (data_in j) (data_in k) ps g m (is_object (split ms key j behind) whole.0)
          (sym (part_of key i j whole.0 (sym own)).1) read_is (sym (part_of graph i k whole.0 (sym linked)).1) graph_is
          (record {
            members = same (codes "workspace_members") refl refl;
            defaults = same (codes "workspace_default_members") refl refl;
            root = same (codes "workspace_root") refl refl;
            target = same (codes "target_directory") refl refl;
            build = same (codes "build_directory") refl refl;
            workspace = same (codes "metadata") refl refl;
            version = same (codes "version") refl refl;
          }) beside,
    )
