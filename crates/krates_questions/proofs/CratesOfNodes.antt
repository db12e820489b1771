-- The numbers of the crates of nodes and of their dependencies.
use Rattle.std.proofs.Common.{◌≡◌, ℕ, ◌<◌, List, Option, None, Some, get_or, length, map, option_map, refl, sym, ap, ◌∙◌, arith, subst}
use Rattle.std.proofs.lemmas.List.{length-map}
use Rattle.std.proofs.lemmas.Option.{get_or_from_slice_get, slice_get-map, slice_get_within}
use Rattle.std.specs.Global.{Vec}
use Rattle.std.specs.Option.{IsSome}
use Rattle.std.specs.List.{AllZip, slice_get}
use Rattle.std.specs.Vec.{vec_len}
use Rattle.krates_cm.specs.Document.{NodeDepModel, NodeModel, Text}
use Rattle.krates_document.specs.Ids.{ids_view}
use Rattle.krates_ids.specs.Identity.{Identity, Reads}
use Rattle.krates_document.specs.CrateTable.{AreNumbersOf, IsNumberOf}
use Rattle.krates_questions.specs.Lookup.{IsLookup, IsNumberIn, resolved_view}
use Rattle.krates_questions.specs.declared.lookup.Lookup.{Lookup}
use Rattle.krates_rules.specs.Admission.{AreDepIds, dep_texts, node_texts}
use Rattle.krates_rules.specs.Facts.{Id}
use Rattle.krates_rules.specs.Resolved.{DepAt, HasNode, NodeAt, ReadsAs, id_of}
use Rattle.krates_rules.proofs.OnlyOne.{place_in}
use Rattle.krates_rules.proofs.Readings.{ReadsOnce, right_of}
use Rattle.krates_questions.proofs.ListPlaces.{names_at, names_within}
use Rattle.krates_questions.proofs.NodeParts.{id_seen, long_zip, node_here, nodes_long, within_vec}

-- the number of what is read at a place
numbered_there : ReadsOnce → (ids : List Id) (texts : List Text) (kids : List Identity) (numbers : List (Option ℕ)) (k : ℕ) (t : Text) (i : Id) → AllZip Reads texts kids → AreNumbersOf ids kids numbers → slice_get texts k ≡ Some t → ReadsAs t i
    → (number : Option ℕ) × (slice_get numbers k ≡ Some number) × IsNumberOf ids i number
numbered_there once ids texts kids numbers k t i read are at seen =
    let kid = right_of Reads texts kids k t read at in
    let same : id_of kid.0 ≡ i = ap id_of (once t kid.0 seen.read kid.2 seen.reads) ∙ seen.same in
    let here : slice_get (map id_of kids) k ≡ Some (id_of kid.0) = slice_get-map id_of kids k ∙ ap (option_map id_of) kid.1 in
    let n = right_of (IsNumberOf ids) (map id_of kids) numbers k (id_of kid.0) are here in
    (n.0, n.1, subst (λ (j : Id). IsNumberOf ids j n.0) same n.2)

read_number : (numbers : List (Option ℕ)) (k : ℕ) (n number : Option ℕ) → slice_get numbers k ≡ Some n → number ≡ get_or numbers k number → n ≡ number
read_number numbers k n number at is = sym (is ∙ get_or_from_slice_get numbers k n number at)

-- ---- of a node

-- among any ids
pub node_among : ReadsOnce → (d : Lookup) (ids : List Id) (numbers : List (Option ℕ)) (place : ℕ) (i : Id) → IsLookup d → AreNumbersOf ids d.ids.now.nodes.items numbers → NodeAt (resolved_view d) i place
    → (number : Option ℕ) × (slice_get numbers place ≡ Some number) × IsNumberOf ids i number
node_among once d ids numbers place i h are at =
    let g = (resolved_view d).graph in
    let id : NodeModel → Text = λ n. n.id in
    let text : slice_get (node_texts g) place ≡ Some at.node.id = slice_get-map id g.nodes place ∙ ap (option_map id) at.at in
    numbered_there once ids (node_texts g) d.ids.now.nodes.items numbers place at.node.id i h.ids.nodes are text at.id

-- among those of the document
node_there : ReadsOnce → (d : Lookup) (place : ℕ) (i : Id) → IsLookup d → NodeAt (resolved_view d) i place → (number : Option ℕ) × (slice_get d.ids.now.table.node_numbers.items place ≡ Some number) × IsNumberIn d i number
node_there once d place i h at = node_among once d (map id_of d.ids.now.table.ids.items) d.ids.now.table.node_numbers.items place i h d.ids.now.indexed.node_numbers at

pub node_numbered : ReadsOnce → (d : Lookup) (place : ℕ) (i : Id) (number : Option ℕ) → IsLookup d → NodeAt (resolved_view d) i place → number ≡ get_or d.ids.now.table.node_numbers.items place number → IsNumberIn d i number
node_numbered once d place i number h at is =
    let n = node_there once d place i h at in
    subst (IsNumberIn d i) (read_number d.ids.now.table.node_numbers.items place n.0 number n.1 is) n.2

pub node_number_within : (d : Lookup) (place : ℕ) → IsLookup d → place < length (resolved_view d).graph.nodes → place < vec_len d.ids.now.table.node_numbers
node_number_within d place h lt =
    let nodes = d.ids.now.nodes.items in
    let below : place < length nodes = subst (λ (m : ℕ). place < m) (nodes_long d h).0 lt in
    let long = long_zip (IsNumberOf (map id_of d.ids.now.table.ids.items)) (map id_of nodes) d.ids.now.table.node_numbers.items d.ids.now.indexed.node_numbers in
    within_vec d.ids.now.table.node_numbers place (omega (arith, below, long, length-map nodes id_of))

-- a crate that has a node has a number
pub node_has_number : ReadsOnce → (d : Lookup) (i : Id) (number : Option ℕ) → IsLookup d → (n : NodeModel) × HasNode (resolved_view d) i n → IsNumberIn d i number → IsSome number
node_has_number once d i (Some n) h has is = refl
node_has_number once d i None h (n, has) none = absurd (
    let g = (resolved_view d).graph in
    let nodes = d.ids.now.nodes.items in
    let at = place_in g.nodes n has.among in
    let id : NodeModel → Text = λ x. x.id in
    let text : slice_get (node_texts g) at.0 ≡ Some n.id = slice_get-map id g.nodes at.0 ∙ ap (option_map id) at.1 in
    let kid = right_of Reads (node_texts g) nodes at.0 n.id h.ids.nodes text in
    let same : id_of kid.0 ≡ i = ap id_of (once n.id kid.0 has.id.read kid.2 has.id.reads) ∙ has.id.same in
    d.ids.now.indexed.nodes.among i none at.0 (slice_get-map id_of nodes at.0 ∙ ap (option_map id_of) kid.1 ∙ ap (λ (x : Id). Some x) same))

-- of its id
pub parent_numbered : (d : Lookup) (place : ℕ) (parent : Identity) (number : Option ℕ) → IsLookup d → place < length (resolved_view d).graph.nodes → parent ≡ get_or d.ids.now.nodes.items place parent
    → ((i : Id) → NodeAt (resolved_view d) i place → IsNumberIn d i number) → IsNumberIn d (id_of parent) number
parent_numbered d place parent number h lt is told =
    let nodes = d.ids.now.nodes.items in
    let below : place < length nodes = subst (λ (m : ℕ). place < m) (nodes_long d h).0 lt in
    told (id_of parent) (node_here (resolved_view d) nodes place parent h.ids.nodes (id_seen nodes place parent below is))

-- ---- of a dependency

dep_there : ReadsOnce → (d : Lookup) (p child : Id) (place index : ℕ) (v : Vec (Option ℕ)) → IsLookup d → DepAt (resolved_view d) p child place index → v ≡ get_or d.ids.now.table.dep_numbers.items place v
    → (number : Option ℕ) × (slice_get v.items index ≡ Some number) × IsNumberIn d child number
dep_there once d p child place index v h at is =
    let g = (resolved_view d).graph in
    let ids = map id_of d.ids.now.table.ids.items in
    let n = at.node.node in
    let kids = right_of AreDepIds g.nodes (ids_view d.ids.now).deps place n h.ids.deps at.node.at in
    let numbers = names_at (AreNumbersOf ids) (ids_view d.ids.now).deps d.ids.now.table.dep_numbers place kids.0 v d.ids.now.indexed.dep_numbers kids.1 is in
    let pkg : NodeDepModel → Text = λ x. x.pkg in
    let text : slice_get (dep_texts n) index ≡ Some at.dep.pkg = slice_get-map pkg n.deps index ∙ ap (option_map pkg) at.at in
    numbered_there once ids (dep_texts n) kids.0 v.items index at.dep.pkg child kids.2 numbers text at.id

pub dep_numbered : ReadsOnce → (d : Lookup) (p child : Id) (place index : ℕ) (v : Vec (Option ℕ)) (number : Option ℕ) → IsLookup d → DepAt (resolved_view d) p child place index → v ≡ get_or d.ids.now.table.dep_numbers.items place v
    → number ≡ get_or v.items index number → IsNumberIn d child number
dep_numbered once d p child place index v number h at is_list is =
    let n = dep_there once d p child place index v h at is_list in
    subst (IsNumberIn d child) (read_number v.items index n.0 number n.1 is) n.2

pub dep_numbers_within : (d : Lookup) (p child : Id) (place index : ℕ) → IsLookup d → DepAt (resolved_view d) p child place index → place < vec_len d.ids.now.table.dep_numbers
dep_numbers_within d p child place index h at =
    let kids = right_of AreDepIds (resolved_view d).graph.nodes (ids_view d.ids.now).deps place at.node.node h.ids.deps at.node.at in
    names_within (AreNumbersOf (map id_of d.ids.now.table.ids.items)) (ids_view d.ids.now).deps d.ids.now.table.dep_numbers place kids.0 d.ids.now.indexed.dep_numbers kids.1

pub dep_number_within : ReadsOnce → (d : Lookup) (p child : Id) (place index : ℕ) (v : Vec (Option ℕ)) → IsLookup d → DepAt (resolved_view d) p child place index → v ≡ get_or d.ids.now.table.dep_numbers.items place v → index < vec_len v
dep_number_within once d p child place index v h at is =
    let n = dep_there once d p child place index v h at is in
    within_vec v index (slice_get_within v.items index n.0 n.1)
