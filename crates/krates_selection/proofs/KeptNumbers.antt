-- The numbers of kept crates, and what is at the places of a document.
use Rattle.std.proofs.Common.{◌≡◌, ℕ, ◌<◌, List, length, map, Option, Some, None, IfSome, option_map, refl, sym, ap, ◌∙◌, subst, arith}
use Rattle.std.proofs.lemmas.List.{length-map}
use Rattle.std.proofs.lemmas.Option.{slice_get-map, slice_get_within, get_or_from_slice_get, same_Some}
use Rattle.std.specs.List.{slice_get}
use Rattle.std.specs.Option.{IsSome}
use Rattle.krates_cm.specs.Document.{NodeModel, NodeDepModel}
use Rattle.krates_selection.specs.Selection.{id_at, no_id}
use Rattle.krates_selection.specs.KeptTables.{IsChildAt, IsKeptChild, IsKeptIn, IsKeptNode, IsNumberAt, document_in, kids_in}
use Rattle.krates_selection.specs.declared.kept_tables.KeptTables.{KeptTables}
use Rattle.std.proofs.lemmas.Slice.Zip.{AllZip-long}
use Rattle.krates_ids.specs.Identity.{Identity}
use Rattle.krates_questions.proofs.Lookups.{one_id}
use Rattle.krates_document.specs.CrateTable.{IsNumberOf, at_number}
use Rattle.krates_questions.specs.Lookup.{IsNumberIn}
use Rattle.krates_rules.proofs.Readings.{ReadsOnce, right_of}
use Rattle.krates_rules.specs.Facts.{Id}
use Rattle.krates_rules.specs.Resolved.{DepAt, ReadsAs, Resolved, id_of}

-- ---- what a search answers

-- a kept crate has a number
pub record HasNumber (kids : List Identity) (i : Id) (answer : Option ℕ) : Type 0 where
  pub number : ℕ
  pub answered : answer ≡ Some number
  pub id : id_at kids number ≡ i
  pub below : number < length kids

pub has_number : (kids : List Identity) (i : Id) (answer : Option ℕ) → IsKeptIn kids i → IsNumberOf (map id_of kids) i answer → HasNumber kids i answer
has_number kids i None kept h = absurd (h kept.0 (slice_get-map id_of kids kept.0 ∙ ap (option_map id_of) kept.1.at ∙ ap (λ (x : Id). Some x) kept.1.same))
has_number kids i (Some n) kept h = record {
  number = n;
  answered = refl;
  id = get_or_from_slice_get (map id_of kids) n i no_id h;
  below = omega (arith, slice_get_within (map id_of kids) n i h, length-map kids id_of);
}

-- a crate with a number in the document has one among the kept ones, where it is kept
kept_number : (t : KeptTables) (i : Id) (number answer : Option ℕ) → IsKeptIn (kids_in t) i → IsSome number → IsNumberIn t.context.document.now i number → answer ≡ at_number t.numbers.now number → HasNumber t.krates.now i answer
kept_number t i None answer kept some n is = absurd cc
kept_number t i (Some m) answer kept some n is =
    let ids = t.context.document.now.ids.now.table.ids.items in
    let kids = map id_of t.krates.now in
    let w = right_of (IsNumberOf kids) (map id_of ids) t.numbers.now m i t.numbered n in
    let answered : w.0 ≡ answer = sym (is ∙ get_or_from_slice_get t.numbers.now m w.0 None w.1) in
    has_number t.krates.now i answer kept (subst (IsNumberOf kids i) answered w.2)

-- each number of the document has a place in the table
pub number_within : (t : KeptTables) (i : Id) (number : Option ℕ) → IsNumberIn t.context.document.now i number → IfSome number (λ n. n < length t.numbers.now)
number_within t i None n = tt
number_within t i (Some m) n =
    let ids = t.context.document.now.ids.now.table.ids.items in
    let long = AllZip-long (IsNumberOf (map id_of t.krates.now)) (map id_of ids) t.numbers.now t.numbered in
    omega (arith, slice_get_within (map id_of ids) m i n, length-map ids id_of, long)

-- ---- what is at a place

-- the number of the crate whose node is at the place, in a table of them
pub record HasNumberAt (t : KeptTables) (place : ℕ) (answer : Option ℕ) : Type 0 where
  pub number : ℕ
  pub answered : answer ≡ Some number
  pub is : IsNumberAt t place number

pub number_at : ReadsOnce → (t : KeptTables) (place : ℕ) (number answer : Option ℕ) → (k : IsKeptNode t place) → IsSome number → IsNumberIn t.context.document.now k.krate number → answer ≡ at_number t.numbers.now number → HasNumberAt t place answer
number_at once t place number answer k some n is =
    let r = document_in t in
    let w = kept_number t k.krate number answer k.kept some n is in
    record {
      number = w.number;
      answered = w.answered;
      is = record { is = λ i at. w.id ∙ one_id once r k.krate i place k.node at; below = w.below };
    }

-- the number of the crate to which the dependency at these places leads
pub record HasNumberFor (t : KeptTables) (place index : ℕ) (answer : Option ℕ) : Type 0 where
  pub number : ℕ
  pub answered : answer ≡ Some number
  pub is : IsChildAt t place index number

-- a dependency leads to only one crate
one_child : ReadsOnce → (r : Resolved) (p q c e : Id) (place index : ℕ) → DepAt r p c place index → DepAt r q e place index → c ≡ e
one_child once r p q c e place index a b =
    let n : a.node.node ≡ b.node.node = same_Some a.node.node b.node.node (sym a.node.at ∙ b.node.at) in
    let there : slice_get a.node.node.deps index ≡ Some b.dep = ap (λ (m : NodeModel). slice_get m.deps index) n ∙ b.at in
    let d : a.dep ≡ b.dep = same_Some a.dep b.dep (sym a.at ∙ there) in
    let reads = subst (λ (x : NodeDepModel). ReadsAs x.pkg e) (sym d) b.id in
    sym a.id.same ∙ ap id_of (once a.dep.pkg a.id.read reads.read a.id.reads reads.reads) ∙ reads.same

pub child_number : ReadsOnce → (t : KeptTables) (place index : ℕ) (number answer : Option ℕ) → (k : IsKeptChild t place index) → IsSome number → IsNumberIn t.context.document.now k.child number → answer ≡ at_number t.numbers.now number
    → HasNumberFor t place index answer
child_number once t place index number answer k some n is =
    let w = kept_number t k.child number answer k.kept.0 some n is in
    record {
      number = w.number;
      answered = w.answered;
      is = record { is = λ p c at. w.id ∙ one_child once (document_in t) k.parent p k.child c place index k.at at; below = w.below };
    }
