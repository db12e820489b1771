-- Look-ups in the list of ids agree with the document.
use Rattle.std.proofs.Common.{◌≡◌, ℕ, zero, suc, List, [], ◌∷◌, map, Option, Some, None, MatchOption, option_map, refl, sym, ap, ◌∙◌, subst, Contains, is_some}
use Rattle.std.proofs.lemmas.Option.{slice_get-map, slice_get-get_or, same_Some}
use Rattle.std.specs.List.{AllZip, slice_get}
use Rattle.krates_cm.specs.Document.{Text, PackageModel, NodeModel}
use Rattle.krates_ids.specs.Identity.{Identity, Reads}
use Rattle.krates_rules.specs.Facts.{Id}
use Rattle.krates_rules.specs.Admission.{package_texts, node_texts}
use Rattle.krates_questions.specs.Lookup.{IsPackagePlace, TellsMember}
use Rattle.krates_rules.specs.Resolved.{Resolved, id_of, ReadsAs, StandsAt, NoNode, NodeAt}
use Rattle.krates_document.specs.CrateTable.{IsPlaceOf}
use Rattle.krates_rules.proofs.Readings.{ReadsOnce, left_of, right_of}
use Rattle.krates_rules.proofs.OnlyOne.{place_in}
use Rattle.krates_rules.proofs.Standings.{contains_at}

mapped_at : {A : Type 0} (text : A → Text) (xs : List A) (k : ℕ) (t : Text) → slice_get (map text xs) k ≡ Some t → (x : A) × (slice_get xs k ≡ Some x) × (text x ≡ t)
mapped_at text [] k t h = absurd cc
mapped_at text (x ∷ xs) zero t h = (x, refl, cc)
mapped_at text (x ∷ xs) (suc k) t h = mapped_at text xs k t h

-- where the id is in the list of ids, an element with the id is in the other list
pub at_place : {A : Type 0} (text : A → Text) (xs : List A) (ids : List Identity) (i : Id) (place : ℕ) → AllZip Reads (map text xs) ids → StandsAt ids i place
    → (x : A) × (slice_get xs place ≡ Some x) × ReadsAs (text x) i
at_place text xs ids i place z s =
    let t = left_of Reads (map text xs) ids place s.there z s.at in
    let x = mapped_at text xs place t.0 t.1 in
    (x.0, x.1, record { read = s.there; reads = subst (λ (b : Text). Reads b s.there) (sym x.2) t.2; same = s.same })

-- where the list of ids lacks the id, no element has it
nowhere : {A : Type 0} (text : A → Text) (xs : List A) (ids : List Identity) (i : Id) → ReadsOnce → AllZip Reads (map text xs) ids → ((place : ℕ) → StandsAt ids i place → ⊥)
    → (x : A) → Contains xs x → ReadsAs (text x) i → ⊥
nowhere text xs ids i once z none x (k, lt, is) r =
    let here : slice_get xs k ≡ Some x = slice_get-get_or xs k x lt ∙ ap (λ y. Some y) is in
    let there : slice_get (map text xs) k ≡ Some (text x) = slice_get-map text xs k ∙ ap (option_map text) here in
    let y = right_of Reads (map text xs) ids k (text x) z there in
    none k (record { there = y.0; at = y.1; same = ap id_of (once (text x) y.0 r.read y.2 r.reads) ∙ r.same })

-- a place in the list of ids is a place of the package
pub package_answer : (r : Resolved) (ids : List Identity) (i : Id) (answer : Option ℕ) → ReadsOnce → AllZip Reads (package_texts r.metadata) ids → IsPlaceOf ids i answer → IsPackagePlace r i answer
package_answer r ids i None once z none = λ p h. nowhere (λ (p : PackageModel). p.id) r.metadata.packages ids i once z none p h.among h.id
package_answer r ids i (Some place) once z s = let w = at_place (λ (p : PackageModel). p.id) r.metadata.packages ids i place z s in record { pkg = w.0; at = w.1; id = w.2 }

-- a place in the list of members shows that the crate is a member
pub member_answer : (r : Resolved) (ids : List Identity) (i : Id) (answer : Option ℕ) → ReadsOnce → AllZip Reads r.metadata.workspace_members ids → IsPlaceOf ids i answer → TellsMember r i (is_some answer)
member_answer r ids i None once z none = λ m.
    let at = place_in r.metadata.workspace_members m.text m.among in
    let y = right_of Reads r.metadata.workspace_members ids at.0 m.text z at.1 in
    none at.0 (record { there = y.0; at = y.1; same = ap id_of (once m.text y.0 m.id.read y.2 m.id.reads) ∙ m.id.same })
member_answer r ids i (Some place) once z s =
    let t = left_of Reads r.metadata.workspace_members ids place s.there z s.at in
    record { text = t.0; among = contains_at r.metadata.workspace_members place t.0 t.1; id = record { read = s.there; reads = t.2; same = s.same } }

-- a place in the list of ids is a place of the node
pub node_answer : (r : Resolved) (ids : List Identity) (i : Id) (answer : Option ℕ) → ReadsOnce → AllZip Reads (node_texts r.graph) ids → IsPlaceOf ids i answer → MatchOption answer (NoNode r i) (NodeAt r i)
node_answer r ids i None once z none = λ n h. nowhere (λ (n : NodeModel). n.id) r.graph.nodes ids i once z none n h.among h.id
node_answer r ids i (Some place) once z s = let w = at_place (λ (n : NodeModel). n.id) r.graph.nodes ids i place z s in record { node = w.0; at = w.1; id = w.2 }

-- a node has only one id
pub one_id : ReadsOnce → (r : Resolved) (i j : Id) (place : ℕ) → NodeAt r i place → NodeAt r j place → i ≡ j
one_id once r i j place a b =
    let n = same_Some a.node b.node (sym a.at ∙ b.at) in
    let there = subst (λ (m : _). ReadsAs m.id j) (sym n) b.id in
    sym a.id.same ∙ ap id_of (once a.node.id a.id.read there.read a.id.reads there.reads) ∙ there.same
