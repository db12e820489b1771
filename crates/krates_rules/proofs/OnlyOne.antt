-- Where no id is doubled, at most one package, one node, and one dependency of a node has a given id.
use Rattle.std.proofs.Common.{◌≡◌, ℕ, List, map, Some, Contains, sym, ap, ◌∙◌, subst, inl, inr, option_map}
use Rattle.std.proofs.lemmas.Bool.{cases_order}
use Rattle.std.proofs.lemmas.Option.{slice_get-map, slice_get-get_or, same_Some}
use Rattle.std.specs.List.{slice_get}
use Rattle.krates_cm.specs.Document.{Text, PackageModel, NodeModel, NodeDepModel}
use Rattle.krates_rules.specs.Admission.{IsDoubledIn, NoneDoubled, doubled_package, doubled_node, doubled_dep}
use Rattle.krates_rules.specs.Facts.{Id}
use Rattle.krates_rules.specs.Resolved.{NodeAt, Resolved, ReadsAs, HasPackage, HasNode, HasDep}

-- an element of a list is at some place
pub place_in : {A : Type 0} (xs : List A) (x : A) → Contains xs x → (k : ℕ) × (slice_get xs k ≡ Some x)
place_in xs x (k, lt, is) = (k, slice_get-get_or xs k x lt ∙ ap (λ y. Some y) is)

-- texts that read as one id are at one place
one_place : (texts : List Text) (i : Id) → (IsDoubledIn texts i → ⊥) → (j k : ℕ) (t u : Text) → slice_get texts j ≡ Some t → ReadsAs t i → slice_get texts k ≡ Some u → ReadsAs u i → j ≡ k
one_place texts i none j k t u a ra b rb = elim (cases_order j k) [
  | inl e ↦ e
  | inr r ↦ elim r [
    | inl lt ↦ absurd (none (record { first = j; second = k; apart = lt; one = t; other = u; at_first = a; at_second = b; one_holds = ra; other_holds = rb }))
    | inr lt ↦ absurd (none (record { first = k; second = j; apart = lt; one = u; other = t; at_first = b; at_second = a; one_holds = rb; other_holds = ra }))
  ]
]

-- elements whose texts read as one id are the same, and at one place
one_element : {A : Type 0} (text : A → Text) (xs : List A) (i : Id) → (IsDoubledIn (map text xs) i → ⊥) → (j k : ℕ) (x y : A) → slice_get xs j ≡ Some x → ReadsAs (text x) i → slice_get xs k ≡ Some y → ReadsAs (text y) i
    → (j ≡ k) × (x ≡ y)
one_element text xs i none j k x y a ra b rb =
    let e = one_place (map text xs) i none j k (text x) (text y) (slice_get-map text xs j ∙ ap (option_map text) a) ra (slice_get-map text xs k ∙ ap (option_map text) b) rb in
    (e, same_Some x y (sym a ∙ ap (λ n. slice_get xs n) e ∙ b))

pub one_package : (r : Resolved) (i : Id) (p q : PackageModel) → NoneDoubled r.metadata r.graph → HasPackage r i p → HasPackage r i q → p ≡ q
one_package r i p q none a b =
    let at = place_in r.metadata.packages p a.among in
    let bt = place_in r.metadata.packages q b.among in
    (one_element (λ (p : PackageModel). p.id) r.metadata.packages i (λ t. none i (doubled_package t)) at.0 bt.0 p q at.1 a.id bt.1 b.id).1

pub one_node : (r : Resolved) (i : Id) (n m : NodeModel) → NoneDoubled r.metadata r.graph → HasNode r i n → HasNode r i m → n ≡ m
one_node r i n m none a b =
    let at = place_in r.graph.nodes n a.among in
    let bt = place_in r.graph.nodes m b.among in
    (one_element (λ (n : NodeModel). n.id) r.graph.nodes i (λ t. none i (doubled_node t)) at.0 bt.0 n m at.1 a.id bt.1 b.id).1

-- so a node of an id is at one place
pub one_node_place : (r : Resolved) (i : Id) (j k : ℕ) → NoneDoubled r.metadata r.graph → NodeAt r i j → NodeAt r i k → j ≡ k
one_node_place r i j k none a b = (one_element (λ (n : NodeModel). n.id) r.graph.nodes i (λ t. none i (doubled_node t)) j k a.node b.node a.at a.id b.at b.id).0

pub one_dep : (r : Resolved) (i c : Id) (n m : NodeModel) (d e : NodeDepModel) → NoneDoubled r.metadata r.graph → HasNode r i n → HasNode r i m → HasDep n c d → HasDep m c e → d ≡ e
one_dep r i c n m d e none a b x y =
    let same = one_node r i n m none a b in
    let z = subst (λ (n : NodeModel). HasDep n c e) (sym same) y in
    let at = place_in n.deps d x.among in
    let bt = place_in n.deps e z.among in
    (one_element (λ (d : NodeDepModel). d.pkg) n.deps c (λ t. none c (doubled_dep n a.among t)) at.0 bt.0 d e at.1 x.id bt.1 z.id).1
