-- The place of a node's dependency.
use Rattle.std.proofs.Common.{◌≡◌, ℕ, Some, Contains, sym, ap, ◌∙◌, inl, inr}
use Rattle.std.proofs.lemmas.Bool.{cases_order}
use Rattle.std.proofs.lemmas.Option.{same_Some, slice_get-map}
use Rattle.std.specs.List.{slice_get}
use Rattle.std.specs.Option.{option_map}
use Rattle.krates_cm.specs.Document.{NodeModel, NodeDepModel}
use Rattle.krates_rules.specs.Admission.{NoneDoubled, doubled_dep, dep_texts}
use Rattle.krates_rules.specs.Facts.{Id}
use Rattle.krates_rules.specs.Resolved.{DepAt, Resolved}
use Rattle.krates_rules.proofs.OnlyOne.{one_node_place}
use Rattle.krates_rules.proofs.Standings.{contains_at}

-- there is only one dependency between two crates
pub one_dep_place : (r : Resolved) (p c : Id) (m i n j : ℕ) → NoneDoubled r.metadata r.graph → DepAt r p c m i → DepAt r p c n j → (m ≡ n) × (i ≡ j)
one_dep_place r p c m i n j none a b = (place, index)
  where
    place : m ≡ n
    place = one_node_place r p m n none a.node b.node

    same : a.node.node ≡ b.node.node
    same = same_Some a.node.node b.node.node (sym a.node.at ∙ ap (slice_get r.graph.nodes) place ∙ b.node.at)

    among : Contains r.graph.nodes a.node.node
    among = contains_at r.graph.nodes m a.node.node a.node.at

    text_at : (k : ℕ) (d : NodeDepModel) → slice_get a.node.node.deps k ≡ Some d → slice_get (dep_texts a.node.node) k ≡ Some d.pkg
    text_at k d at = slice_get-map (λ (x : NodeDepModel). x.pkg) a.node.node.deps k ∙ ap (option_map (λ (x : NodeDepModel). x.pkg)) at

    at_i : slice_get (dep_texts a.node.node) i ≡ Some a.dep.pkg
    at_i = text_at i a.dep a.at

    at_j : slice_get (dep_texts a.node.node) j ≡ Some b.dep.pkg
    at_j = text_at j b.dep (ap (λ (x : NodeModel). slice_get x.deps j) same ∙ b.at)

    index : i ≡ j
    index = elim (cases_order i j) [
      | inl e ↦ e
      | inr r ↦ elim r [
        | inl lt ↦ absurd (none c (doubled_dep a.node.node among (record { first = i; second = j; apart = lt; one = a.dep.pkg; other = b.dep.pkg; at_first = at_i; at_second = at_j; one_holds = a.id; other_holds = b.id })))
        | inr lt ↦ absurd (none c (doubled_dep a.node.node among (record { first = j; second = i; apart = lt; one = b.dep.pkg; other = a.dep.pkg; at_first = at_j; at_second = at_i; one_holds = b.id; other_holds = a.id })))
      ]
    ]
