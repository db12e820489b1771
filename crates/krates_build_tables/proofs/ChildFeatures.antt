-- Lemmas of what the dependencies of a crate lead to, and of its features.
use Rattle.std.proofs.Common.{◌≡◌, ℕ, ◌+◌, ◌<◌, ◌≤◌, length, inl, inr, refl, sym, subst, arith}
use Rattle.std.proofs.lemmas.Bool.{cases_lt}
use Rattle.krates_cm.specs.Document.{Text, DependencyModel, NodeDepModel, node_dep_view}
use Rattle.krates_questions.specs.NodeEntry.{AreParts, IsEntryOf, child_of, krate_of, parent_of}
use Rattle.krates_questions.specs.declared.node_entry.NodeEntry.{NodeEntry}
use Rattle.krates_questions.specs.declared.node_entry.NodeParts.{NodeParts}
use Rattle.krates_rules.specs.Admission.{NoneDoubled}
use Rattle.krates_rules.specs.DeclaredDependency.{declared_name}
use Rattle.krates_rules.specs.Facts.{Id, Edge}
use Rattle.krates_rules.specs.Questions.{edge_between}
use Rattle.krates_rules.specs.Resolved.{Resolved, HasNode, NoNode}
use Rattle.krates_rules.proofs.Readings.{ReadsOnce}
use Rattle.krates_units.specs.Requests.{HasFeature}
use Rattle.krates_units.specs.Resolves.{HasDeclared}
use Rattle.krates_build_tables.specs.Entries.{HasOneThat}
use Rattle.krates_build_tables.specs.Leading.{EachHas, ResolvesNamed}
use Rattle.krates_build_tables.specs.Pairs.{FitsChild, FitsInfo, GivesOf, PairsFor}
use Rattle.krates_build_tables.proofs.PairLemmas.{GivesAt, by_resolves, gives_for, gives_here, node_told, whole_resolves}

-- ---- a dependency of a node

-- the package that it leads to has the feature, so each of its edges leads to one that has it
pub child_told : (r : Resolved) (p c : Id) (dep : NodeDepModel) (d : DependencyModel) (f : Text) → HasFeature r c f → EachHas r f (GivesOf r p c dep d)
child_told r p c dep d f has b gives = subst (λ (x : Edge × DependencyModel). HasFeature r x.0.child f) (sym gives.1.2.1) has

-- and it gives one
pub child_from : (r : Resolved) (p c : Id) (dep : NodeDepModel) (d : DependencyModel) (f : Text) → FitsChild r c dep d → HasOneThat (λ k. FitsInfo k d) dep.dep_kinds → EachHas r f (GivesOf r p c dep d)
    → HasFeature r c f
child_from r p c dep d f fits kind each = each (edge_between p c kind.0, d) (fits, (kind.0, kind.1, (kind.2, refl)))

-- ---- a node

-- each edge of the dependencies so far leads to a package with the feature
abbrev pub EachBelow : Resolved → NodeParts → DependencyModel → Text → ℕ → Type 0
EachBelow r x d f n = (k : ℕ) → k < n → EachHas r f (GivesAt r x d k)

pub each_zero : (r : Resolved) (x : NodeParts) (d : DependencyModel) (f : Text) → EachBelow r x d f 0
each_zero r x d f k below = absurd (omega (arith, below))

pub each_next : (r : Resolved) (x : NodeParts) (d : DependencyModel) (f : Text) (n : ℕ) (y : NodeEntry) → IsEntryOf x n y
    → EachHas r f (GivesOf r (parent_of y) (child_of y) (node_dep_view y.dep.now) d) → EachBelow r x d f n → EachBelow r x d f (n + 1)
each_next r x d f n y e here so_far k below = elim (cases_lt k n) [
  | inl lt ↦ so_far k lt
  | inr le ↦ (
      let same : n ≡ k = omega (arith, below, le) in
      subst (λ (j : ℕ). EachHas r f (GivesAt r x d j)) same (λ b gives. here b ((gives_here r x d n y e b).0 gives)))
]

pub each_whole : ReadsOnce → (r : Resolved) (place : ℕ) (x : NodeParts) (d : DependencyModel) (f : Text) (n : ℕ) → NoneDoubled r.metadata r.graph → AreParts r place x → length x.children.now ≤ n → EachBelow r x d f n
    → EachHas r f (PairsFor r (krate_of x) d)
each_whole once r place x d f n none p long each b pair =
    let at = (node_told once r place x d n b none p long).0 pair in
    each at.0 at.1 b at.2

-- what all edges of the node lead to, those of one of its dependencies do
pub each_here : (r : Resolved) (place : ℕ) (x : NodeParts) (d : DependencyModel) (f : Text) (k : ℕ) (y : NodeEntry) → AreParts r place x → IsEntryOf x k y → EachHas r f (PairsFor r (krate_of x) d)
    → EachHas r f (GivesOf r (parent_of y) (child_of y) (node_dep_view y.dep.now) d)
each_here r place x d f k y p e each b gives = each b (gives_for r place x d k b p ((gives_here r x d k y e b).1 gives))

pub each_of_none : (r : Resolved) (i : Id) (d : DependencyModel) (f : Text) → NoNode r i → EachHas r f (PairsFor r i d)
each_of_none r i d f none b pair = absurd (none pair.2.lists.node (subst (λ (j : Id). HasNode r j pair.2.lists.node) pair.1 pair.2.lists.has_node))

-- ---- a crate

-- what the dependencies of the name lead to, each of them does
pub named_here : (r : Resolved) (i : Id) (name f : Text) (d : DependencyModel) → HasDeclared r i d → declared_name d ≡ name → EachHas r f (ResolvesNamed r i name) → EachHas r f (PairsFor r i d)
named_here r i name f d declared named each b pair =
    each (b.0, d) (whole_resolves r i b.0 d pair.1 declared pair.2, pair.1, named)

-- and what each of them leads to, those of the name do
pub named_whole : (r : Resolved) (i : Id) (name f : Text) → ((d : DependencyModel) → HasDeclared r i d → declared_name d ≡ name → EachHas r f (PairsFor r i d)) → EachHas r f (ResolvesNamed r i name)
named_whole r i name f each b (resolves, parent, named) =
    each b.1 (subst (λ (j : Id). HasDeclared r j b.1) parent resolves.declared) named b (refl, parent, by_resolves r b.0 b.1 resolves)
