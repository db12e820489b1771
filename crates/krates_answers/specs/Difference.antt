-- What crates need of each other, as parts of an answer.
use Rattle.std.specs.Prelude.{List, Option, map, option_map}
use Rattle.std.specs.List.{filter_map, flat_map}
use Rattle.krates_cm.specs.Document.{Text}
use Rattle.krates_cm.specs.declared.package.Package.{Package}
use Rattle.krates_queries.specs.Kept.{KeptCrates}
use Rattle.krates_queries.specs.KrateNodes.{Match, crates_of, match_view}
use Rattle.krates_queries.specs.Numbers.{kid_at}
use Rattle.krates_queries.specs.declared.queries.direct.DirectDependent.{DirectDependent}
use Rattle.krates_answers.specs.DirectLinks.{Needs}
use Rattle.krates_answers.specs.SamePackage.{MeanSame}
use Rattle.krates_answers.specs.Those.{AreThose}
use Rattle.krates_answers.specs.declared.difference.DependencyEdge.{DependencyEdge}

-- two crates, of which the first may depend on the second
pub record Pair (N : Type 0) : Type 0 where
  pub parent : Match N
  pub child : Match N

-- the crates that a dependency shows
abbrev pub dependency_view : DependencyEdge → Pair Package
dependency_view d = record { parent = match_view d.parent; child = match_view d.child }

-- both crates of one mean the same as those of the other, each of a checkout of a workspace with this root
pub record MeanSameDependency (root : Text) (pair : Pair Package) (other_root : Text) (other : Pair Package) : Type 0 where
  pub child : MeanSame root pair.child.krate other_root other.child.krate
  pub parent : MeanSame root pair.parent.krate other_root other.parent.krate

-- each of these crates before the child
abbrev pub pairs_with : {N : Type 0} → Match N → List (Match N) → List (Pair N)
pairs_with child parents = map (λ parent. record { parent = parent; child = child }) parents

-- all pairs of kept crates, by the number of the child, and then by that of the parent
abbrev pub pairs_of : {N E : Type 0} → KeptCrates N E → List (Pair N)
pairs_of k = flat_map (λ child. pairs_with child (crates_of k)) (crates_of k)

-- the first depends directly on the second
abbrev pub IsDependency : {N E : Type 0} → KeptCrates N E → Pair N → Type 0
IsDependency k pair = Needs k pair.parent.number pair.child.number

-- these are exactly the pairs of kept crates of which the first depends directly on the second, each once, in the order of `pairs_of`
abbrev pub AreDependencies : {N E : Type 0} → KeptCrates N E → List (Pair N) → Type 0
AreDependencies k pairs = AreThose (IsDependency k) (pairs_of k) pairs

-- ---- steps

-- a crate that depends directly on another, with its id
abbrev pub parent_of : {N E : Type 0} → KeptCrates N E → DirectDependent N → Option (Match N)
parent_of k d = option_map (λ id. record { number = d.node_id; id = id; krate = d.krate.now }) (kid_at k.graph.nodes d.node_id)

-- each of them before the crate on which it depends
abbrev pub pairs_to : {N E : Type 0} → KeptCrates N E → Match N → List (DirectDependent N) → List (Pair N)
pairs_to k child dependents = pairs_with child (filter_map (parent_of k) dependents)
