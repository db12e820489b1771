-- The kept crates, each with its number and its id: all of them, those of a name, and the members.
use Rattle.std.specs.Prelude.{ℕ, suc, List, [], ◌∷◌, Bool, true, Option, Some, None, slice_get}
use Rattle.krates_ids.specs.Identity.{Identity}
use Rattle.krates_queries.specs.Kept.{KeptCrates}
use Rattle.krates_drawing.specs.declared.node.Node.{Node}
use Rattle.krates_drawing.specs.declared.node.Node.TheVariants.{Krate, Feature}
use Rattle.krates_queries.specs.declared.queries.krate_nodes.KrateMatch.{KrateMatch}
use Rattle.std.specs.Str.{bytes_eq}
use Rattle.krates_cm.specs.Document.{Text}
use Rattle.semver.specs.Eval.{matches_all}
use Rattle.semver.specs.declared.Version.{Version}
use Rattle.semver.specs.declared.VersionReq.{VersionReq}
use Rattle.std.specs.List.{filter_map}

-- a kept crate with its number
pub record Match (N : Type 0) : Type 0 where
  pub number : ℕ
  pub id : Identity
  pub krate : N

-- the crate that a match shows
abbrev pub match_view : {N : Type 0} → KrateMatch N → Match N
match_view m = record { number = m.node_id; id = m.kid.now; krate = m.krate.now }

-- the crates among nodes that are numbered from n on, by increasing number
abbrev pub numbered_crates : {N : Type 0} → ℕ → List (Node N) → List (Match N)
numbered_crates n [] = []
numbered_crates n (Krate id krate features mapping ∷ nodes) = record { number = n; id = id; krate = krate } ∷ numbered_crates (suc n) nodes
numbered_crates n (Feature krate_index name ∷ nodes) = numbered_crates (suc n) nodes

-- the kept crates, by increasing number
abbrev pub crates_of : {N E : Type 0} → KeptCrates N E → List (Match N)
crates_of k = numbered_crates 0 k.graph.nodes

-- the crate that a node with this number is
abbrev pub match_in : {N : Type 0} → ℕ → Option (Node N) → Option (Match N)
match_in n None = None
match_in n (Some (Krate id krate features mapping)) = Some (record { number = n; id = id; krate = krate })
match_in n (Some (Feature krate_index name)) = None

-- the crate with a number
abbrev pub match_at : {N : Type 0} → List (Node N) → ℕ → Option (Match N)
match_at nodes n = match_in n (slice_get nodes n)

-- ---- crates of a name, whose version fits

-- whether the crate has this name, by the function that gives the name of the value held for its package
abbrev pub is_named : {N : Type 0} → (N → Text) → Text → Match N → Bool
is_named name_of name m = bytes_eq (name_of m.krate) name

-- whether the crate's version fits what is wanted, if anything is
abbrev pub has_fitting : {N : Type 0} → (N → Version) → Option VersionReq → N → Bool
has_fitting version None krate = true
has_fitting version (Some req) krate = matches_all req.comparators.items (version krate)

abbrev pub fits : {N : Type 0} → (N → Version) → Option VersionReq → Match N → Bool
fits version wanted m = has_fitting version wanted m.krate

-- ---- members

-- the nodes with these numbers, in the order of the numbers
abbrev pub nodes_at : {X : Type 0} → List X → List ℕ → List X
nodes_at nodes numbers = filter_map (slice_get nodes) numbers
