-- The kept crates with their numbers: which numbers these are, and that none is left out.
use Rattle.std.proofs.Common.{◌≡◌, ℕ, suc, ◌<◌, ◌≤◌, ◌+◌, List, [], ◌∷◌, length, map, All, refl, sym, ap, ◌∙◌, arith, None, filter}
use Rattle.std.proofs.lemmas.List.Elements.{All-from_recursion}
use Rattle.std.specs.List.{AllByRecursion, range_with_len}
use Rattle.krates_ids.specs.Identity.{Identity}
use Rattle.krates_queries.specs.KrateNodes.{Match, numbered_crates, fits}
use Rattle.krates_drawing.specs.Node.{crate_ids, crate_values, CratesFirst}
use Rattle.krates_drawing.specs.declared.node.Node.{Node}
use Rattle.krates_drawing.specs.declared.node.Node.TheVariants.{Krate, Feature}
use Rattle.semver.specs.declared.Version.{Version}

-- their ids are those of the crates among the nodes
pub same_ids : {N : Type 0} (n : ℕ) (nodes : List (Node N)) → map (λ m. m.id) (numbered_crates n nodes) ≡ crate_ids nodes
same_ids n [] = refl
same_ids n (Krate id krate features mapping ∷ nodes) = ap (λ ids. id ∷ ids) (same_ids (suc n) nodes)
same_ids n (Feature krate_index name ∷ nodes) = same_ids (suc n) nodes

-- and so are their values
pub same_values : {N : Type 0} (n : ℕ) (nodes : List (Node N)) → map (λ m. m.krate) (numbered_crates n nodes) ≡ crate_values nodes
same_values n [] = refl
same_values n (Krate id krate features mapping ∷ nodes) = ap (λ values. krate ∷ values) (same_values (suc n) nodes)
same_values n (Feature krate_index name ∷ nodes) = same_values (suc n) nodes

pub as_many_matches : {N : Type 0} (n : ℕ) (nodes : List (Node N)) → length (numbered_crates n nodes) ≡ length (crate_ids nodes)
as_many_matches n [] = refl
as_many_matches n (Krate id krate features mapping ∷ nodes) = ap suc (as_many_matches (suc n) nodes)
as_many_matches n (Feature krate_index name ∷ nodes) = as_many_matches (suc n) nodes

no_matches : {N : Type 0} (n : ℕ) (nodes : List (Node N)) → crate_ids nodes ≡ [] → numbered_crates n nodes ≡ []
no_matches n [] none = refl
no_matches n (Krate id krate features mapping ∷ nodes) none = absurd cc
no_matches n (Feature krate_index name ∷ nodes) none = no_matches (suc n) nodes none

-- no crate comes after a feature, so the numbers have no gap
pub in_a_row : {N : Type 0} (n : ℕ) (nodes : List (Node N)) → CratesFirst nodes → map (λ m. m.number) (numbered_crates n nodes) ≡ range_with_len n (length (crate_ids nodes))
in_a_row n [] first = refl
in_a_row n (Krate id krate features mapping ∷ nodes) first =
    let next : suc n ≡ n + 1 = omega arith in
    ap (λ numbers. n ∷ numbers) (in_a_row (suc n) nodes first ∙ ap (λ k. range_with_len k (length (crate_ids nodes))) next)
in_a_row n (Feature krate_index name ∷ nodes) first =
    ap (map (λ m. m.number)) (no_matches (suc n) nodes first) ∙ sym (ap (λ (ids : List Identity). range_with_len n (length ids)) first)

each_below : {N : Type 0} (n k : ℕ) (nodes : List (Node N)) → CratesFirst nodes → n + length (crate_ids nodes) ≤ k → AllByRecursion (λ (m : Match N). m.number < k) (numbered_crates n nodes)
each_below n k [] first few = tt
each_below n k (Krate id krate features mapping ∷ nodes) first few = (omega (arith, few), each_below (suc n) k nodes first (omega (arith, few)))
each_below {N} n k (Feature krate_index name ∷ nodes) first few =
    let none : numbered_crates (suc n) nodes ≡ [] = no_matches (suc n) nodes first in
    rw none tt

-- and none is past the last
pub all_below : {N : Type 0} (nodes : List (Node N)) → CratesFirst nodes → All (λ (m : Match N). m.number < length (crate_ids nodes)) (numbered_crates 0 nodes)
all_below nodes first = All-from_recursion (λ m. m.number < length (crate_ids nodes)) (numbered_crates 0 nodes) (each_below 0 (length (crate_ids nodes)) nodes first (omega arith))

-- ---- crates that are found by their name alone

-- without a version all of them match
pub all_fit : {N : Type 0} (version : N → Version) (ms : List (Match N)) → filter (fits version None) ms ≡ ms
all_fit version [] = refl
all_fit version (m ∷ ms) = ap (λ xs. m ∷ xs) (all_fit version ms)
