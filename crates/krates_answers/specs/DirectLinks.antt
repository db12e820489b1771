-- Which kept crates depend directly on which.
use Rattle.std.specs.Prelude.{◌≡◌, ◌↔◌, ◌<◌, ◌^◌, ◌==◌, ◌++◌, ℕ, List, [], All, Contains, Some, count_by, length, map, replicate, slice_get, slice_index_or}
use Rattle.std.specs.Global.{Vec}
use Rattle.std.specs.List.Sorted.{IsStrictlyIncreasing}
use Rattle.krates_queries.specs.Direct.{IsDependent}
use Rattle.krates_queries.specs.Kept.{KeptCrates, ids_of}

-- the kept crate of number p depends directly on that of number d
pub record Needs {N E : Type 0} (k : KeptCrates N E) (p d : ℕ) : Type 0 where
  pub krate : d < length (ids_of k)
  pub depends : IsDependent k.graph.nodes k.graph.edges d p

-- and the other way round
abbrev pub IsNeededBy : {N E : Type 0} → KeptCrates N E → ℕ → ℕ → Type 0
IsNeededBy k d p = Needs k p d

-- the numbers ascend, and are exactly those that have the property
pub record AreExactly (Has : ℕ → Type 0) (numbers : List ℕ) : Type 0 where
  pub ascending : IsStrictlyIncreasing numbers
  pub exactly : (n : ℕ) → Contains numbers n ↔ Has n

-- b is in the list of number a
pub record IsListed (lists : List (List ℕ)) (a b : ℕ) : Type 0 where
  pub list : List ℕ
  pub at : slice_get lists a ≡ Some list
  pub among : Contains list b

-- there is a list for each number below the count, with exactly the numbers to which that one leads, ascending
pub record AreLinks (count : ℕ) (Leads : ℕ → ℕ → Type 0) (lists : List (List ℕ)) : Type 0 where
  pub counted : length lists ≡ count
  pub ascending : All IsStrictlyIncreasing lists
  pub exactly : (a b : ℕ) → IsListed lists a b ↔ Leads a b

-- each number that is listed has a list itself
abbrev pub AreInside : List (List ℕ) → Type 0
AreInside lists = All (λ list. All (λ n. n < length lists) list) lists

-- what holds of all links: each list ascends, each number that is listed has a list itself, and the lists can be numbered
pub record AreStored (lists : List (List ℕ)) : Type 0 where
  pub inside : AreInside lists
  pub ascending : All IsStrictlyIncreasing lists
  pub numbered : length lists < 2 ^ 32

-- ---- pairs

-- the pair leads from the number to n, which is below the count
pub record IsPairOf (count number n : ℕ) (pair : ℕ × ℕ) : Type 0 where
  pub from : pair.0 ≡ number
  pub to : pair.1 ≡ n
  pub below : n < count

-- one of the pairs leads from a to b, which is below the count
pub record IsPairedWith (count : ℕ) (pairs : List (ℕ × ℕ)) (a b : ℕ) : Type 0 where
  pub pair : ℕ × ℕ
  pub among : Contains pairs pair
  pub is : IsPairOf count a b pair

-- and a is below it too
pub record IsPaired (count : ℕ) (pairs : List (ℕ × ℕ)) (a b : ℕ) : Type 0 where
  pub below : a < count
  pub leads : IsPairedWith count pairs a b

-- ---- steps

-- what each vector holds
abbrev pub items_of : List (Vec ℕ) → List (List ℕ)
items_of vectors = map (λ vector. vector.items) vectors

-- each list has the number once more for each time that its place is among these
pub record ArePushed (number : ℕ) (places : List ℕ) (old new : List (List ℕ)) : Type 0 where
  pub each : (a : ℕ) → a < length old → slice_index_or new a [] ≡ slice_index_or old a [] ++ replicate (count_by (λ place. place == a) places) number
