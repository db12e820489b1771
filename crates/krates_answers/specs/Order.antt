-- An order in which crates can be built, or a cycle of them.
use Rattle.std.specs.BTreeSet.{BTreeSet, contains}
use Rattle.std.specs.Ordering.{nat_cmp}
use Rattle.std.specs.Prelude.{◌≡◌, ◌↔◌, ◌<◌, ◌≤◌, ◌⊎◌, ◌++◌, ◌∷◌, [], ℕ, Bool, List, Contains, IsTrue, false, length, slice_index_or, ⊤}
use Rattle.krates_answers.specs.DirectLinks.{AreInside, IsListed}
use Rattle.krates_answers.specs.declared.order.Order.{Order}
use Rattle.krates_answers.specs.declared.order.Order.TheVariants as orders

-- ---- the order

-- the crate of this number can come behind these: it isn't among them, and all to which it leads are
pub record CanFollow (lists : List (List ℕ)) (before : List ℕ) (n : ℕ) : Type 0 where
  pub below : n < length lists
  pub new : Contains before n → ⊥
  pub needs : (m : ℕ) → IsListed lists n m → Contains before m

-- it is the first that can
pub record IsNext (lists : List (List ℕ)) (before : List ℕ) (n : ℕ) : Type 0 where
  pub can : CanFollow lists before n
  pub first : (m : ℕ) → CanFollow lists before m → n ≤ m

-- each of these came when it was next
pub data AreOrdered (lists : List (List ℕ)) : List ℕ → Type 0 where
  none : AreOrdered lists []
  one_more : {before : List ℕ} {n : ℕ} → AreOrdered lists before → IsNext lists before n → AreOrdered lists (before ++ n ∷ [])

-- and these are all crates
pub record IsOrder (lists : List (List ℕ)) (order : List ℕ) : Type 0 where
  pub ordered : AreOrdered lists order
  pub all : (n : ℕ) → n < length lists → Contains order n

-- ---- or a cycle

-- the first of these, or where there is none this number
abbrev pub first_or : List ℕ → ℕ → ℕ
first_or [] end = end
first_or (n ∷ rest) end = n

-- each of these leads to the next one, and the last to this number
abbrev pub LeadTo : List (List ℕ) → List ℕ → ℕ → Type 0
LeadTo lists [] end = ⊤
LeadTo lists (n ∷ rest) end = IsListed lists n (first_or rest end) × LeadTo lists rest end

-- each leads to the next one, and the last to the first
pub record IsCycle (lists : List (List ℕ)) (cycle : List ℕ) : Type 0 where
  pub first : ℕ
  pub rest : List ℕ
  pub begins : cycle ≡ first ∷ rest
  pub turns : LeadTo lists cycle first

abbrev pub IsOrderOrCycle : List (List ℕ) → Order → Type 0
IsOrderOrCycle lists (orders.Whole order) = IsOrder lists order.items
IsOrderOrCycle lists (orders.Cycle cycle) = IsCycle lists cycle.items

-- ---- steps

-- the set has exactly those that can come behind these
abbrev pub AreReady : List (List ℕ) → List ℕ → BTreeSet ℕ → Type 0
AreReady lists before ready = (n : ℕ) → IsTrue (contains nat_cmp ready n) ↔ CanFollow lists before n

abbrev pub IsMarked : List Bool → ℕ → Type 0
IsMarked marks n = IsTrue (slice_index_or marks n false)

-- all to which it leads have marks
abbrev pub HasNeedsMarked : List (List ℕ) → List Bool → ℕ → Type 0
HasNeedsMarked lists marks n = (m : ℕ) → IsListed lists n m → IsMarked marks m

-- it leads to that one, which has no mark
pub record IsUndoneNeed (lists : List (List ℕ)) (marks : List Bool) (n m : ℕ) : Type 0 where
  pub need : IsListed lists n m
  pub unmarked : slice_index_or marks m false ≡ false

-- exactly those of these numbers are added whose needs have marks
abbrev pub AreToldReady : List (List ℕ) → List ℕ → List Bool → BTreeSet ℕ → BTreeSet ℕ → Type 0
AreToldReady lists numbers marks old new = (n : ℕ) → IsTrue (contains nat_cmp new n) ↔ (IsTrue (contains nat_cmp old n) ⊎ (Contains numbers n × HasNeedsMarked lists marks n))

-- each number that is listed has a list itself, the marks are those of the order, and nothing can come behind it
pub record IsEnded (lists : List (List ℕ)) (order : List ℕ) (marks : List Bool) : Type 0 where
  pub inside : AreInside lists
  pub ordered : AreOrdered lists order
  pub marked : (n : ℕ) → n < length lists → IsMarked marks n ↔ Contains order n
  pub ended : (n : ℕ) → CanFollow lists order n → ⊥

-- a crate without a mark
pub record IsUndone (lists : List (List ℕ)) (marks : List Bool) (n : ℕ) : Type 0 where
  pub below : n < length lists
  pub unmarked : slice_index_or marks n false ≡ false

-- each crate without a mark leads to one without a mark
abbrev pub IsStuck : List (List ℕ) → List Bool → Type 0
IsStuck lists marks = (n : ℕ) → IsUndone lists marks n → HasNeedsMarked lists marks n → ⊥

-- the end of these numbers begins with this one
pub record IsCutAt (numbers : List ℕ) (number : ℕ) (end : List ℕ) : Type 0 where
  pub front : List ℕ
  pub rest : List ℕ
  pub split : numbers ≡ front ++ number ∷ rest
  pub is : end ≡ number ∷ rest
