-- What an agenda holds.
use Rattle.std.specs.Prelude.{◌≡◌, ◌≢◌, ℕ, ◌<◌, ◌≤◌, ◌==◌, List, Bool, All, AllPairs, count_by, length, slice_index_or, false}
use Rattle.std.specs.List.{list_any}

-- the numbers that were put, in the order of their puts, how many of them were taken, and the size
pub record PutNumbers : Type 0 where
  pub size : ℕ
  pub put : List ℕ
  pub taken : ℕ

-- each number was put once and lies below the size; so there are at most `size` of them, and no more were taken than put
pub record IsOrderly (agenda : PutNumbers) : Type 0 where
  pub distinct : AllPairs (λ a b. a ≢ b) agenda.put
  pub below : All (λ number. number < agenda.size) agenda.put
  pub within : length agenda.put ≤ agenda.size
  pub reached : agenda.taken ≤ length agenda.put

-- how an agenda keeps its numbers: a mark for each that was put, and room for all of them
pub record IsMarked (marks : List Bool) (put : List ℕ) (taken capacity : ℕ) : Type 0 where
  pub room : length marks ≤ capacity
  pub counted : length put ≡ count_by (λ mark. mark) marks
  pub marked : (number : ℕ) → slice_index_or marks number false ≡ list_any (λ other. other == number) put
  pub orderly : IsOrderly (record { size = length marks; put = put; taken = taken })
