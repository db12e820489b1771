-- The numbers of the steps that a step uses.
use Rattle.std.specs.Prelude.{ℕ, List, [], ◌∷◌, ◌++◌, Option, Some, None}
use Rattle.krates_rules.specs.declared.uses.Uses.{Uses}

-- the number, if there is one
abbrev pub number_in : Option ℕ → List ℕ
number_in None = []
number_in (Some number) = number ∷ []

-- in the order of the rule
abbrev pub numbers_used : Uses → List ℕ
numbers_used uses = number_in uses.first ++ number_in uses.second
