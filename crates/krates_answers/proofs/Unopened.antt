-- How much is left of lists of which some are opened: it falls by the length of a list that is opened.
use Rattle.std.proofs.Common.{◌≡◌, ℕ, zero, suc, ◌+◌, ◌<◌, Bool, true, false, cond, List, [], ◌∷◌, length, get_or, set, subst, arith}
use Rattle.krates_answers.specs.Tree.{list_of}

-- the length of all lists that have no mark
abbrev pub unopened : List Bool → List (List ℕ) → ℕ
unopened [] lists = 0
unopened (mark ∷ marks) [] = 0
unopened (mark ∷ marks) (list ∷ lists) = cond mark 0 (length list) + unopened marks lists

pub unopened-set : (marks : List Bool) (lists : List (List ℕ)) (n : ℕ) → length marks ≡ length lists → n < length marks
    → unopened (set marks n true) lists + cond (get_or marks n false) 0 (length (list_of lists n)) ≡ unopened marks lists
unopened-set [] lists n long lt = absurd (omega arith)
unopened-set (mark ∷ marks) [] n long lt = absurd (omega arith)
unopened-set (mark ∷ marks) (list ∷ lists) zero long lt = omega arith
unopened-set (mark ∷ marks) (list ∷ lists) (suc n) long lt = omega (arith, unopened-set marks lists n (omega arith) (omega arith))

-- a list that has a mark gets it again
pub unopened-again : (marks : List Bool) (lists : List (List ℕ)) (n : ℕ) → length marks ≡ length lists → n < length marks → get_or marks n false ≡ true → unopened (set marks n true) lists ≡ unopened marks lists
unopened-again marks lists n long lt e =
    let all = subst (λ (t : Bool). unopened (set marks n true) lists + cond t 0 (length (list_of lists n)) ≡ unopened marks lists) e (unopened-set marks lists n long lt) in
    omega (arith, all)

-- a list gets its mark
pub unopened-new : (marks : List Bool) (lists : List (List ℕ)) (n : ℕ) → length marks ≡ length lists → n < length marks → get_or marks n false ≡ false
    → unopened (set marks n true) lists + length (list_of lists n) ≡ unopened marks lists
unopened-new marks lists n long lt e = subst (λ (t : Bool). unopened (set marks n true) lists + cond t 0 (length (list_of lists n)) ≡ unopened marks lists) e (unopened-set marks lists n long lt)
