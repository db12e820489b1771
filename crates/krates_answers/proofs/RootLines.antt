-- The roots that a crate has, and their lines.
use Rattle.std.proofs.Common.{◌≡◌, ℕ, ◌<◌, Bool, true, List, All, length, map, nat_lt, reverse, sym, ap, ◌∙◌}
use Rattle.std.proofs.lemmas.Bool.{ltb-true}
use Rattle.std.proofs.lemmas.List.{reverse-reverse}
use Rattle.std.proofs.lemmas.List.Elements.{All-weaker, filter_passes}
use Rattle.krates_answers.specs.Tree.{root_line, roots_among}
use Rattle.krates_answers.proofs.Reversed.{filter-reverse, map-reverse}

-- whether a crate has the number
abbrev is_inside : List (List ℕ) → ℕ → Bool
is_inside lists n = nat_lt n (length lists)

pub roots_inside : (lists : List (List ℕ)) (roots : List ℕ) → All (λ n. n < length lists) (roots_among lists roots)
roots_inside lists roots =
    All-weaker (λ n. is_inside lists n ≡ true) (λ n. n < length lists) (λ n e. ltb-true n (length lists) e) (roots_among lists roots) (filter_passes (is_inside lists) roots)

-- the lines of the roots from the last to the first, turned round again
pub turned_roots : (lists : List (List ℕ)) (roots : List ℕ) → reverse (map root_line (roots_among lists (reverse roots))) ≡ map root_line (roots_among lists roots)
turned_roots lists roots =
    sym (map-reverse root_line (roots_among lists (reverse roots))) ∙ ap (map root_line) (sym (filter-reverse (is_inside lists) (reverse roots)))
    ∙ ap (λ (ns : List ℕ). map root_line (roots_among lists ns)) (reverse-reverse roots)
