-- `all` and `any` of the program, by their lists.
use Rattle.std.proofs.Common.{◌≡◌, refl, ap, ◌∙◌, Vec, Global}
use mathlib.Core.Former.{Count}
use Rattle.krates_text.specs.declared.cfg.predicate.Predicate.{Predicate, All, All', Any, Any', Row_of-Predicate, end_of-Predicate, more_of-Predicate, items-the_row-Predicate, items_hidden-the_row-Predicate-0}
use Rattle.krates_text.specs.CfgGrammar.{tree, all_of, any_of}
use Rattle.krates_text.specs.CfgView.{tree_of, trees_of_row, trees_of}

trees_at : (n : _) (row : Row_of-Predicate n) → trees_of_row row ≡ trees_of (items-the_row-Predicate n row)
trees_at n end_of-Predicate = refl
trees_at n (more_of-Predicate p rest) = ap (tree (tree_of p)) (trees_at _ rest)

abbrev row_of : Predicate → (n : Count) × Row_of-Predicate n
row_of (All' _ row) = (_, row)
row_of (Any' _ row) = (_, row)
row_of _ = (_, end_of-Predicate)

pub tree-All : (predicates : Vec Predicate Global) → tree_of (All predicates) ≡ all_of (trees_of predicates.items)
tree-All predicates =
    let row = row_of (All predicates) in
    ap all_of (trees_at row.0 row.1 ∙ ap trees_of (items_hidden-the_row-Predicate-0 predicates))

pub tree-Any : (predicates : Vec Predicate Global) → tree_of (Any predicates) ≡ any_of (trees_of predicates.items)
tree-Any predicates =
    let row = row_of (Any predicates) in
    ap any_of (trees_at row.0 row.1 ∙ ap trees_of (items_hidden-the_row-Predicate-0 predicates))
