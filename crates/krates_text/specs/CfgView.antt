-- The program's trees and frames, without where they lie in memory.
use Rattle.std.specs.Prelude.{List, [], ◌∷◌, string_bytes}
use Rattle.krates_text.specs.declared.cfg.predicate.Predicate.{Predicate, All', Any', Not', Constant, Word, Pair, Row_of-Predicate, end_of-Predicate, more_of-Predicate}
use Rattle.krates_text.specs.CfgGrammar.{Tree, all_of, any_of, not_of, constant, word, pair, Trees, no_trees, tree}

abbrev mutual
  pub tree_of : Predicate → Tree
  tree_of (All' shape all) = all_of (trees_of_row all)
  tree_of (Any' shape all) = any_of (trees_of_row all)
  tree_of (Not' p inner) = not_of (tree_of inner)
  tree_of (Constant b) = constant b
  tree_of (Word w) = word (string_bytes w)
  tree_of (Pair key string) = pair (string_bytes key) (string_bytes string)

  pub trees_of_row : {m : _} → Row_of-Predicate m → Trees
  trees_of_row end_of-Predicate = no_trees
  trees_of_row (more_of-Predicate p rest) = tree (tree_of p) (trees_of_row rest)

abbrev pub trees_of : List Predicate → Trees
trees_of [] = no_trees
trees_of (p ∷ ps) = tree (tree_of p) (trees_of ps)
