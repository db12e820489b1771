use Rattle.std.proofs.lemmas.List.Sorted.{Contains-permutation, IsPermutation-sym}
use Rattle.krates_closure.proofs.ClosureLemmas.{Derivable-more}
use Rattle.krates_closure.proofs.laws.reordering.Goals as goal

pub returns : goal.returns
returns c = λ clauses reordered same fact. (
  Derivable-more clauses reordered (λ clause. Contains-permutation clauses reordered clause same) fact,
  Derivable-more reordered clauses (λ clause. Contains-permutation reordered clauses clause (IsPermutation-sym clauses reordered same)) fact,
)
