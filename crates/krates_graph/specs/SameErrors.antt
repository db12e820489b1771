-- When values that are returned with a cause are equal.
use Rattle.std.specs.Prelude.{◌≡◌, Bool, true}
use Rattle.krates_graph.specs.declared.graph.graph_error.GraphError.{GraphError}
use Rattle.krates_graph.specs.declared.graph.graph_error.GraphError.TheVariants.{Full, Memory}

-- the causes are the same, and the values that are returned are equal
abbrev pub IsSameError : {T : Type 0} → (T → T → Bool) → GraphError T → GraphError T → Type 0
IsSameError equal (Full a) (Full b) = equal a b ≡ true
IsSameError equal (Memory a) (Memory b) = equal a b ≡ true
IsSameError _ (Full _) (Memory _) = ⊥
IsSameError _ (Memory _) (Full _) = ⊥
