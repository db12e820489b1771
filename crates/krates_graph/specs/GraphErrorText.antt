-- The text that is printed for a refusal of a graph.
use Rattle.std.specs.Prelude.{ℕ, List, codes}
use Rattle.krates_graph.specs.declared.graph.graph_error.GraphError.{GraphError}
use Rattle.krates_graph.specs.declared.graph.graph_error.GraphError.TheVariants.{Full, Memory}

-- the value that is returned isn't printed
abbrev pub graph_error_text : {T : Type 0} → GraphError T → List ℕ
graph_error_text (Full value) = codes "too many nodes or edges"
graph_error_text (Memory value) = codes "out of memory"
