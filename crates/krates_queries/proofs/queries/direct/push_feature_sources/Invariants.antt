use Rattle.std.proofs.Common.{◌≡◌, ◌++◌, drop}
use Rattle.krates_queries.specs.Direct.{sources_over}
use Rattle.krates_queries.proofs.queries.direct.push_feature_sources.Given as goal

abbrev pub invariant-loop-source : goal.invariant-loop-source
invariant-loop-source g l =
    l.sources.items ++ sources_over l.graph.nodes l.graph.edges l.to (drop l.source-index l.among) ≡ l.fn.sources.items ++ sources_over l.graph.nodes l.graph.edges l.to l.among
