use Rattle.std.proofs.Common.{◌↔◌, rules, suc}
use Rattle.std.proofs.Math.Dec.{ltb}
use Rattle.std.proofs.lemmas.List.Sorted.{IsPartitionPoint-from_clause, IsPartitionedBy-ltb}
use Rattle.std.specs.Prelude.{IsTrue}
use Rattle.krates_drawing.specs.declared.node.Node.{Node}
use Rattle.krates_queries.specs.Kept.{StandsBefore}
use Rattle.krates_queries.proofs.StretchLemmas.{node_rank, ranked, start_at, told_by_rank}
use Rattle.krates_queries.proofs.numbers.start_of.Goals as goal

pub returns : goal.returns
returns g c =
    let nodes = c.args.nodes.now in
    let n = c.args.krate in
    let at = c.partition_point.result in
    let parted = IsPartitionPoint-from_clause (λ (node : Node g.row.N.Denot). ltb (node_rank node) (suc n)) nodes at c.partition_point.ensures.partitioned
    (IsPartitionedBy-ltb node_rank nodes (suc n) (ranked nodes c.requires))
    (λ a r f q. (let told : IsTrue r ↔ StandsBefore n a.0.now = search rules in (told_by_rank a.0.now n r told, search rules))) in
    start_at nodes n at c.partition_point.ensures.bound parted
