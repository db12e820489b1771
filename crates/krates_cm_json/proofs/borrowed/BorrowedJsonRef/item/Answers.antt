use Rattle.json.specs.Value.{value_view}
use Rattle.krates_cm_json.proofs.ReadableLemmas.{part_at, none_at}
use Rattle.krates_cm_json.proofs.borrowed.BorrowedJsonRef.item.Goals as goal

pub returns-in_err-tree : goal.returns-in_err-tree
returns-in_err-tree c = rw c.from_residual.ensures (none_at c.args.index (value_view c.args.self.now.tree.now) c.args.self.now.readable c.in_err-tree.ensures)

pub invariant_of-result : goal.invariant_of-result
invariant_of-result c = record { readable = (part_at c.args.index (value_view c.args.self.now.tree.now) (value_view c.in_ok-tree.tree.now) c.args.self.now.readable c.in_ok-tree.ensures).0 }

pub returns : goal.returns
returns c = (part_at c.args.index (value_view c.args.self.now.tree.now) (value_view c.in_ok-tree.tree.now) c.args.self.now.readable c.in_ok-tree.ensures).1
