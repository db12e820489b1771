use Rattle.json.specs.Value.{value_view}
use Rattle.krates_cm_json.proofs.ReadableLemmas.{part_of, none_of}
use Rattle.krates_cm_json.proofs.borrowed.BorrowedJsonRef.get.Goals as goal

pub returns-in_err-tree : goal.returns-in_err-tree
returns-in_err-tree c = rw c.from_residual.ensures (none_of c.args.key.now (value_view c.args.self.now.tree.now) c.args.self.now.readable c.in_err-tree.ensures)

pub invariant_of-result : goal.invariant_of-result
invariant_of-result c = record { readable = (part_of c.args.key.now (value_view c.args.self.now.tree.now) (value_view c.in_ok-tree.tree.now) c.args.self.now.readable c.in_ok-tree.ensures).0 }

pub returns : goal.returns
returns c = (part_of c.args.key.now (value_view c.args.self.now.tree.now) (value_view c.in_ok-tree.tree.now) c.args.self.now.readable c.in_ok-tree.ensures).1
