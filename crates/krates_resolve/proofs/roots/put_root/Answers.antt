use Rattle.krates_rules.specs.Resolved.{id_of}
use Rattle.krates_resolve.proofs.Rooted.{root_package_lost, root_node_lost, left_out_rooted}
use Rattle.krates_resolve.proofs.roots.put_root.Goals as goal

pub availability_at-requires-clause-number : goal.availability_at-requires-clause-number
availability_at-requires-clause-number c = (id_of c.args.root.now, c.crate_number-number.ensures)

pub returns-in_ok-clone-in-NoPackage-clause-refused : goal.returns-in_ok-clone-in-NoPackage-clause-refused
returns-in_ok-clone-in-NoPackage-clause-refused c =
    rw c.in_ok-clone-in-NoPackage.ensures.cases (root_package_lost c.args.context.now (id_of c.args.root.now) c.requires.root.0 (c.in-NoPackage.ensures (id_of c.args.root.now) c.crate_number-number.ensures), (c.requires.root.1, tt))

pub returns-in_ok-clone-in-NoNode-clause-refused : goal.returns-in_ok-clone-in-NoNode-clause-refused
returns-in_ok-clone-in-NoNode-clause-refused c =
    rw c.in_ok-clone-in-NoNode.ensures.cases (root_node_lost c.args.context.now (id_of c.args.root.now) c.requires.root.0 (c.in-NoNode.ensures (id_of c.args.root.now) c.crate_number-number.ensures), (c.requires.root.1, tt))

pub returns-in-Excluded-clause-rooted : goal.returns-in-Excluded-clause-rooted
returns-in-Excluded-clause-rooted c = left_out_rooted c.args.context.now c.args.found.now (id_of c.args.root.now) (c.in-Excluded.ensures (id_of c.args.root.now) c.crate_number-number.ensures)

pub put_once-requires-clause-root : goal.put_once-requires-clause-root
put_once-requires-clause-root c = (c.requires.root.0, (c.in-Available.ensures (id_of c.args.root.now) c.crate_number-number.ensures).0)

pub put_once-requires-clause-node : goal.put_once-requires-clause-node
put_once-requires-clause-node c = record { at = (c.in-Available.ensures (id_of c.args.root.now) c.crate_number-number.ensures).1; read = c.requires.root.1 }
