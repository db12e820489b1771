use Rattle.krates_rules.specs.Resolved.{id_of}
use Rattle.krates_build_tables.proofs.NumberedCrates.{package_numbered}
use Rattle.krates_build_tables.proofs.links.child_number.Goals as goal

pub unreachable-requires : goal.unreachable-requires
unreachable-requires c = package_numbered c.one_reading.ensures.once c.args.document.now c.agrees.ensures (id_of c.args.child.now) c.requires.0 c.requires.1 c.in-None.ensures
