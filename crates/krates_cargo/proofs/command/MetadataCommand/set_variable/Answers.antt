use Rattle.std.proofs.Common.{refl}
use Rattle.krates_cargo.proofs.Variables.{seen_insert}
use Rattle.krates_cargo.proofs.command.MetadataCommand.set_variable.Goals as goal

pub returns-clause-set : goal.returns-clause-set
returns-clause-set c = rw (c.in_ok-insert.ensures.entries, ← c.self.view_is, seen_insert, c.in_ok-name.ensures.ok, c.in_ok-value.ensures.ok) refl
