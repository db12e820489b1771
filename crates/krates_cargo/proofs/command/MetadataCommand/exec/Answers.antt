use Rattle.krates_cargo.proofs.Unrun.{unread_of}
use Rattle.krates_cargo.proofs.command.MetadataCommand.exec.Goals as goal

pub returns-clause-refused : goal.returns-clause-refused
returns-clause-refused g c = unread_of _ _ _ c.interpret.result c.interpret.ensures.refused
