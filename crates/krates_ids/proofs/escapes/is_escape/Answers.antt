use Rattle.std.proofs.Common.{rules}
use Rattle.krates_ids.proofs.escapes.is_escape.Goals as goal

pub returns : goal.returns
returns c = search rules
