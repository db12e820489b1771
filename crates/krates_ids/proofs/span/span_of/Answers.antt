use Rattle.std.proofs.Common.{refl}
use Rattle.krates_ids.proofs.SpansLemmas.{Marks-stands}
use Rattle.krates_ids.proofs.span.span_of.Goals as goal

pub returns : goal.returns
returns c = Marks-stands _ _ _ _ c.utf8.piece c.requires refl
