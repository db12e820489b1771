use Rattle.krates_foreign.proofs.HandingLemmas.{hands}
use Rattle.krates_c.proofs.krates_check.Goals as goal

pub returns : goal.returns
returns c = hands c.check-told.result c.hand_over.result c.args.room.now c.hand_over.new.room c.check-told.ensures.checked c.check-told.ensures.refused c.hand_over.ensures.told
