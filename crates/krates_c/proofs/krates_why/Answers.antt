use Rattle.krates_foreign.proofs.HandingLemmas.{hands}
use Rattle.krates_c.proofs.krates_why.Goals as goal

pub returns : goal.returns
returns c = hands c.why-told.result c.hand_over.result c.args.room.now c.hand_over.new.room c.why-told.ensures.explained c.why-told.ensures.refused c.hand_over.ensures.told
