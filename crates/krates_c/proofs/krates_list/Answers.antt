use Rattle.krates_foreign.proofs.HandingLemmas.{hands}
use Rattle.krates_c.proofs.krates_list.Goals as goal

pub returns : goal.returns
returns c = hands c.list-told.result c.hand_over.result c.args.room.now c.hand_over.new.room c.list-told.ensures.listed c.list-told.ensures.refused c.hand_over.ensures.told
