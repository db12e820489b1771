use Rattle.krates_foreign.proofs.HandingLemmas.{hands}
use Rattle.krates_c.proofs.krates_graph.Goals as goal

pub returns : goal.returns
returns c = hands c.graph-told.result c.hand_over.result c.args.room.now c.hand_over.new.room c.graph-told.ensures.drawn c.graph-told.ensures.refused c.hand_over.ensures.told
