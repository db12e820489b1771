use Rattle.std.proofs.Common.{refl}
use Rattle.krates_search.proofs.LinkLemmas.{replaced, asked_now}
use Rattle.krates_search.proofs.links.Links.note_asked.Goals as goal

pub returns : goal.returns
returns c =
    let row = c.index_mut in
    let link = c.index_mut-2 in
    asked_now _ _ _ _ _ _ (replaced c.args.self.now c.args.place.index c.args.index row.result.now link.result.now _ c.requires row.ensures.value link.ensures.value) refl refl refl
