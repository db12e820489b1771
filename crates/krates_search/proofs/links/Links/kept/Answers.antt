use Rattle.krates_search.proofs.LinkLemmas.{link_read, tells_mark}
use Rattle.krates_search.proofs.links.Links.kept.Goals as goal

pub returns : goal.returns
returns c =
    let link = c.index-2.result.now in
    tells_mark c.args.self.now c.args.place.index c.args.index link (link_read c.args.self.now c.args.place.index c.args.index c.index.result.now link c.requires c.index.ensures c.index-2.ensures)
