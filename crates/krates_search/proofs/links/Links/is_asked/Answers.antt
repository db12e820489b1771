use Rattle.std.proofs.Common.{ap, ◌∙◌}
use Rattle.krates_search.specs.declared.links.Link.{Link}
use Rattle.krates_search.proofs.LinkLemmas.{link_read, one_link}
use Rattle.krates_search.proofs.links.Links.is_asked.Goals as goal

pub returns : goal.returns
returns c =
    let link = c.index-2.result.now in
    let at = link_read c.args.self.now c.args.place.index c.args.index c.index.result.now link c.requires c.index.ensures c.index-2.ensures in (
      λ was. record { link = link; at = at; is_asked = was },
      λ m. ap (λ (l : Link). l.is_asked) (one_link c.args.self.now c.args.place.index c.args.index link m.link at m.at) ∙ m.is_asked,
    )
