use Rattle.std.proofs.Common.{refl, ap, ◌∙◌}
use Rattle.std.specs.Global.{Vec}
use Rattle.krates_search.proofs.LinkLemmas.{marked_now, replaced}
use Rattle.krates_search.specs.declared.links.Waiting.{Waiting}
use Rattle.krates_search.proofs.links.Links.mark.Goals as goal

pub returns : goal.returns
returns c =
    let row = c.index_mut in
    let link = c.index_mut-link in
    let none = ap (λ (v : Vec Waiting). v.items) c.replace.ensures.after ∙ c.new.ensures.items in
    let taken = ap (λ (v : Vec Waiting). v.items) c.replace.ensures.value in
    marked_now _ _ _ _ _ _ _ _ (replaced c.args.self.now c.args.place.index c.args.index row.result.now link.result.now _ c.requires row.ensures.value link.ensures.value) refl refl none taken
