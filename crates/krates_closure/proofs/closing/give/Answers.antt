use Rattle.std.proofs.Common.{ap, ◌∙◌, slice_set}
use Rattle.std.proofs.lemmas.List.{map-set}
use Rattle.krates_closure.specs.Closing.{watchers_of}
use Rattle.krates_closure.proofs.closing.give.Goals as goal

pub returns-clause-watchers : goal.returns-clause-watchers
returns-clause-watchers c =
    rw c.index-2.ensures
    (map-set (λ v. v.items) c.args.closing.now.watchers.items c.args.fact c.append.new.other
    ∙ ap (slice_set (watchers_of c.args.closing.now.watchers.items) c.args.fact) c.in_ok-append.ensures.other_items)
