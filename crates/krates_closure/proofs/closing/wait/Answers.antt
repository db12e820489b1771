use Rattle.std.proofs.Common.{◌≡◌, ◌∷◌, ◌++◌, [], ap, sym, ◌∙◌, slice_set}
use Rattle.std.proofs.lemmas.List.{get_or-map, map-set}
use Rattle.krates_closure.specs.Closing.{watchers_of, waiting_for}
use Rattle.krates_closure.proofs.closing.wait.Goals as goal

pub returns-clause-watchers : goal.returns-clause-watchers
returns-clause-watchers c =
    let lists = c.args.closing.now.watchers.items in
    let list = c.index_mut-2.result.now in
    let same : list.items ≡ waiting_for (watchers_of lists) c.args.premise =
    ap (λ v. v.items) (rw c.index-2.ensures at c.index_mut-2.ensures.value) ∙ sym (get_or-map (λ v. v.items) lists c.args.premise list [] c.requires.premise) in
    rw c.index-2.ensures
    (map-set (λ v. v.items) lists c.args.premise c.push.new.self
    ∙ ap (slice_set (watchers_of lists) c.args.premise) (c.in_ok-push.ensures.items ∙ ap (λ ids. ids ++ c.args.number ∷ []) same))
