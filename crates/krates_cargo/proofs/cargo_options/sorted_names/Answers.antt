use Rattle.std.proofs.Common.{ap, map, ◌++◌, ◌∙◌}
use Rattle.std.proofs.lemmas.List.Filters.{dedup_is}
use Rattle.krates_cm.specs.Document.{text_view}
use Rattle.krates_cargo.proofs.InOrder.{in_order_of}
use Rattle.krates_cargo.proofs.cargo_options.sorted_names.Goals as goal

pub returns : goal.returns
returns c =
    let copied = c.in_ok-push_all.ensures ∙ ap (λ (xs : _). map text_view xs ++ map text_view c.args.names.now) c.new-sorted.ensures.items in
    in_order_of _ _ _ _ copied c.sort.ensures.permutation c.in_ok-sort.ensures.sorted (dedup_is _ _ _ c.dedup.ensures.filtered)
