use Rattle.std.proofs.Common.{◌<◌, ◌+◌, [], arith, length, refl, take}
use Rattle.krates_answers.proofs.ComparedLemmas.{one_part_more}
use Rattle.krates_answers.proofs.OneMoreGrouped.{none_grouped}
use Rattle.krates_answers.proofs.TakenLemmas.{one_taken}
use Rattle.krates_answers.proofs.compared.by_name.Goals as goal

pub loop-part-init : goal.loop-part-init
loop-part-init g c = record { borrowed = []; groups = none_grouped c.new-named.result c.new-named.ensures.empty; seen = refl }

pub loop-part-preserved : goal.loop-part-preserved
loop-part-preserved g c =
    let l = c.loop-part in
    let parts = c.args.parts.now in
    let lt : l.part-index < length parts = omega (arith, c.loop-part-test.true) in
    one_part_more g.T.Part.named (take l.part-index parts) (take (l.part-index + 1) parts) _ l.named c.put_under.new.groups c.name.result.now l.invariant c.in_ok-put_under.ensures
    (one_taken parts l.part-index c.part-item.result lt c.part-item.is) c.name.ensures
