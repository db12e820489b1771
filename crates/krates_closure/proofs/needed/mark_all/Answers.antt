use Rattle.std.proofs.Common.{◌↔◌, ◌⊎◌, ◌∙◌, ◌<◌, ℕ, Contains, get_or, length, subst, true, arith}
use Rattle.std.proofs.lemmas.List.{take_all}
use Rattle.std.proofs.Math.ListN.{length-set}
use Rattle.krates_closure.specs.Marks.{HasMark}
use Rattle.krates_closure.proofs.NeededLemmas.{marked_more}
use Rattle.krates_closure.proofs.needed.mark_all.Goals as goal

pub loop-fact-preserved : goal.loop-fact-preserved
loop-fact-preserved c =
    let l = c.loop-fact in
    let below : get_or c.args.facts.now l.fact-index c.fact-item.result < length c.args.marks.now.items = c.requires l.fact-index c.fact-item.result (omega arith) in
    record {
      sized = length-set l.marks.items c.index.result true ∙ l.invariant.sized;
      marks = marked_more c.args.marks.now.items l.marks.items c.args.facts.now l.fact-index c.index.result c.fact-item.result c.index.ensures (omega arith) c.fact-item.is
          (omega (arith, c.index_mut.auto)) l.invariant.marks;
    }

pub returns-clause-marks : goal.returns-clause-marks
returns-clause-marks c =
    subst (λ these. (fact : ℕ) → HasMark c.loop-fact.marks.items fact ↔ (HasMark c.args.marks.now.items fact ⊎ Contains these fact)) (take_all c.loop-fact.fact-index c.args.facts.now (omega arith)) c.loop-fact.invariant.marks
