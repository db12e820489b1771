use Rattle.std.proofs.Common.{◌+◌, take, sym, subst}
use Rattle.std.specs.List.{AllZip}
use Rattle.krates_rules.proofs.Zips.{zip_read}
use Rattle.krates_selection.specs.KeptTables.{IsKeyOf, numbered_facts}
use Rattle.krates_selection.specs.declared.trace.NumberedStep.{NumberedStep}
use Rattle.krates_selection.proofs.kept_tables.KeptTables.keys_of.Goals as goal

pub loop-step-preserved : goal.loop-step-preserved
loop-step-preserved c =
    let steps = c.args.steps.now in
    let i = c.loop-step.step-index in
    subst (AllZip (IsKeyOf c.args.self.now) (numbered_facts (take (i + 1) steps))) (sym c.in_ok-push.ensures.items)
    (zip_read (IsKeyOf c.args.self.now) (λ (x : NumberedStep). x.fact) steps i _ c.loop-step.keys.items c.key_at.result c.loop-step-test.true c.key_at.ensures c.loop-step.invariant)
