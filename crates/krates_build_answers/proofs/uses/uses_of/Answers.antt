use Rattle.std.proofs.Common.{refl}
use Rattle.krates_build_answers.specs.Uses.{IsUse}
use Rattle.krates_build_answers.specs.declared.uses.UsedCrate.{UsedCrate}
use Rattle.krates_build_answers.proofs.UseSteps.{each_more, numbers_more}
use Rattle.krates_build_answers.proofs.uses.uses_of.Goals as goal

pub loop-krate-preserved : goal.loop-krate-preserved
loop-krate-preserved c =
    let l = c.loop-krate in
    record {
      krates = numbers_more l.uses.items c.push.new.self.items _ c.args.krates.now l.krate-index _ c.in_ok-push.ensures.items c.loop-krate-test.true refl l.invariant.krates;
      uses = each_more (λ (u : UsedCrate). IsUse c.args.as_asked.now u.krate u.usage) l.uses.items c.push.new.self.items _ c.in_ok-push.ensures.items l.invariant.uses c.use_of-usage.ensures;
    }
