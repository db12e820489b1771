use Rattle.std.proofs.Common.{refl}
use Rattle.krates_build_answers.specs.BuiltTwice.{IsScriptOn}
use Rattle.krates_build_answers.proofs.SomeElements.{none_more, none_there, some_here}
use Rattle.krates_build_answers.proofs.twice.has_script.Goals as goal

pub returns-then-is_script_on : goal.returns-then-is_script_on
returns-then-is_script_on c = (λ t. some_here (IsScriptOn c.args.krate c.args.side) c.args.scripts.now c.loop-script.script-index _ c.loop-script-test.true (c.is_script_on.ensures.0 c.if-is_script_on.true), λ a. refl)

pub returns : goal.returns
returns c = (λ t. absurd cc, λ a. absurd (none_there (IsScriptOn c.args.krate c.args.side) c.args.scripts.now c.loop-script.script-index c.loop-script-test.false c.loop-script.invariant a))

pub loop-script-preserved : goal.loop-script-preserved
loop-script-preserved c = none_more (IsScriptOn c.args.krate c.args.side) c.args.scripts.now c.loop-script.script-index _ c.is_script_on.result c.loop-script-test.true c.loop-script.invariant c.is_script_on.ensures c.if-is_script_on.false
