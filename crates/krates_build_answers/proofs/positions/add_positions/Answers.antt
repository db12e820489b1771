use Rattle.std.proofs.Common.{◌≡◌}
use Rattle.std.proofs.lemmas.Result.{on_ok_weaker}
use Rattle.krates_build_answers.specs.Positions.{StandsAt}
use Rattle.krates_build_answers.proofs.Added.{adds_nothing, adds_same}
use Rattle.krates_build_answers.proofs.positions.add_positions.Goals as goal

pub returns-in-Some : goal.returns-in-Some
returns-in-Some c = on_ok_weaker c.add.result (adds_same (λ p. c.in-Some.pair ≡ p) (StandsAt c.args.built.now c.args.link.now) _ _ c.in-Some.ensures) c.add.ensures

pub returns-in-None : goal.returns-in-None
returns-in-None c = adds_nothing (StandsAt c.args.built.now c.args.link.now) c.args.pairs.now.items c.in-None.ensures
