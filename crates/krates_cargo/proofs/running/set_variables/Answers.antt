use Rattle.std.proofs.Common.{◌∙◌, ap, refl, rules, ◌≡◌}
use Rattle.std.specs.Process.{command_var}
use Rattle.krates_cargo.proofs.VariablesSet.{said_after, said_all}
use Rattle.krates_cargo.proofs.running.set_variables.Goals as goal

pub loop-name-init : goal.loop-name-init
loop-name-init c =
    let all : c.into_iter-name-iterator.result ≡ c.args.variables.now.entries = search rules in
    (c.requires.0, (λ name. ap (λ es. said_after name (command_var c.args.command.now name) es) all ∙ ap (λ said. said_after name said c.args.variables.now.entries) (c.requires.1 name) ∙ said_all name c.args.variables.now.entries c.into_iter-name-iterator.ensures.into_iter_gives.5), (refl, refl), refl)
