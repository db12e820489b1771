use Rattle.std.proofs.Common.{◌↔◌, Bor, IfOk, IsTrue, Option, map, option_map, sym, subst}
use Rattle.krates_cm.specs.Document.{Text}
use Rattle.krates_units.specs.Machines.{PassesOn, machine_view}
use Rattle.krates_units.proofs.machine.passes_on.Goals as goal

pub returns-in-Some : goal.returns-in-Some
returns-in-Some c =
    let machines = map machine_view c.args.machines.now in
    subst (λ (o : Option (Bor Text)). IfOk c.holds_on.result (λ b. IsTrue b ↔ PassesOn machines (option_map (λ t. t.now) o))) (sym c.in-Some.is) c.holds_on.ensures
