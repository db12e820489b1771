use Rattle.std.proofs.Common.{◌↔◌, ◌∷◌, [], Bor, Option, IfOk, IsTrue, option_map, sym, subst}
use Rattle.std.proofs.lemmas.Result.{IfOk-weaker}
use Rattle.krates_cm.specs.Document.{Text}
use Rattle.krates_units.specs.Machines.{PassesOn, machine_view}
use Rattle.krates_build_tables.proofs.JudgementLemmas.{holds_here}
use Rattle.krates_build_tables.proofs.machines.passes_here.Goals as goal

pub returns-in-Some : goal.returns-in-Some
returns-in-Some c =
    let m = machine_view c.args.machine.now in
    subst (λ (o : Option (Bor Text)). IfOk c.holds.result (λ b. IsTrue b ↔ PassesOn (m ∷ []) (option_map (λ t. t.now) o))) (sym c.in-Some.is)
    (IfOk-weaker c.holds.result _ _ (λ b told. holds_here m c.in-Some.text.now b told) c.holds.ensures)
