use Rattle.std.proofs.Common.{◌≡◌, ◌↔◌, ◌++◌, ◌∷◌, [], Bor, Contains, IsTrue, map, take, rules, ap, ◌∙◌, subst, arith}
use Rattle.std.proofs.lemmas.List.{map-append, take-map, take_all}
use Rattle.std.specs.Global.{Vec}
use Rattle.krates_units.specs.Machines.{MachineModel, machine_view}
use Rattle.krates_units.specs.declared.machine.Machine.{Machine}
use Rattle.krates_build_tables.specs.Judgements.{lent_machines}
use Rattle.krates_build_tables.proofs.JudgementLemmas.{once_none, once_more, order_none, order_more, same_more, same_kept}
use Rattle.krates_build_tables.proofs.Listing.{taken_next}
use Rattle.krates_build_tables.proofs.machines.each_once.Goals.{then-not-is_among+in_ok-push, else-not-is_among}
use Rattle.krates_build_tables.proofs.machines.each_once.Goals as goal

pub loop-machine-init : goal.loop-machine-init
loop-machine-init c = rw c.new-all.ensures.items record { same = λ m. (λ h. h, λ h. h); once = once_none; in_order = order_none (map machine_view c.args.machines.now) }

pub loop-machine-preserved : goal.loop-machine-preserved
loop-machine-preserved c =
    let l = c.loop-machine in
    let m = machine_view c.machine-item.result in
    let done = map machine_view (take l.machine-index c.args.machines.now) in
    let all = map machine_view c.args.machines.now in
    let so_far : take l.machine-index all ≡ done = take-map machine_view l.machine-index c.args.machines.now in
    let more = taken_next machine_view c.args.machines.now l.machine-index c.machine-item.result (omega arith) c.machine-item.is in
    let told : IsTrue c.is_among.result ↔ Contains (lent_machines l.all.items) m = rw c.deref.ensures.value at c.is_among.ensures in
    rw more (elim c.if-not-is_among.branch [
      | then-not-is_among+in_ok-push w ↦
          let new : Contains (lent_machines l.all.items) m → ⊥ = λ h. (let t = told.1 h in let n = w.if-not-is_among.true in absurd cc) in
          let grown : lent_machines c.if-not-is_among.all.items ≡ lent_machines l.all.items ++ m ∷ [] = ap (λ (v : Vec (Bor Machine)). lent_machines v.items) w.all-is ∙ ap lent_machines w.in_ok-push.ensures.items ∙ map-append (λ (b : Bor Machine). machine_view b.now) l.all.items _ in
          rw grown record {
            same = same_more done (lent_machines l.all.items) m l.invariant.same;
            once = once_more (lent_machines l.all.items) m new l.invariant.once;
            in_order = order_more all (lent_machines l.all.items) l.machine-index m (λ x h. rw so_far ((l.invariant.same x).1 h)) (λ h. new ((l.invariant.same m).0 (rw so_far at h))) l.invariant.in_order;
          }
      | else-not-is_among w ↦
          let kept : c.if-not-is_among.all ≡ l.all = search rules in
          rw kept record { same = same_kept done (lent_machines l.all.items) m (told.0 w.if-not-is_among.false) l.invariant.same; once = l.invariant.once; in_order = l.invariant.in_order }
    ])

pub returns-clause-same : goal.returns-clause-same
returns-clause-same c =
    subst (λ ms. (m : MachineModel) → Contains (map machine_view ms) m ↔ Contains (lent_machines c.loop-machine.all.items) m) (take_all c.loop-machine.machine-index c.args.machines.now (omega arith)) c.loop-machine.invariant.same

pub returns-clause-once : goal.returns-clause-once
returns-clause-once c = c.loop-machine.invariant.once

pub returns-clause-in_order : goal.returns-clause-in_order
returns-clause-in_order c = c.loop-machine.invariant.in_order
