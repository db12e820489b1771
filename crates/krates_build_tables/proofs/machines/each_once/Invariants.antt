use Rattle.std.proofs.Common.{◌↔◌, Contains, map, take}
use Rattle.krates_units.specs.Machines.{MachineModel, machine_view}
use Rattle.krates_build_tables.specs.Judgements.{lent_machines}
use Rattle.krates_build_tables.specs.TablesOf.{ComeInOrder, HasEachOnce}
use Rattle.krates_build_tables.proofs.machines.each_once.Given as goal

-- those so far, each once, where it first stands
abbrev pub invariant-loop-machine : goal.invariant-loop-machine
invariant-loop-machine l = record {
  same : (m : MachineModel) → Contains (map machine_view (take l.machine-index l.machines)) m ↔ Contains (lent_machines l.all.items) m;
  once : HasEachOnce (lent_machines l.all.items);
  in_order : ComeInOrder (map machine_view l.machines) (lent_machines l.all.items);
}
