use Rattle.krates_units.proofs.SameMachines.{same_told}
use Rattle.krates_units.proofs.machine.Machine.is_same.Goals as goal

pub returns : goal.returns
returns c = same_told c.args.self.now c.args.other.now c.eq-triple.result c.eq-words.result c.eq-pairs.result c.all_three.result c.eq-triple.ensures c.eq-words.ensures c.eq-pairs.ensures c.all_three.ensures
