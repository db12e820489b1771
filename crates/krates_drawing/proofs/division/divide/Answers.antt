use Rattle.std.proofs.Common.{subst, List, IsPermutation}
use Rattle.krates_drawing.specs.Division.{outline_ids, paired}
use Rattle.krates_drawing.specs.declared.division.Krate.{Krate}
use Rattle.krates_drawing.proofs.DivisionLemmas.{if_divides}
use Rattle.krates_drawing.proofs.division.divide.Goals as goal

pub returns : goal.returns
returns c =
    let perm : IsPermutation (paired c.args.packages.items c.args.ids.items) c.sort_unstable.new.self.items = subst (λ (ks : List Krate). IsPermutation ks c.sort_unstable.new.self.items) c.in_ok-krates.ensures c.sort_unstable.ensures.permutation in
    if_divides (record { total = c.comparison.ensures.total; tells = c.comparison.ensures.order }) c.one_reading.ensures.once
    c.args.packages.items c.args.ids.items (outline_ids c.args.selected.now) c.sort_unstable.new.self.items c.division_of.result
    c.requires.read c.requires.distinct perm c.sort_unstable.ensures.sorted c.division_of.ensures.kept c.division_of.ensures.others
