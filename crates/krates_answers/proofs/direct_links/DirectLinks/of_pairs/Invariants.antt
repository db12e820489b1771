use Rattle.std.proofs.Common.{◌≡◌, length}
use Rattle.krates_answers.specs.DirectLinks.{IsPairedWith, items_of}
use Rattle.krates_answers.proofs.ListedNumbers.{AreEach}
use Rattle.krates_answers.proofs.direct_links.DirectLinks.of_pairs.Given as goal

-- the lists are those of the numbers so far
abbrev pub invariant-loop-number : goal.invariant-loop-number
invariant-loop-number l = record {
  counted : length (items_of l.lists.items) ≡ l.number;
  each : AreEach (IsPairedWith l.count l.pairs) (items_of l.lists.items);
}
