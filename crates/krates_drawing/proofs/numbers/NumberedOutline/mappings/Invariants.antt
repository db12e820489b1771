use Rattle.std.proofs.Common.{◌≡◌, length, map, drop}
use Rattle.krates_drawing.proofs.Mapped.{IsMappedAfter}
use Rattle.krates_drawing.proofs.numbers.NumberedOutline.mappings.Given as goal

abbrev pub invariant-loop-link : goal.invariant-loop-link
invariant-loop-link l = record {
  after : IsMappedAfter l.self.outline.now (drop l.link-index l.link-items) (map (λ m. m.items) l.mappings.items);
  count : length l.mappings.items ≡ length l.self.outline.now.krates.items;
}
