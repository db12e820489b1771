use Rattle.std.proofs.Common.{◌≡◌, ◌⊎◌, ◌↔◌, ℕ, Contains, length, take}
use Rattle.krates_closure.specs.Marks.{HasMark}
use Rattle.krates_closure.proofs.needed.mark_all.Given as goal

-- those so far have marks
abbrev pub invariant-loop-fact : goal.invariant-loop-fact
invariant-loop-fact l = record {
  sized : length l.marks.items ≡ length l.initial.marks.items;
  marks : (fact : ℕ) → HasMark l.marks.items fact ↔ (HasMark l.initial.marks.items fact ⊎ Contains (take l.fact-index l.facts) fact);
}
