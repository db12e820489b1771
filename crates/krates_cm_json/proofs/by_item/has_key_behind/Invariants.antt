use Rattle.std.proofs.Common.{◌≡◌, ◌++◌, List, length}
use Rattle.krates_cm_json.specs.ByItem.{AreShallow, Lacks, Member, member_tokens}
use Rattle.krates_cm_json.proofs.by_item.has_key_behind.Given as goal

-- the members read so far, which have neither key
abbrev pub invariant-loop-key : goal.invariant-loop-key
invariant-loop-key l =
    (ms : List Member) × (l.members.items ≡ l.initial.members.items ++ ms) × AreShallow 124 ms × Lacks l.wanted ms × Lacks l.given ms
    × (l.initial.reader ≡ member_tokens ms ++ l.reader)

abbrev pub decreases-loop-key : goal.decreases-loop-key
decreases-loop-key l = length l.reader
