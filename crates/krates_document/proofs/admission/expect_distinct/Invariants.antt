use Rattle.std.proofs.Common.{◌≡◌, take}
use Rattle.krates_ids.specs.Identity.{Identity}
use Rattle.krates_rules.specs.DistinctIds.{AreDistinct}
use Rattle.krates_rules.proofs.DistinctIds.{has_id, has_seen}
use Rattle.krates_document.proofs.admission.expect_distinct.Given as goal

-- the set has the ids so far, and no id occurs twice among them
abbrev pub invariant-loop-kid : goal.invariant-loop-kid
invariant-loop-kid l = record {
  same : (x : Identity) → has_seen l.seen.keys x ≡ has_id (take l.kid-index l.kids) x;
  distinct : AreDistinct (take l.kid-index l.kids);
}
