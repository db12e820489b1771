use Rattle.std.proofs.Common.{◌≡◌, map, take}
use Rattle.krates_questions.specs.ReferentPlace.{referent_id}
use Rattle.krates_rules.specs.Resolved.{id_of}
use Rattle.krates_drawing.proofs.gather.meant_by.Given as goal

-- the ids so far have been copied
abbrev pub invariant-loop-referent : goal.invariant-loop-referent
invariant-loop-referent l = map id_of l.ids.items ≡ map referent_id (take l.referent-index l.referent-items)
