use Rattle.std.proofs.Common.{refl, arith}
use Rattle.krates_ids.specs.Identity.{Identity}
use Rattle.krates_rules.specs.Resolved.{id_of}
use Rattle.krates_search.proofs.Growing.{advances_refl, advances_trans, rooted_grows}
use Rattle.krates_rules.proofs.Seen.{seen_more, seen_all}
use Rattle.krates_questions.specs.Context.{HasRoot}
use Rattle.krates_search.specs.SearchState.{HasRooted}
use Rattle.krates_resolve.proofs.roots.put_members.Goals as goal

pub loop-member-init : goal.loop-member-init
loop-member-init c = (advances_refl c.args.context.now c.args.found.now c.requires.sound, λ k d lt. absurd (omega (arith, lt)), c.requires.each)

pub put_member-requires-clause-sound : goal.put_member-requires-clause-sound
put_member-requires-clause-sound c = c.loop-member.invariant.0.sound

pub put_member-requires-clause-each : goal.put_member-requires-clause-each
put_member-requires-clause-each c = c.loop-member.invariant.2

pub loop-member-preserved : goal.loop-member-preserved
loop-member-preserved c =
    let b = c.args.context.now in
    let x = c.loop-member.found in
    let y = c.put_member.new.found in
    let inv = c.loop-member.invariant in
    let step = c.in_ok-put_member.ensures in (
      advances_trans b c.args.found.now x y inv.0 step.advanced,
      seen_more (λ (member : Identity). HasRoot b (id_of member) → HasRooted b y (id_of member)) c.args.members.now c.loop-member.member-index c.member-item.result c.loop-member-test.true c.member-item.is
          (λ k d lt is. rooted_grows b x y _ step.advanced.grows.found (inv.1 k d lt is)) step.rooted,
      step.each,
    )

pub returns-clause-advanced : goal.returns-clause-advanced
returns-clause-advanced c = c.loop-member.invariant.0

pub returns-clause-rooted : goal.returns-clause-rooted
returns-clause-rooted c =
    seen_all (λ (member : Identity). HasRoot c.args.context.now (id_of member) → HasRooted c.args.context.now c.loop-member.found (id_of member)) c.args.members.now c.args.members.now c.loop-member.member-index refl (omega arith)
    c.loop-member.invariant.1
