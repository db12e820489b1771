use Rattle.std.proofs.Common.{◌+◌, Bor, List, map, sym, ap, ◌∙◌, subst, arith}
use Rattle.std.proofs.lemmas.List.{take_all}
use Rattle.krates_ids.specs.Identity.{Identity}
use Rattle.krates_questions.specs.Lookup.{resolved_view}
use Rattle.krates_rules.specs.Resolved.{id_of}
use Rattle.krates_questions.specs.DocumentAnswers.{ArePicked, nothing}
use Rattle.krates_rules.specs.Roots.{IsRoot}
use Rattle.krates_questions.proofs.Asked.{HasThoseOf, ids_in, root_put, root_passed}
use Rattle.krates_questions.proofs.questions.Document.root_members.Goals as goal
use Rattle.krates_questions.proofs.questions.Document.root_members.Goals.{then-is_root_member+in_ok-push, else-is_root_member}

pub loop-member-init : goal.loop-member-init
loop-member-init c =
    let is_root = IsRoot (resolved_view c.args.self.now) c.args.setting.now in
    subst (λ (roots : List (Bor Identity)). HasThoseOf is_root c.args.members.now 0 roots) (sym c.new-roots.ensures.items) nothing

pub loop-member-preserved : goal.loop-member-preserved
loop-member-preserved c =
    let is_root = IsRoot (resolved_view c.args.self.now) c.args.setting.now in
    let members = c.args.members.now in
    let i = c.loop-member.member-index in
    elim c.if-is_root_member.branch [
      | then-is_root_member+in_ok-push w ↦ root_put is_root members i _ c.loop-member.roots.items c.if-is_root_member.roots.items c.loop-member-test.true c.member-item.is (ap (λ v. v.items) w.roots-is ∙ w.in_ok-push.ensures.items)
          (c.is_root_member.ensures.0 w.if-is_root_member.true) c.loop-member.invariant
      | else-is_root_member w ↦ subst (λ v. HasThoseOf is_root members (i + 1) v.items) (sym w.roots-is)
          (root_passed is_root members i c.member-item.result c.loop-member.roots.items c.loop-member-test.true c.member-item.is (λ is. absurd (cc (c.is_root_member.ensures.1 is, w.if-is_root_member.false))) c.loop-member.invariant)
    ]

pub returns : goal.returns
returns c =
    let is_root = IsRoot (resolved_view c.args.self.now) c.args.setting.now in
    subst (λ (ms : List Identity). ArePicked is_root (map id_of ms) (ids_in c.loop-member.roots.items)) (take_all c.loop-member.member-index c.args.members.now (omega arith)) c.loop-member.invariant
