use Rattle.std.proofs.Common.{List, All, map, sym, subst}
use Rattle.std.proofs.lemmas.Result.{IfOk-weaker}
use Rattle.krates_ids.specs.Identity.{Identity}
use Rattle.krates_questions.specs.Lookup.{resolved_view}
use Rattle.krates_rules.specs.Resolved.{id_of, IsMember}
use Rattle.krates_questions.specs.DocumentAnswers.{ArePicked, alone}
use Rattle.krates_rules.specs.Roots.{IsRoot}
use Rattle.krates_questions.proofs.Asked.{ids_in, roots_told, members_in_order, one_root_told}
use Rattle.krates_questions.proofs.RootLemmas.{are_members}
use Rattle.krates_questions.proofs.questions.Document.roots.Goals as goal

pub root_members-requires-clause-members : goal.root_members-requires-clause-members
root_members-requires-clause-members c =
    rw (← c.self.view_is) (let r = resolved_view c.self.inside.lookup in
    subst (λ (ms : List Identity). All (λ m. IsMember r (id_of m)) ms) (sym c.deref.ensures.value) (are_members r c.self.inside.lookup.ids.now.members.items c.self.invariant.ids.members))

pub returns-in-Root-clause-each : goal.returns-in-Root-clause-each
returns-in-Root-clause-each c =
    let root = c.in-Root.ensures in
    IfOk-weaker c.alone.result _ _ (λ v one. one_root_told (resolved_view c.args.self.now) c.args.setting.now (id_of c.in-Root.root.now) (ids_in v.items) root.0 root.1 one) c.alone.ensures

pub returns-in-Root-clause-order : goal.returns-in-Root-clause-order
returns-in-Root-clause-order c = IfOk-weaker c.alone.result _ _ (λ v one. alone (id_of c.in-Root.root.now) c.in-Root.ensures.1 one) c.alone.ensures

pub returns-in-Members-clause-each : goal.returns-in-Members-clause-each
returns-in-Members-clause-each c =
    rw (← c.self.view_is) (let r = resolved_view c.self.inside.lookup in
    let s = c.args.setting.now in
    IfOk-weaker c.root_members.result _ _ (λ v h.
    let there = subst (λ (ms : List Identity). ArePicked (IsRoot r s) (map id_of ms) (ids_in v.items)) c.deref.ensures.value h in
    roots_told c.one_reading.ensures.once r s c.in-Members.all c.self.inside.lookup.ids.now.members.items (ids_in v.items) (rw (← c.self.view_is) at c.in-Members.ensures) c.self.invariant.ids.members there) (rw (← c.self.view_is) at c.root_members.ensures))

pub returns-in-Members-clause-order : goal.returns-in-Members-clause-order
returns-in-Members-clause-order c =
    rw (← c.self.view_is) (let r = resolved_view c.self.inside.lookup in
    let s = c.args.setting.now in
    IfOk-weaker c.root_members.result _ _ (λ v h.
    let there = subst (λ (ms : List Identity). ArePicked (IsRoot r s) (map id_of ms) (ids_in v.items)) c.deref.ensures.value h in
    members_in_order r s c.self.inside.lookup.ids.now.members.items (ids_in v.items) c.self.invariant.ids.members there) (rw (← c.self.view_is) at c.root_members.ensures))
