use Rattle.std.proofs.Common.{sym, ◌∙◌}
use Rattle.krates_cm.specs.Document.{dep_kind_info_view}
use Rattle.krates_questions.specs.Lookup.{resolved_view}
use Rattle.krates_questions.specs.NodeEntry.{edge_for}
use Rattle.krates_questions.proofs.EntryEdges.{heeds, is_ignored}
use Rattle.krates_questions.proofs.Needs.{ignored_need, unlisted_need, undeclared_need, barred_need, wanted_need, wanted_here, declared_below}
use Rattle.krates_questions.proofs.questions.Document.entry_need.Goals as goal

pub returns-then-not-lists : goal.returns-then-not-lists
returns-then-not-lists c =
    unlisted_need (resolved_view c.args.self.now) c.args.setting.now c.args.entry.now (dep_kind_info_view c.args.info.now) c.agrees.ensures.distinct c.requires.entry
    (λ h. absurd (cc (c.lists.ensures.1 h, c.if-not-lists.true)))

pub returns-then-ignores : goal.returns-then-ignores
returns-then-ignores c =
    let r = resolved_view c.args.self.now in
    let s = c.args.setting.now in
    let x = c.args.entry.now in
    let e = edge_for x (dep_kind_info_view c.args.info.now) in
    ignored_need r s e (is_ignored r s e x.is_member c.requires.entry.tells (sym c.ignores.ensures ∙ c.if-ignores.true))

pub returns-in_default : goal.returns-in_default
returns-in_default c =
    let r = resolved_view c.args.self.now in
    let k = dep_kind_info_view c.args.info.now in
    let among = c.lists.ensures.0 c.if-not-lists.false in
    let h = heeds r c.args.setting.now c.args.entry.now k c.requires.entry among c.ignores.result c.ignores.ensures c.if-ignores.false in
    let none = c.in_default.ensures in
    undeclared_need r c.args.setting.now c.args.entry.now k c.agrees.ensures.distinct h (none among)

pub returns-then-not-passes : goal.returns-then-not-passes
returns-then-not-passes c =
    let k = dep_kind_info_view c.args.info.now in
    let told = c.in-Some.ensures in
    barred_need (resolved_view c.args.self.now) c.args.setting.now c.args.entry.now k c.in-Some.place told.dependency c.agrees.ensures.distinct c.requires.entry told.declared
    (λ p. absurd (cc (c.in_ok-passes.ensures.1 p, c.if-not-passes.true)))

pub declared_at-requires : goal.declared_at-requires
declared_at-requires c =
    let k = dep_kind_info_view c.args.info.now in
    let told = c.in-Some.ensures in
    declared_below c.args.entry.now k c.in-Some.place told.dependency told.declared

pub returns : goal.returns
returns c =
    let r = resolved_view c.args.self.now in
    let s = c.args.setting.now in
    let x = c.args.entry.now in
    let k = dep_kind_info_view c.args.info.now in
    let told = c.in-Some.ensures in
    let d = told.dependency in
    let h = heeds r s x k c.requires.entry (c.lists.ensures.0 c.if-not-lists.false) c.ignores.result c.ignores.ensures c.if-ignores.false in
    let w = wanted_need r s x k c.in-Some.place d c.agrees.ensures.distinct h told.declared (c.in_ok-passes.ensures.0 c.if-not-passes.false) in
    wanted_here r s x k c.in-Some.place d c.declared_at.result.now told.declared c.declared_at.ensures w
