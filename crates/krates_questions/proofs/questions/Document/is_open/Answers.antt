use Rattle.std.proofs.Common.{subst}
use Rattle.krates_questions.specs.DocumentAnswers.{edge_asked}
use Rattle.krates_questions.specs.Lookup.{resolved_view}
use Rattle.krates_questions.specs.Availability.{TellsNeed}
use Rattle.krates_rules.specs.Questions.{questions}
use Rattle.krates_questions.proofs.questions.Document.is_open.Goals as goal

pub returns-in-Wanted : goal.returns-in-Wanted
unfolding questions
returns-in-Wanted c =
    let edge = edge_asked c.args.parent.now c.args.child.now c.args.info.now in
    let told = subst (TellsNeed (resolved_view c.args.self.now) c.args.setting.now edge) c.in-Wanted.is c.in_ok-need.ensures in (
      λ t. (_, record { wanted = told.wanted; stands = c.stands.ensures.0 t }),
      λ o. c.stands.ensures.1 o.1.stands,
    )

pub returns-in-Undeclared : goal.returns-in-Undeclared
unfolding questions
returns-in-Undeclared c =
    let edge = edge_asked c.args.parent.now c.args.child.now c.args.info.now in
    let loose = subst (TellsNeed (resolved_view c.args.self.now) c.args.setting.now edge) c.in-Undeclared.is c.in_ok-need.ensures in
    (λ t. absurd cc, λ o. absurd (loose.1 o.0 o.1.wanted))

pub returns-in-Nothing : goal.returns-in-Nothing
unfolding questions
returns-in-Nothing c =
    let edge = edge_asked c.args.parent.now c.args.child.now c.args.info.now in
    let none = subst (TellsNeed (resolved_view c.args.self.now) c.args.setting.now edge) c.in-Nothing.is c.in_ok-need.ensures in
    (λ t. absurd cc, λ o. absurd (none.0 o.0 o.1.wanted))
