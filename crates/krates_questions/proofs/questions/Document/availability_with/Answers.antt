use Rattle.krates_questions.specs.Lookup.{resolved_view}
use Rattle.krates_rules.proofs.Standings.{lacks_node, not_included, stands_at}
use Rattle.krates_rules.specs.Questions.{IsLeftOut}
use Rattle.krates_questions.proofs.questions.Document.availability_with.Goals as goal

pub returns-then-excluded : goal.returns-then-excluded
returns-then-excluded c s i p h has tells =
    let r = resolved_view c.args.self.now in
    let out : IsLeftOut r s i = record { pkg = p; has_package = has; excluded = tells.0 c.if-excluded.true } in
    record { left_out = out; excluded = not_included r s i c.agrees.ensures.distinct out }

pub returns-in-Some : goal.returns-in-Some
returns-in-Some c s i p h has tells =
    let at = c.in-Some.ensures i h in
    (stands_at (resolved_view c.args.self.now) s i p c.in-Some.place.index has (λ e. absurd (cc (tells.1 e, c.if-excluded.false))) at, at)

pub returns-in-None : goal.returns-in-None
returns-in-None c s i p h has tells = lacks_node (resolved_view c.args.self.now) s i p has (λ e. absurd (cc (tells.1 e, c.if-excluded.false))) (c.in-None.ensures i h)
