use Rattle.std.proofs.Common.{arith}
use Rattle.krates_questions.specs.Lookup.{resolved_view}
use Rattle.krates_rules.specs.Resolved.{id_of}
use Rattle.krates_questions.proofs.Needs.{children_told}
use Rattle.krates_questions.proofs.questions.Document.children.Goals as goal

pub returns-in-Some : goal.returns-in-Some
returns-in-Some c = (λ child. children_told c.one_reading.ensures.once (resolved_view c.args.self.now) (id_of c.args.krate.now) child c.in-Some.parts c.agrees.ensures.distinct c.in-Some.ensures)

pub returns-in-None : goal.returns-in-None
returns-in-None c = (λ child. (λ h. absurd (c.in-None.ensures h.node h.has_node), λ h. absurd (omega (arith, h.1))))
