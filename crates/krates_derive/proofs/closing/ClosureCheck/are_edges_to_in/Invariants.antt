use Rattle.std.proofs.Common.{true}
use Rattle.krates_derive.specs.Giving.{EdgesIn, document_in, facts_in, setting_in}
use Rattle.krates_rules.proofs.Seen.{SeenBelow}
use Rattle.krates_questions.specs.ReferentPlace.{referent_id}
use Rattle.krates_questions.specs.declared.referent.Referent.{Referent}
use Rattle.krates_rules.specs.Resolved.{id_of}
use Rattle.krates_derive.proofs.closing.ClosureCheck.are_edges_to_in.Given as goal

-- it holds of each referent so far
abbrev pub invariant-loop-referent : goal.invariant-loop-referent
invariant-loop-referent l = SeenBelow (λ (x : Referent). EdgesIn (document_in l.self) (setting_in l.self) (facts_in l.self) (id_of l.krate) (referent_id x) true) l.referent-items l.referent-index
