use Rattle.krates_derive.specs.Giving.{MeantIn, document_in, facts_in}
use Rattle.krates_rules.proofs.Seen.{SeenBelow}
use Rattle.krates_questions.specs.ReferentPlace.{referent_id}
use Rattle.krates_questions.specs.declared.referent.Referent.{Referent}
use Rattle.krates_rules.specs.Resolved.{id_of}
use Rattle.krates_derive.proofs.closing.ClosureCheck.is_dep_in.Given as goal

-- it holds of each referent so far
abbrev pub invariant-loop-referent : goal.invariant-loop-referent
invariant-loop-referent l = SeenBelow (λ (x : Referent). MeantIn (document_in l.self) (facts_in l.self) (id_of l.krate) (referent_id x) l.name) l.referent-items l.referent-index
