use Rattle.krates_cm.specs.Document.{text_view}
use Rattle.krates_derive.specs.Giving.{document_in, facts_in, setting_in, ReferenceIn}
use Rattle.krates_rules.proofs.Seen.{SeenBelow}
use Rattle.krates_rules.specs.Resolved.{id_of}
use Rattle.krates_checkers.proofs.closed.are_references_in.Given as goal

-- it holds of the values so far
abbrev pub invariant-loop-value : goal.invariant-loop-value
invariant-loop-value l = SeenBelow (λ x. ReferenceIn (document_in l.check) (setting_in l.check) (facts_in l.check) (id_of l.krate) (text_view x)) l.values l.value-index
