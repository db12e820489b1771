use Rattle.krates_cm.specs.Document.{text_view}
use Rattle.krates_derive.specs.Giving.{NamedIn, document_in, facts_in}
use Rattle.krates_rules.proofs.Seen.{SeenBelow}
use Rattle.krates_rules.specs.Resolved.{id_of}
use Rattle.krates_derive.proofs.closing.ClosureCheck.are_names_in.Given as goal

-- it holds of the names so far
abbrev pub invariant-loop-name : goal.invariant-loop-name
invariant-loop-name l = SeenBelow (λ x. NamedIn (document_in l.self) (facts_in l.self) (id_of l.krate) (text_view x)) l.names l.name-index
