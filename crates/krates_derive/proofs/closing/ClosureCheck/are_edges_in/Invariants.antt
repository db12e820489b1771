use Rattle.krates_cm.specs.Document.{dep_kind_info_view}
use Rattle.krates_derive.specs.Giving.{EdgeIn, document_in, facts_in, setting_in}
use Rattle.krates_rules.proofs.Seen.{SeenBelow}
use Rattle.krates_rules.specs.Questions.{edge_between}
use Rattle.krates_rules.specs.Resolved.{id_of}
use Rattle.krates_derive.proofs.closing.ClosureCheck.are_edges_in.Given as goal

-- all that the edges so far give is in the list
abbrev pub invariant-loop-info : goal.invariant-loop-info
invariant-loop-info l = SeenBelow (λ x. EdgeIn (document_in l.self) (setting_in l.self) (facts_in l.self) (edge_between (id_of l.krate) (id_of l.child) (dep_kind_info_view x)) l.asked) l.info-items l.info-index
