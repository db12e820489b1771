use Rattle.krates_cm.specs.Document.{DepKindInfoModel}
use Rattle.krates_rules.specs.Questions.{edge_between}
use Rattle.krates_derive.specs.Giving.{EdgeIn, document_in, facts_in, setting_in}
use Rattle.std.proofs.Common.{false}
use Rattle.krates_rules.proofs.Seen.{SeenBelow}
use Rattle.krates_rules.specs.Resolved.{id_of}
use Rattle.krates_derive.proofs.closing.ClosureCheck.is_crate_in.Given as goal

-- it holds of the children so far
abbrev pub invariant-loop-child : goal.invariant-loop-child
invariant-loop-child l = SeenBelow (λ x. (k : DepKindInfoModel) → EdgeIn (document_in l.self) (setting_in l.self) (facts_in l.self) (edge_between (id_of l.krate) (id_of x) k) false) l.child-items l.child-index
