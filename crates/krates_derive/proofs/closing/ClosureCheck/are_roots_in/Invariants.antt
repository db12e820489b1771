use Rattle.krates_derive.specs.Giving.{RootIn, document_in, facts_in, setting_in}
use Rattle.krates_rules.proofs.Seen.{SeenBelow}
use Rattle.krates_rules.specs.Resolved.{id_of}
use Rattle.krates_derive.proofs.closing.ClosureCheck.are_roots_in.Given as goal

-- it holds of the roots so far
abbrev pub invariant-loop-root : goal.invariant-loop-root
invariant-loop-root l = SeenBelow (λ x. RootIn (document_in l.self) (setting_in l.self) (facts_in l.self) (id_of x.now)) l.roots l.root-index
