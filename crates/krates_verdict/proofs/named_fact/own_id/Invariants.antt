use Rattle.krates_cm.specs.declared.package.Package.{Package}
use Rattle.krates_rules.specs.Resolved.{ReadsAs, id_of}
use Rattle.krates_rules.proofs.Seen.{SeenBelow}
use Rattle.krates_verdict.proofs.OwnIds.{id_text}
use Rattle.krates_verdict.proofs.named_fact.own_id.Given as goal

-- no package so far has the id
abbrev pub invariant-loop-pkg : goal.invariant-loop-pkg
invariant-loop-pkg l = SeenBelow (λ (p : Package). ReadsAs (id_text p) (id_of l.krate) → ⊥) l.pkg-items l.pkg-index
