use Rattle.krates_rules.proofs.Seen.{SeenBelow}
use Rattle.krates_build_tables.specs.declared.tables.Link.{Link}
use Rattle.krates_built.specs.OrderAt.{Differs}
use Rattle.krates_built.proofs.visit_order.has_differing.Given as goal

-- none so far differs
abbrev pub invariant-loop-link : goal.invariant-loop-link
invariant-loop-link l = SeenBelow (λ (x : Link). Differs l.derived l.krate x → ⊥) l.links l.link-index
