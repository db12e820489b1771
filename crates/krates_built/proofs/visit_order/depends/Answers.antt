use Rattle.std.proofs.Common.{List, sym, ◌∙◌, subst}
use Rattle.krates_build_tables.specs.declared.tables.Link.{Link}
use Rattle.krates_built.specs.OrderAt.{HasDiffering}
use Rattle.krates_built.proofs.visit_order.depends.Goals as goal
use Rattle.krates_built.proofs.visit_order.depends.Goals.{then-is_on_both_sides, else-is_on_both_sides}

pub returns-then-has_differing : goal.returns-then-has_differing
returns-then-has_differing c = elim c.if-is_on_both_sides.branch [
  | then-is_on_both_sides w ↦ (
    λ t. record {
      both = c.is_on_both_sides.ensures.0 w.if-is_on_both_sides.true;
      differing = subst (λ (links : List Link). HasDiffering c.args.listed.now.derived c.args.krate links) w.deref.ensures.value (w.has_differing.ensures.0 (sym w.value-is ∙ c.if-has_differing.true));
      same = c.has_same_features.ensures.0 t;
    },
    λ h. c.has_same_features.ensures.1 h.same,
  )
  | else-is_on_both_sides w ↦ absurd (let is = w.value-is in let other = c.if-has_differing.true in cc)
]
