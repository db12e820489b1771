use Rattle.krates_questions.specs.Lookup.{resolved_view}
use Rattle.krates_rules.specs.Resolved.{id_of}
use Rattle.krates_build_tables.proofs.CurrentCrates.{is_root}
use Rattle.krates_build_tables.proofs.selection.is_current.Goals as goal

pub returns-else-is_same : goal.returns-else-is_same
returns-else-is_same c = (
  λ t. absurd (cc),
  λ h. c.is_same.ensures.1 (is_root c.one_reading.ensures.once (resolved_view c.args.document.now) c.in-Some.root.now (id_of c.args.id.now) c.in-Some.ensures h),
)
