use Rattle.krates_cm.specs.Document.{metadata_view}
use Rattle.krates_drawing.proofs.DocumentOutlines.{selected_in}
use Rattle.krates_questions.specs.Lookup.{resolved_view}
use Rattle.krates_build_tests.proofs.limits.outline.Goals as goal

pub outline_of-requires : goal.outline_of-requires
outline_of-requires c = record { selected = selected_in (metadata_view c.args.metadata.now) _ c.in_ok-selection.selection (resolved_view c.in_ok-document.document) c.in_ok-selection.ensures.selected c.in_ok-document.ensures }
