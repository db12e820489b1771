use Rattle.std.specs.List.{AllZip}
use Rattle.krates_questions.specs.Context.{document_of}
use Rattle.krates_drawing.specs.Gathered.{IsFeatureWith}
use Rattle.krates_drawing.proofs.gather.feature_rows.Given as goal

abbrev pub invariant-loop-feature : goal.invariant-loop-feature
invariant-loop-feature l =
    goal.iterator-loop-feature.can_next l.feature-iterator
    × goal.iterator-loop-feature.is_finite l.feature-iterator
    × AllZip (IsFeatureWith (document_of l.context) l.context.setting.now.all_named l.records) l.yielded l.rows.items
