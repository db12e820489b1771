use Rattle.krates_cm.specs.Document.{dependency_view}
use Rattle.krates_questions.specs.Lookup.{resolved_view}
use Rattle.krates_build_tables.proofs.ChildFeatures.{EachBelow}
use Rattle.krates_build_tables.proofs.leading.each_of_node_has.Given as goal

-- what the dependencies so far lead to has the feature
abbrev pub invariant-loop-index : goal.invariant-loop-index
invariant-loop-index l = EachBelow (resolved_view l.document) l.parts (dependency_view l.declared) l.feature l.index
