use Rattle.std.proofs.Common.{map, take}
use Rattle.std.specs.List.{AllZip}
use Rattle.krates_cm.specs.Document.{text_view}
use Rattle.krates_text.specs.FeatureReference.{IsReference}
use Rattle.krates_build_tables.specs.References.{reference_view}
use Rattle.krates_build_tables.proofs.features.references_of.Given as goal

-- the values so far are read
abbrev pub invariant-loop-value : goal.invariant-loop-value
invariant-loop-value l = AllZip IsReference (map text_view (take l.value-index l.values)) (map reference_view l.references.items)
