use Rattle.std.proofs.Common.{map, take, string_bytes}
use Rattle.std.specs.List.{AllZip}
use Rattle.krates_text.specs.FeatureReference.{IsReference}
use Rattle.krates_build_tables.specs.References.{reference_view}
use Rattle.krates_build_tables.proofs.taken.references_of.Given as goal

-- the references of the texts so far
abbrev pub invariant-loop-text : goal.invariant-loop-text
invariant-loop-text l = AllZip IsReference (map string_bytes (take l.text-index l.texts)) (map reference_view l.references.items)
