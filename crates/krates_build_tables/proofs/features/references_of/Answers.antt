use Rattle.std.proofs.Common.{arith, map}
use Rattle.std.proofs.lemmas.List.{map-append}
use Rattle.krates_cm.specs.Document.{text_view}
use Rattle.krates_rules.proofs.Zips.{zip_next, zip_all}
use Rattle.krates_text.specs.FeatureReference.{IsReference}
use Rattle.krates_build_tables.specs.References.{reference_view}
use Rattle.krates_build_tables.proofs.features.references_of.Goals as goal

pub loop-value-preserved : goal.loop-value-preserved
loop-value-preserved c =
    let l = c.loop-value in
    rw (c.in_ok-push.ensures, map-append) (zip_next IsReference text_view c.args.values.now l.value-index c.value-item.result (map reference_view l.references.items) (reference_view c.reference_of.result) (omega arith) c.value-item.is (rw c.as_str.ensures.value at c.reference_of.ensures) l.invariant)

pub returns : goal.returns
returns c = zip_all IsReference text_view c.args.values.now c.loop-value.value-index (map reference_view c.loop-value.references.items) (omega arith) c.loop-value.invariant
