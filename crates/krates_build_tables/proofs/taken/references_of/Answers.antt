use Rattle.std.proofs.Common.{◌≡◌, arith, map, string_bytes, sym, ◌∙◌, subst}
use Rattle.std.proofs.lemmas.List.{map-append}
use Rattle.krates_cm.specs.Document.{Text}
use Rattle.krates_text.specs.FeatureReference.{IsReference, reference_of}
use Rattle.krates_build_tables.specs.References.{reference_view}
use Rattle.krates_rules.proofs.Zips.{zip_next, zip_all}
use Rattle.krates_build_tables.proofs.taken.references_of.Goals as goal

pub loop-text-preserved : goal.loop-text-preserved
loop-text-preserved c =
    let l = c.loop-text in
    let text = c.text-item.result in
    let reference = c.from-in-loop-text.result in
    let same : c.from.result.text.now ≡ string_bytes text = c.from.ensures ∙ c.as_str.ensures.value in
    let feature = subst (λ (t : Text). IsReference t (reference_of c.feat.result)) same c.feat.ensures in
    let read : IsReference (string_bytes text) (reference_view reference) = subst (IsReference (string_bytes text)) (sym c.from-in-loop-text.ensures) feature in
    rw (c.in_ok-push.ensures.items, map-append)
    (zip_next IsReference string_bytes c.args.texts.now l.text-index text (map reference_view l.references.items) (reference_view reference) (omega arith) c.text-item.is read l.invariant)

pub returns : goal.returns
returns c = zip_all IsReference string_bytes c.args.texts.now c.loop-text.text-index (map reference_view c.loop-text.references.items) (omega arith) c.loop-text.invariant
