use Rattle.std.proofs.Common.{ℕ, sym, ap, ◌∙◌}
use Rattle.krates_cm.specs.Document.{Text}
use Rattle.krates_document.specs.DeclaredPlaces.{entry_in, kind_in, target_key}
use Rattle.krates_document.specs.FoldedNames.{folded_order}
use Rattle.krates_document.specs.NamedPlaces.{StandsUnder}
use Rattle.krates_document.proofs.LeastFitting.{candidates_of_both, candidates_of_one_name}
use Rattle.krates_document.proofs.declared_dependency.candidates_of.Goals as goal

pub returns-then-is_eq : goal.returns-then-is_eq
returns-then-is_eq c =
    let x = c.args.sought.now in
    let order = c.folded_order.ensures ∙ ap (λ (t : Text). folded_order t c.name.result.now) c.as_str-name.ensures.value ∙ ap (folded_order (entry_in x).dep.name) c.name.ensures in
    candidates_of_one_name c.args.places.now x _ c.folded_order.result order (sym c.is_eq.ensures ∙ c.if-is_eq.true)
    (λ (k : ℕ) (h : StandsUnder c.args.places.now (entry_in x).dep.name (target_key (kind_in x).target) k). c.places_under-of_dep.ensures k (rw (c.as_str-name.ensures.value, c.target_text-target.ensures) h))

pub returns : goal.returns
returns c =
    let x = c.args.sought.now in
    candidates_of_both c.args.places.now x _
    (λ (k : ℕ) (h : StandsUnder c.args.places.now (entry_in x).dep.name (target_key (kind_in x).target) k). c.places_under-of_dep.ensures k (rw (c.as_str-name.ensures.value, c.target_text-target.ensures) h))
    (λ (k : ℕ) (h : StandsUnder c.args.places.now (entry_in x).id.name (target_key (kind_in x).target) k). c.places_under-of_package.ensures k (rw (c.name-2.ensures, c.target_text-target.ensures) h))
