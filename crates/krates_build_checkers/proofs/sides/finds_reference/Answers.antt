use Rattle.std.proofs.Common.{Option, [], ◌∷◌, map, subst}
use Rattle.std.specs.Global.{Vec}
use Rattle.krates_build_tables.specs.References.{reference_view}
use Rattle.krates_build_tables.specs.declared.reference.FeatureReference.{FeatureReference}
use Rattle.krates_build_facts.specs.Rows.{of_some, rule}
use Rattle.krates_build_checkers.specs.Finding.{Finds}
use Rattle.krates_build_facts.specs.FactModels.{ActivatedFeature, ActivatedReference}
use Rattle.krates_build_checkers.proofs.sides.finds_reference.Goals as goal

pub returns-in-Some : goal.returns-in-Some
returns-in-Some c =
    let row = λ (v : FeatureReference). rule (ActivatedFeature c.args.krate c.args.side c.args.feature.now ∷ []) (ActivatedReference c.args.krate c.args.side (reference_view v)) in
    let rows = λ (references : Vec FeatureReference). map row references.items in
    subst (λ (found : Option (Vec FeatureReference)). Finds c.finds_listed.result c.args.sought.now (of_some found rows)) c.in-Some.ensures.value (rw c.deref.ensures.value at c.finds_listed.ensures)
