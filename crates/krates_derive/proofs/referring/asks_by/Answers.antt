use Rattle.std.proofs.Common.{refl, subst}
use Rattle.krates_questions.specs.Context.{document_of}
use Rattle.krates_rules.specs.Resolved.{id_of}
use Rattle.krates_text.specs.FeatureReference.{IsReference, krate, reference_of, strong}
use Rattle.krates_derive.proofs.ReferenceForms.{asks_nothing, asks_told, never_demands}
use Rattle.krates_derive.proofs.referring.asks_by.Goals as goal

pub returns-in-Krate : goal.returns-in-Krate
returns-in-Krate c =
    let a = krate c.in-Krate.dep.now in
    let here = subst (λ t. IsReference t a) c.from.ensures c.in-Krate.ensures in
    asks_told (c.one_reference.ensures c.args.text.now) (document_of c.args.context.now) c.args.context.now.setting.now (id_of c.args.krate.now) (id_of c.args.child.now) a c.in-Krate.dep.now c.means.result here refl (λ other e. e) c.means.ensures

pub returns-in-Strong : goal.returns-in-Strong
returns-in-Strong c =
    let a = strong c.in-Strong.dep.now c.in-Strong.feature.now in
    let here = subst (λ t. IsReference t a) c.from.ensures c.in-Strong.ensures in
    asks_told (c.one_reference.ensures c.args.text.now) (document_of c.args.context.now) c.args.context.now.setting.now (id_of c.args.krate.now) (id_of c.args.child.now) a c.in-Strong.dep.now c.means-in-Strong.result here refl (λ other e. e) c.means-in-Strong.ensures

pub returns-in_default : goal.returns-in_default
returns-in_default c =
    let x = c.feat.result in
    let here = subst (λ t. IsReference t (reference_of x)) c.from.ensures c.feat.ensures in
    (λ t. absurd cc, λ y. absurd (asks_nothing (c.one_reference.ensures c.args.text.now) (document_of c.args.context.now) c.args.context.now.setting.now (id_of c.args.krate.now) (id_of c.args.child.now) (reference_of x) here (never_demands x c.in_default.not-Krate c.in_default.not-Strong) y))
