use Rattle.std.proofs.Common.{◌≡◌, false, subst, true}
use Rattle.krates_questions.specs.Context.{document_of}
use Rattle.krates_rules.specs.Resolved.{id_of}
use Rattle.krates_text.specs.FeatureReference.{IsReference, reference_of, strong, weak}
use Rattle.krates_derive.proofs.ReferenceForms.{never_toggling, one_form, toggling_told}
use Rattle.krates_derive.proofs.referring.toggles_by.Goals as goal

pub returns-then-not-weakly : goal.returns-then-not-weakly
returns-then-not-weakly c =
    let x = c.in-Strong in
    let here = subst (λ t. IsReference t (strong x.dep.now x.feature.now)) c.from.ensures x.ensures in
    let strongly : c.args.weakly ≡ false = cc c.if-not-weakly.true in
    rw strongly (toggling_told (c.one_reference.ensures c.args.text.now) (document_of c.args.context.now) c.args.context.now.setting.now (id_of c.args.krate.now) (id_of c.args.toggle.now.krate.now) false x.dep.now x.feature.now c.args.toggle.now.name.now c.is_toggle.result here c.is_toggle.ensures)

pub returns-then-weakly : goal.returns-then-weakly
returns-then-weakly c =
    let x = c.in-Weak in
    let here = subst (λ t. IsReference t (weak x.dep.now x.feature.now)) c.from.ensures x.ensures in
    let weakly : c.args.weakly ≡ true = cc c.if-weakly.true in
    rw weakly (toggling_told (c.one_reference.ensures c.args.text.now) (document_of c.args.context.now) c.args.context.now.setting.now (id_of c.args.krate.now) (id_of c.args.toggle.now.krate.now) true x.dep.now x.feature.now c.args.toggle.now.name.now c.is_toggle-then-weakly.result here c.is_toggle-then-weakly.ensures)

pub returns-in_default : goal.returns-in_default
returns-in_default c =
    let x = c.feat.result in
    let here = subst (λ t. IsReference t (reference_of x)) c.from.ensures c.feat.ensures in
    (λ t. absurd cc, λ y. absurd (never_toggling x c.in_default.not-Weak c.in_default.not-Strong c.args.weakly y.dep c.args.toggle.now.name.now (one_form (c.one_reference.ensures c.args.text.now) _ _ here y.is)))
