use Rattle.std.proofs.Common.{subst}
use Rattle.std.proofs.lemmas.Result.{IfOk-weaker}
use Rattle.krates_derive.specs.Giving.{document_in, facts_in, setting_in}
use Rattle.krates_rules.specs.Resolved.{id_of}
use Rattle.krates_text.specs.FeatureReference.{IsReference, krate, simple, strong, weak}
use Rattle.krates_checkers.proofs.ClosedLists.{reference_told}
use Rattle.krates_checkers.proofs.closed.is_reference_in.Goals as goal

pub returns-in-Simple : goal.returns-in-Simple
returns-in-Simple c =
    let a = simple c.in-Simple.name.now in
    let here = subst (λ t. IsReference t a) c.from.ensures c.in-Simple.ensures in
    reference_told (c.one_reference.ensures c.args.text.now) (document_in c.args.check.now) (setting_in c.args.check.now) (facts_in c.args.check.now) (id_of c.args.krate.now) a c.is_named_in.result here c.is_named_in.ensures

pub returns-in-Krate : goal.returns-in-Krate
returns-in-Krate c =
    let a = krate c.in-Krate.dep.now in
    let here = subst (λ t. IsReference t a) c.from.ensures c.in-Krate.ensures in
    IfOk-weaker c.are_edges_to_in.result _ _ (λ b told. reference_told (c.one_reference.ensures c.args.text.now) (document_in c.args.check.now) (setting_in c.args.check.now) (facts_in c.args.check.now) (id_of c.args.krate.now) a b here told) c.are_edges_to_in.ensures

pub returns-in-Weak : goal.returns-in-Weak
returns-in-Weak c =
    let a = weak c.in-Weak.dep.now c.in-Weak.feature.now in
    let here = subst (λ t. IsReference t a) c.from.ensures c.in-Weak.ensures in
    IfOk-weaker c.is_dep_in-in-Weak.result _ _ (λ b told. reference_told (c.one_reference.ensures c.args.text.now) (document_in c.args.check.now) (setting_in c.args.check.now) (facts_in c.args.check.now) (id_of c.args.krate.now) a b here told) c.is_dep_in-in-Weak.ensures

pub returns-in_ok-is_dep_in-in-Strong : goal.returns-in_ok-is_dep_in-in-Strong
returns-in_ok-is_dep_in-in-Strong c =
    let a = strong c.in-Strong.dep.now c.in-Strong.feature.now in
    let here = subst (λ t. IsReference t a) c.from.ensures c.in-Strong.ensures in
    reference_told (c.one_reference.ensures c.args.text.now) (document_in c.args.check.now) (setting_in c.args.check.now) (facts_in c.args.check.now) (id_of c.args.krate.now) a _ here
    (λ t. (c.in_ok-are_edges_to_in-in-Strong.ensures.0 c.if-branch.true, c.in_ok-is_dep_in-in-Strong.ensures.0 t), λ h. c.in_ok-is_dep_in-in-Strong.ensures.1 h.1)

pub returns-else-branch : goal.returns-else-branch
returns-else-branch c =
    let a = strong c.in-Strong.dep.now c.in-Strong.feature.now in
    let here = subst (λ t. IsReference t a) c.from.ensures c.in-Strong.ensures in
    reference_told (c.one_reference.ensures c.args.text.now) (document_in c.args.check.now) (setting_in c.args.check.now) (facts_in c.args.check.now) (id_of c.args.krate.now) a _ here
    (λ t. absurd cc, λ h. absurd (cc (c.in_ok-are_edges_to_in-in-Strong.ensures.1 h.0, c.if-branch.false)))
