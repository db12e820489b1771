use Rattle.std.proofs.Common.{◌≡◌, ◌↔◌, Some, sym, ap, ◌∙◌, subst}
use Rattle.krates_questions.specs.Lookup.{resolved_view}
use Rattle.krates_rules.specs.Resolved.{id_of}
use Rattle.krates_text.specs.FeatureReference.{Reference, simple}
use Rattle.krates_units.specs.Requests.{MayAsk, TakesAlike}
use Rattle.krates_build_tables.specs.References.{reference_view}
use Rattle.krates_build_tables.proofs.TakenReferences.{takes_own, takes_nothing, same_simple, krate_simple, weak_simple, strong_simple}
use Rattle.krates_build_tables.proofs.taken.taken_as_own.Goals as goal

pub returns-then-may_ask : goal.returns-then-may_ask
returns-then-may_ask c = λ w.
    let r = resolved_view c.args.document.now in
    let i = id_of c.args.id.now in
    let name = c.in-Simple.name.now in
    let e : reference_view c.args.given ≡ simple name = ap reference_view c.in-Simple.is in
    subst (λ (v : Reference). TakesAlike r i v w ↔ (Some v ≡ Some w)) (sym e) (takes_own r i name (c.may_ask.ensures.0 c.if-may_ask.true) w)

pub returns-else-may_ask : goal.returns-else-may_ask
returns-else-may_ask c =
    let r = resolved_view c.args.document.now in
    let i = id_of c.args.id.now in
    let e : reference_view c.args.given ≡ simple c.in-Simple.name.now = ap reference_view c.in-Simple.is in
    takes_nothing r i (reference_view c.args.given) c.requires (λ f is may.
    let same = same_simple c.in-Simple.name.now f (sym e ∙ is) in
    absurd (cc (c.may_ask.ensures.1 (subst (MayAsk r i) (sym same) may), c.if-may_ask.false)))

pub returns-in-Krate : goal.returns-in-Krate
returns-in-Krate c = takes_nothing (resolved_view c.args.document.now) (id_of c.args.id.now) (reference_view c.args.given) c.requires (λ f is may. krate_simple _ f (sym (ap reference_view c.in-Krate.is) ∙ is))

pub returns-in-Weak : goal.returns-in-Weak
returns-in-Weak c = takes_nothing (resolved_view c.args.document.now) (id_of c.args.id.now) (reference_view c.args.given) c.requires (λ f is may. weak_simple _ _ f (sym (ap reference_view c.in-Weak.is) ∙ is))

pub returns-in-Strong : goal.returns-in-Strong
returns-in-Strong c = takes_nothing (resolved_view c.args.document.now) (id_of c.args.id.now) (reference_view c.args.given) c.requires (λ f is may. strong_simple _ _ f (sym (ap reference_view c.in-Strong.is) ∙ is))
