use Rattle.std.proofs.Common.{refl, subst}
use Rattle.std.proofs.lemmas.Result.{IfOk-weaker, on_ok_weaker}
use Rattle.krates_cm.specs.Document.{Text}
use Rattle.krates_text.specs.FeatureReference.{IsReference, reference_of, simple}
use Rattle.krates_questions.specs.NodeEntry.{krate_of}
use Rattle.krates_rules.specs.Facts.{Feature}
use Rattle.krates_search.proofs.Finding.{finds_named, for_reason}
use Rattle.krates_resolve.proofs.ReferenceLemmas.{followed_by, may_name, not_simple, text_refers}
use Rattle.krates_resolve.proofs.references.Referrer.follow.Goals.{After-feat-reference}
use Rattle.krates_resolve.specs.References.{Refers}
use Rattle.krates_resolve.proofs.references.Referrer.follow.Goals as goal

is_reference : (c : After-feat-reference) → IsReference c.args.text.now (reference_of c.feat-reference.result)
is_reference c = subst (λ (t : Text). IsReference t (reference_of c.feat-reference.result)) c.from.ensures c.feat-reference.ensures

refers : (c : After-feat-reference) → Refers c.args.self.now c.args.found.now (reference_of c.feat-reference.result)
refers c = text_refers c.args.self.now c.args.found.now c.args.text.now (reference_of c.feat-reference.result) c.requires.value c.requires.step (is_reference c)

pub enable-requires-clause-node : goal.enable-requires-clause-node
enable-requires-clause-node c = record { at = c.requires.parts.at; read = c.requires.parts.read }

pub enable-requires-clause-may : goal.enable-requires-clause-may
enable-requires-clause-may c =
    let by = c.args.self.now in
    let to = rw c.in-Simple.is at (refers (goal.at.enable-requires-clause-may c).After-feat-reference) in
    may_name by.context (krate_of by.parts) c.in-Simple.name.now to.may

pub enable-requires-clause-step : goal.enable-requires-clause-step
enable-requires-clause-step c lists =
    let by = c.args.self.now in
    let b = by.context in
    let p = krate_of by.parts in
    let name = c.in-Simple.name.now in
    let x = c.args.found.now in
    let to = rw c.in-Simple.is at (refers (goal.at.enable-requires-clause-step c).After-feat-reference) in
    for_reason b x _ _ (Feature p name) c.by_one-reason.ensures (finds_named b x by.step p name to.has_step lists)

pub returns-in_ok-enable-in-Simple-clause-followed : goal.returns-in_ok-enable-in-Simple-clause-followed
returns-in_ok-enable-in-Simple-clause-followed c =
    let by = c.args.self.now in
    let is = rw c.in-Simple.is at (is_reference (goal.at.returns-in_ok-enable-in-Simple-clause-followed c).After-feat-reference) in
    followed_by by.context c.enable.new.found (krate_of by.parts) c.args.text.now (simple c.in-Simple.name.now) (c.one_reference.ensures c.args.text.now) is c.in_ok-enable-in-Simple.ensures.named

pub returns-in_ok-enable-in-Simple-clause-counted : goal.returns-in_ok-enable-in-Simple-clause-counted
returns-in_ok-enable-in-Simple-clause-counted c =
    let is = rw c.in-Simple.is at (is_reference (goal.at.returns-in_ok-enable-in-Simple-clause-counted c).After-feat-reference) in
    record { reference = simple c.in-Simple.name.now; is = is; counts = refl }

pub follow_each-requires-clause-named : goal.follow_each-requires-clause-named
follow_each-requires-clause-named c = not_simple c.feat-reference.result c.in_default.not-Simple

pub follow_each-requires-clause-refers : goal.follow_each-requires-clause-refers
follow_each-requires-clause-refers c = refers (goal.at.follow_each-requires-clause-refers c).After-feat-reference

pub returns-in_default-clause-followed : goal.returns-in_default-clause-followed
returns-in_default-clause-followed c =
    let by = c.args.self.now in
    let is = is_reference (goal.at.returns-in_default-clause-followed c).After-feat-reference in
    on_ok_weaker c.follow_each.result (followed_by by.context c.follow_each.new.found (krate_of by.parts) c.args.text.now (reference_of c.feat-reference.result) (c.one_reference.ensures c.args.text.now) is)
    c.follow_each.ensures.followed

pub returns-in_default-clause-counted : goal.returns-in_default-clause-counted
returns-in_default-clause-counted c =
    let is = is_reference (goal.at.returns-in_default-clause-counted c).After-feat-reference in
    IfOk-weaker c.follow_each.result _ _ (λ n told. record { reference = reference_of c.feat-reference.result; is = is; counts = told }) c.follow_each.ensures.counted
