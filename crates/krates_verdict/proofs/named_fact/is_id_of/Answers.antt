use Rattle.std.proofs.Common.{subst}
use Rattle.krates_cm.specs.Document.{Text, id_view}
use Rattle.krates_ids.specs.Identity.{IsFault, Reads, bad_escape, no_opaque_form, no_stable_form}
use Rattle.krates_rules.specs.Resolved.{id_of}
use Rattle.krates_verdict.proofs.OwnIds.{none, told}
use Rattle.krates_verdict.proofs.named_fact.is_id_of.Goals as goal

pub returns-in-Ok : goal.returns-in-Ok
returns-in-Ok c =
    let read = rw c.in-Ok.is at c.try_from.ensures.read in
    told c.one_reading.ensures.once c.comparison.ensures.equality (id_view c.args.id.now) c.in-Ok.own c.args.krate.now c.eq.result (subst (λ (t : Text). Reads t c.in-Ok.own) c.in_ok-clone.ensures.cases read) c.eq.ensures

pub returns-in-Err-Opaque : goal.returns-in-Err-Opaque
returns-in-Err-Opaque c =
    let why = rw (c.in-Err-Opaque.is, c.in-Err-Opaque.field-0-is) at c.try_from.ensures.refused in
    none (id_view c.args.id.now) (id_of c.args.krate.now) no_opaque_form c.one_reading.ensures.no_fault_beside (subst (λ (t : Text). IsFault t no_opaque_form) c.in_ok-clone.ensures.cases why.1)

pub returns-in-Err-Stable : goal.returns-in-Err-Stable
returns-in-Err-Stable c =
    let why = rw (c.in-Err-Stable.is, c.in-Err-Stable.field-0-is) at c.try_from.ensures.refused in
    none (id_view c.args.id.now) (id_of c.args.krate.now) no_stable_form c.one_reading.ensures.no_fault_beside (subst (λ (t : Text). IsFault t no_stable_form) c.in_ok-clone.ensures.cases why.1)

pub returns : goal.returns
returns c =
    let why = rw (c.in-Err-Escape.is, c.in-Err-Escape.field-0-is) at c.try_from.ensures.refused in
    none (id_view c.args.id.now) (id_of c.args.krate.now) bad_escape c.one_reading.ensures.no_fault_beside (subst (λ (t : Text). IsFault t bad_escape) c.in_ok-clone.ensures.cases why.1)
