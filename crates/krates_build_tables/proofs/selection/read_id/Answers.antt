use Rattle.std.proofs.Common.{◌≡◌, string_bytes, sym, subst}
use Rattle.krates_cm.specs.Document.{Text, id_view}
use Rattle.krates_ids.specs.Identity.{Reads, no_opaque_form, no_stable_form, bad_escape}
use Rattle.krates_build_tables.proofs.selection.read_id.Goals as goal

pub returns-in-Err-Opaque : goal.returns-in-Err-Opaque
returns-in-Err-Opaque c = λ i reads.
    let why = rw (c.in-Err-Opaque.is, c.in-Err-Opaque.field-0-is) at c.try_from.ensures.refused in
    let same : string_bytes c.in_ok-clone.field-0 ≡ id_view c.args.id.now = c.in_ok-clone.ensures.cases in
    c.one_reading.ensures.no_fault_beside (string_bytes c.in_ok-clone.field-0) i no_opaque_form (subst (λ (t : Text). Reads t i) (sym same) reads) why.1

pub returns-in-Err-Stable : goal.returns-in-Err-Stable
returns-in-Err-Stable c = λ i reads.
    let why = rw (c.in-Err-Stable.is, c.in-Err-Stable.field-0-is) at c.try_from.ensures.refused in
    let same : string_bytes c.in_ok-clone.field-0 ≡ id_view c.args.id.now = c.in_ok-clone.ensures.cases in
    c.one_reading.ensures.no_fault_beside (string_bytes c.in_ok-clone.field-0) i no_stable_form (subst (λ (t : Text). Reads t i) (sym same) reads) why.1

pub returns : goal.returns
returns c = λ i reads.
    let why = rw (c.in-Err-Escape.is, c.in-Err-Escape.field-0-is) at c.try_from.ensures.refused in
    let same : string_bytes c.in_ok-clone.field-0 ≡ id_view c.args.id.now = c.in_ok-clone.ensures.cases in
    c.one_reading.ensures.no_fault_beside (string_bytes c.in_ok-clone.field-0) i bad_escape (subst (λ (t : Text). Reads t i) (sym same) reads) why.1
