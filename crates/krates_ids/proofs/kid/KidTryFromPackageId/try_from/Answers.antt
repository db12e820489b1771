use Rattle.std.proofs.Common.{refl, inl}
use Rattle.krates_cm.specs.Document.{id_view}
use Rattle.krates_ids.specs.Identity.{IsFault, no_opaque_form}
use Rattle.krates_ids.proofs.RefusalsLemmas.{Converts-fault, Converts-reads}
use Rattle.krates_ids.proofs.kid.KidTryFromPackageId.try_from.Goals as goal

pub returns-in-Some : goal.returns-in-Some
returns-in-Some c =
    let marks = rw c.as_str-2.ensures.value at c.in-Some.ensures in
    rw c.kid_of.ensures (Converts-reads c.args.id _ (inl (record { form = marks.form; text_is = refl; marked = refl })))

pub returns-in-None : goal.returns-in-None
returns-in-None c =
    let blank = rw (c.if-not-has.false, c.as_str.ensures.value) at c.has.ensures in
    let fault : IsFault (id_view c.args.id) no_opaque_form = (blank, rw c.as_str-2.ensures.value at c.in-None.ensures) in
    Converts-fault _ _ no_opaque_form fault (refl, fault)
