use Rattle.std.proofs.Common.{arith, map}
use Rattle.std.proofs.lemmas.Result.{err_from_is_err_and}
use Rattle.krates_ids.specs.Identity.{Reads}
use Rattle.krates_document.proofs.AdmissionLemmas.{unread_one}
use Rattle.krates_rules.proofs.Zips.{zip_next, zip_all, one_seen}
use Rattle.krates_document.proofs.admission.read_ids.Goals as goal

pub loop-item-preserved : goal.loop-item-preserved
loop-item-preserved g c =
    let l = c.loop-item in
    let text = g.T.HasId.text in
    let read = rw c.package_id.ensures at c.in_ok-read_id.ensures.read in
    rw c.in_ok-push.ensures.items (zip_next Reads text c.args.items.now l.item-index c.item-item.result l.kids.items c.in_ok-read_id.field-0 (omega arith) c.item-item.is read l.invariant)

pub returns-clause-read : goal.returns-clause-read
returns-clause-read g c = zip_all Reads (λ x. g.T.HasId.text x) c.args.items.now c.loop-item.item-index c.loop-item.kids.items (omega arith) c.loop-item.invariant

pub returns-in_err-read_id-clause-refused : goal.returns-in_err-read_id-clause-refused
returns-in_err-read_id-clause-refused g c =
    let text = g.T.HasId.text in
    let item = c.item-item.result in
    let unread = rw c.package_id.ensures at c.in_err-read_id.ensures.refused in
    let among = one_seen text c.args.items.now c.loop-item.item-index item (omega arith) c.item-item.is in
    let p = err_from_is_err_and c.from_residual-in_err-read_id.result c.from_residual-in_err-read_id.ensures.1 in
    rw (p.1, p.2) (unread_one (map text c.args.items.now) (text item) among c.in_err-read_id.field-0.0 unread)
