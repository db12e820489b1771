use Rattle.std.proofs.Common.{◌≡◌, suc, ◌+◌, [], ◌∷◌, ◌++◌, length, map, Some, Err, option_map, ap, ◌∙◌, arith, rules, append-nil, length-append}
use Rattle.std.proofs.lemmas.List.{map-append}
use Rattle.serde_json.specs.Events.{items_len}
use Rattle.serde_json.specs.Find.{as_array, at}
use Rattle.krates_cm_json.proofs.ItemReading.{array_items, items_from, next_item, no_item_left, item_within}
use Rattle.krates_certificate.specs.CertificateRefusals.{fault_of}
use Rattle.krates_certificate.proofs.ItemLemmas.{whole_list, one_more, item_refused}
use Rattle.krates_certificate.proofs.read.fields.items.Goals as goal

pub loop-item-init : goal.loop-item-init
loop-item-init g c =
    let v = g.J.JsonRef.meaning c.args.value in
    let empty : c.in_ok-parts.parts.items ≡ [] = c.in_ok-parts.ensures.items in
    let counted : Some c.in-Some.len ≡ option_map items_len (as_array v) = search rules in
    rw empty (whole_list g.T.CertificatePart.Is v c.in-Some.len counted)

pub loop-item-smaller : goal.loop-item-smaller
loop-item-smaller g c =
    let v = g.J.JsonRef.meaning c.args.value in
    let done = c.loop-item.parts.items in
    let counted : c.len-in-loop-item.result ≡ length done = search rules in
    let within = item_within (length done) v (g.J.JsonRef.meaning c.in-Some-item.item) (c.in-Some-item.ensures ∙ ap (λ n. at n v) counted) in
    let grown : length c.push.new.self.items ≡ length done + 1 = ap length c.in_ok-push.ensures.items ∙ length-append done (c.in_ok-from_json.field-0 ∷ []) in
    omega (arith, within, grown)

pub loop-item-preserved : goal.loop-item-preserved
loop-item-preserved g c =
    let v = g.J.JsonRef.meaning c.args.value in
    let done = c.loop-item.parts.items in
    let x = c.in_ok-from_json.field-0 in
    let d = g.J.JsonRef.meaning c.in-Some-item.item in
    let counted : c.len-in-loop-item.result ≡ length done = search rules in
    let next = next_item (length done) v d (c.in-Some-item.ensures ∙ ap (λ n. at n v) counted) in
    let grown : length c.push.new.self.items ≡ suc (length done) = ap length c.in_ok-push.ensures.items ∙ length-append done (x ∷ []) ∙ omega arith in
    let front : map g.T.CertificatePart.view c.push.new.self.items ≡ map g.T.CertificatePart.view done ++ g.T.CertificatePart.view x ∷ [] = ap (map g.T.CertificatePart.view) c.in_ok-push.ensures.items ∙ map-append g.T.CertificatePart.view done (x ∷ []) in
    let so_far = rw next at c.loop-item.invariant in
    rw (grown, front) (one_more g.T.CertificatePart.Is (map g.T.CertificatePart.view done) (g.T.CertificatePart.view x) d (items_from (suc (length done)) (array_items v)) v so_far c.in_ok-from_json.ensures)

pub returns-in_err-from_json : goal.returns-in_err-from_json
returns-in_err-from_json g c =
    let v = g.J.JsonRef.meaning c.args.value in
    let done = c.loop-item.parts.items in
    let d = g.J.JsonRef.meaning c.in-Some-item.item in
    let e = c.in_err-from_json.field-0.0 in
    let counted : c.len-in-loop-item.result ≡ length done = search rules in
    let is : c.from_residual-in_err-from_json.result ≡ Err e = search rules in
    rw is (item_refused g.T.CertificatePart.IsFault c.args.key.now v d (length done) (fault_of e) (c.in-Some-item.ensures ∙ ap (λ n. at n v) counted) c.in_err-from_json.ensures)

pub returns : goal.returns
returns g c =
    let v = g.J.JsonRef.meaning c.args.value in
    let done = c.loop-item.parts.items in
    let counted : c.len-in-loop-item.result ≡ length done = search rules in
    let over = no_item_left (length done) v (c.in_default-item.ensures ∙ ap (λ n. at n v) counted) in
    rw (← append-nil (map g.T.CertificatePart.view done)) (c.loop-item.invariant [] (rw over tt))
