use Rattle.std.proofs.Common.{◌≡◌, inr, suc, ◌+◌, [], ◌∷◌, ◌++◌, length, map, Some, Err, Vec, Global, option_map, sym, ap, ◌∙◌, arith, rules, append-nil, length-append}
use Rattle.std.proofs.lemmas.List.{map-append}
use Rattle.serde_json.specs.Events.{items_len}
use Rattle.serde_json.specs.Find.{as_array, at}
use Rattle.krates_cm_json.specs.Reading.{list}
use Rattle.krates_cm_json.proofs.ItemReading.{array_items, items_from, next_item, no_item_left, item_within, read_whole, faults_whole, item_read, item_refused, no_front}
use Rattle.krates_cm_json.proofs.read.values.VecFromValue.from_json_at.Goals as goal

pub loop-item-init : goal.loop-item-init
loop-item-init g c =
    let v = g.J.JsonRef.meaning c.args.value in
    let counted : Some c.in_ok-len.len ≡ option_map items_len (as_array v) = search rules in
    let empty : c.in_ok-items.items.items ≡ [] = c.in_ok-items.ensures.items in
    record {
      value = rw empty (no_front _ ∙ read_whole g.T.FromValue.reads c.args.key.now v c.in_ok-len.len counted);
      faults = rw empty (faults_whole g.T.FromValue.reads c.args.key.now v c.in_ok-len.len counted);
    }

pub loop-item-smaller : goal.loop-item-smaller
loop-item-smaller g c =
    let v = g.J.JsonRef.meaning c.args.value in
    let done = c.loop-item.items.items in
    let counted : c.len-in-loop-item.result ≡ length done = search rules in
    let within = item_within (length done) v (g.J.JsonRef.meaning c.in-Some.item) (c.in-Some.ensures ∙ ap (λ n. at n v) counted) in
    let grown : length c.push.new.self.items ≡ length done + 1 = ap length c.in_ok-push.ensures.items ∙ length-append done (c.in_ok-from_json_at.field-0 ∷ []) in
    omega (arith, within, grown)

pub loop-item-preserved : goal.loop-item-preserved
loop-item-preserved g c =
    let v = g.J.JsonRef.meaning c.args.value in
    let read = g.T.FromValue.reads c.args.key.now in
    let done = c.loop-item.items.items in
    let x = c.in_ok-from_json_at.field-0 in
    let d = g.J.JsonRef.meaning c.in-Some.item in
    let counted : c.len-in-loop-item.result ≡ length done = search rules in
    let next = next_item (length done) v d (c.in-Some.ensures ∙ ap (λ n. at n v) counted) in
    let grown : length c.push.new.self.items ≡ suc (length done) = ap length c.in_ok-push.ensures.items ∙ length-append done (x ∷ []) ∙ omega arith in
    let front : map g.T.FromValue.view c.push.new.self.items ≡ map g.T.FromValue.view done ++ g.T.FromValue.view x ∷ [] = ap (map g.T.FromValue.view) c.in_ok-push.ensures.items ∙ map-append g.T.FromValue.view done (x ∷ []) in
    let so_far = rw next at c.loop-item.invariant.value in
    let faults = rw next at c.loop-item.invariant.faults in
    record {
      value = rw (grown, front) (item_read read (map g.T.FromValue.view done) (g.T.FromValue.view x) d (items_from (suc (length done)) (array_items v)) _ c.in_ok-from_json_at.ensures so_far);
      faults = rw grown (λ fault h. faults fault (inr h));
    }

pub returns-in_err-from_json_at : goal.returns-in_err-from_json_at
returns-in_err-from_json_at g c =
    let v = g.J.JsonRef.meaning c.args.value in
    let read = g.T.FromValue.reads c.args.key.now in
    let done = c.loop-item.items.items in
    let d = g.J.JsonRef.meaning c.in-Some.item in
    let e = c.in_err-from_json_at.field-0.0 in
    let counted : c.len-in-loop-item.result ≡ length done = search rules in
    let next = next_item (length done) v d (c.in-Some.ensures ∙ ap (λ n. at n v) counted) in
    let so_far = rw next at c.loop-item.invariant.value in
    let faults = rw next at c.loop-item.invariant.faults in
    let is : c.from_residual-in_err-from_json_at.result ≡ Err e = search rules in
    rw is (item_refused {Y = Vec g.row.T.Denot Global} g.T.FromValue.view (λ w. map g.T.FromValue.view w.items) read (map g.T.FromValue.view done) d (items_from (suc (length done)) (array_items v)) e (list g.T.FromValue.reads c.args.key.now v) so_far faults c.in_err-from_json_at.ensures)

pub returns : goal.returns
returns g c =
    let v = g.J.JsonRef.meaning c.args.value in
    let done = c.loop-item.items.items in
    let counted : c.len-in-loop-item.result ≡ length done = search rules in
    let over = no_item_left (length done) v (c.in_default.ensures ∙ ap (λ n. at n v) counted) in
    sym (rw over at c.loop-item.invariant.value) ∙ ap (λ xs. Some xs) (append-nil (map g.T.FromValue.view done))
