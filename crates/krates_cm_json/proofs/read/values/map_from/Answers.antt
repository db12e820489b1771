use Rattle.std.proofs.Common.{◌≡◌, ℕ, List, ◌∷◌, ◌++◌, [], Bor, ap, rules, ◌∙◌, sym, subst, append_assoc, string_bytes, inr}
use Rattle.std.specs.List.Sorted.{IsStrictlySortedBy}
use Rattle.std.specs.Map.{keys_of}
use Rattle.krates_cm_json.specs.Entries.{entries_data, name_cmp}
use Rattle.krates_cm_json.proofs.MapReading.{inserted, entry_read, keys_pushed}
use Rattle.krates_cm_json.proofs.read.values.map_from.Goals as goal

pub loop-name-preserved : goal.loop-name-preserved
loop-name-preserved g c =
    let l = c.loop-name in
    let done = l.invariant.keys.0 in
    let e : Bor (List ℕ) × g.row.J.Denot = (c.in-Some.name.now, c.in-Some.member.now) in
    let left = c.next.new.self in
    let step : l.name-iterator ≡ e ∷ left = c.in-Some.ensures.steps in
    let all : c.args.members.now.entries ≡ done ++ e ∷ left = l.invariant.keys.1 ∙ ap (λ es. done ++ es) step in
    let is : string_bytes c.in_ok-copy.copy ≡ e.0.now = c.in_ok-copy.ensures.ok in
    let ordered = subst (λ es. IsStrictlySortedBy name_cmp (keys_of es)) all c.iter-name-items.ensures.ordered in
    let grown = c.in_ok-insert.ensures.entries ∙ inserted (λ k. k.now) l.entries.entries done e left c.in_ok-copy.copy c.in_ok-item.item is l.invariant.keys.2 ordered in
    record {
      can = search rules;
      finite = search rules;
      value = rw grown (entry_read (g.T.FromValue.reads c.args.key.now) (λ x. g.T.FromValue.view x) l.entries.entries c.in_ok-copy.copy c.in_ok-item.item e.0.now (g.J.JsonRef.meaning e.1) (entries_data g.J.JsonRef.meaning left) _ is c.in_ok-item.ensures (rw step at l.invariant.value));
      faults = let before = rw step at l.invariant.faults in λ fault h. before fault (inr h);
      keys = (done ++ e ∷ [], all ∙ sym (append_assoc done (e ∷ []) left), rw grown (keys_pushed (λ k. k.now) l.entries.entries done c.in_ok-copy.copy c.in_ok-item.item e is l.invariant.keys.2));
    }
