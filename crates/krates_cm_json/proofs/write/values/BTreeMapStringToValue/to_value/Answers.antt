use Rattle.std.proofs.Common.{◌≡◌, ◌∷◌, ◌++◌, [], ap, rules, ◌∙◌, sym, subst, append_assoc, append-nil, String, Global, string_bytes, map}
use Rattle.std.specs.List.Sorted.{IsStrictlySortedBy}
use Rattle.std.specs.Map.{keys_of}
use Rattle.std.specs.String.{string_cmp}
use Rattle.serde_json.specs.View.{members_view}
use Rattle.serde_json.proofs.Views.{view-Object}
use Rattle.krates_cm_json.specs.Objects.{EntriesWritten}
use Rattle.krates_cm_json.proofs.MapReading.{entry_seen, inserted, keys_pushed}
use Rattle.krates_cm_json.proofs.WrittenLists.{entry_next}
use Rattle.krates_cm_json.proofs.write.values.BTreeMapStringToValue.to_value.Goals as goal

pub loop-name-preserved : goal.loop-name-preserved
loop-name-preserved g c =
    let l = c.loop-name in
    let (done, rest, keys, written) = l.invariant.so_far in
    let e : String Global × _ = (c.in-Some.name.now, c.in-Some.item.now) in
    let left = c.next.new.self in
    let step : l.name-iterator ≡ e ∷ left = c.in-Some.ensures.steps in
    let all : c.args.self.now.entries ≡ done ++ e ∷ left = rest ∙ ap (λ es. done ++ es) step in
    let is : string_bytes c.in_ok-copy.copy ≡ string_bytes e.0 = c.in_ok-copy.ensures.cases in
    let ordered = subst (λ es. IsStrictlySortedBy string_cmp (keys_of es)) all c.iter-name-items.ensures.ordered in
    let grown = c.in_ok-insert.ensures.entries ∙ inserted string_bytes l.members.entries done e left c.in_ok-copy.copy c.in_ok-value.value is keys ordered in
    record {
      can = search rules;
      finite = search rules;
      so_far = (
        done ++ e ∷ [],
        all ∙ sym (append_assoc done (e ∷ []) left),
        rw grown (keys_pushed string_bytes l.members.entries done c.in_ok-copy.copy c.in_ok-value.value e is keys),
        rw grown (entry_next g.T.ToValue.Writes (λ x. g.T.ToValue.view x) done l.members.entries e c.in_ok-copy.copy c.in_ok-value.value is c.in_ok-value.ensures written),
      );
    }

pub returns : goal.returns
returns g c =
    let (done, rest, keys, written) = c.loop-name.invariant.so_far in
    let ended : c.args.self.now.entries ≡ done = rest ∙ ap (λ es. done ++ es) c.in-None.ensures.steps.0 ∙ append-nil done in
    rw view-Object (subst (λ es. EntriesWritten g.T.ToValue.Writes (map (entry_seen (λ x. g.T.ToValue.view x)) es) (members_view c.loop-name.members.entries)) (sym ended) written)
