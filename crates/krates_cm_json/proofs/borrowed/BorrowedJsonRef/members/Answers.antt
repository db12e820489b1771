use Rattle.std.proofs.Common.{◌≡◌, ◌+◌, [], ◌∷◌, drop, Some, sym, ap, ◌∙◌, subst, arith}
use Rattle.std.proofs.lemmas.List.{drop_more, drop_all}
use Rattle.json.specs.Json as json
use Rattle.json.specs.Value.{value_view, members_view}
use Rattle.json.proofs.Trees.{view-Object}
use Rattle.serde_json.specs.Data.{no_members}
use Rattle.serde_json.specs.Read.{of_members}
use Rattle.krates_cm_json.specs.Entries.{entries_data}
use Rattle.krates_cm_json.specs.Readable.{IsReadable, data_in}
use Rattle.krates_cm_json.proofs.EntryLemmas.{entries_data-insert_entry}
use Rattle.krates_cm_json.proofs.ReadableLemmas.{AreReadable, members_readable, next_put, all_put}
use Rattle.krates_cm_json.proofs.borrowed.BorrowedJsonRef.members.Goals as goal

pub loop-member-init : goal.loop-member-init
loop-member-init c =
    let xs = c.deref-member-items.result.now in
    let seen : value_view c.args.self.now.tree.now ≡ json.object (members_view xs) = ap value_view c.in-Object.is ∙ view-Object c.in-Object.members ∙ ap (λ ms. json.object (members_view ms)) (sym c.deref-member-items.ensures.value) in
    record {
      readable = members_readable xs (subst IsReadable seen c.args.self.now.readable);
      put = ap (λ es. of_members (members_view xs) (entries_data (λ j. data_in (value_view j.tree.now)) es)) c.new-found.ensures.empty;
    }

pub invariant_of-insert : goal.invariant_of-insert
invariant_of-insert c =
    let i = c.loop-member.member-index in
    let xs = c.deref-member-items.result.now in
    let x = c.member-item.result in
    let here : drop i xs ≡ x ∷ drop (i + 1) xs = drop_more xs i x (omega arith) ∙ ap (λ y. y ∷ drop (i + 1) xs) (sym c.member-item.is) in
    record { readable = (subst AreReadable here c.loop-member.invariant.readable).0 }

pub loop-member-preserved : goal.loop-member-preserved
loop-member-preserved c =
    let i = c.loop-member.member-index in
    let xs = c.deref-member-items.result.now in
    let x = c.member-item.result in
    let here : drop i xs ≡ x ∷ drop (i + 1) xs = drop_more xs i x (omega arith) ∙ ap (λ y. y ∷ drop (i + 1) xs) (sym c.member-item.is) in
    let readable = subst AreReadable here c.loop-member.invariant.readable in
    let es = entries_data (λ j. data_in (value_view j.tree.now)) c.loop-member.found.entries in
    let grown = ap (entries_data (λ j. data_in (value_view j.tree.now))) c.in_ok-insert.ensures.entries ∙ entries_data-insert_entry (λ j. data_in (value_view j.tree.now)) c.loop-member.found.entries _ _ in
    let one = next_put x (drop (i + 1) xs) es readable.0 in
    record {
      readable = readable.1;
      put = ap (of_members (members_view (drop (i + 1) xs))) grown ∙ sym one ∙ ap (λ ys. of_members (members_view ys) es) (sym here) ∙ c.loop-member.invariant.put;
    }

pub returns : goal.returns
returns c =
    let xs = c.deref-member-items.result.now in
    let seen : value_view c.args.self.now.tree.now ≡ json.object (members_view xs) = ap value_view c.in-Object.is ∙ view-Object c.in-Object.members ∙ ap (λ ms. json.object (members_view ms)) (sym c.deref-member-items.ensures.value) in
    let es = entries_data (λ j. data_in (value_view j.tree.now)) c.loop-member.found.entries in
    let over : drop c.loop-member.member-index xs ≡ [] = drop_all c.loop-member.member-index xs c.loop-member-test.false in
    let all : of_members (members_view xs) no_members ≡ Some es = sym c.loop-member.invariant.put ∙ ap (λ ys. of_members (members_view ys) es) over in
    rw seen (all_put xs es (subst IsReadable seen c.args.self.now.readable) all)
