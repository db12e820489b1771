use Rattle.std.proofs.Common.{◌≡◌, [], ◌∷◌, ◌++◌, sym, ap, ◌∙◌, subst, arith}
use Rattle.json.proofs.Trees.{view-Array, view-Object}
use Rattle.json.specs.Json.{Json, object, array, no_items, no_members, member}
use Rattle.json.specs.Value.{value_view, items_view, members_view}
use Rattle.json.specs.declared.value.Value.{Array, Object}
use Rattle.krates_cm_json.specs.ByItem.{Member, joined}
use Rattle.krates_cm_json.specs.Readable.{IsReadable}
use Rattle.krates_cm_json.proofs.ByItemLemmas.{joined-push, readable_beside}
use Rattle.krates_cm_json.proofs.by_item.with_empty_list.Goals as goal

pub returns : goal.returns
returns c =
    let ms = c.args.members.items in
    let m : Member = (c.args.key, Array c.new.result) in
    let pushed : c.push.new.list.items ≡ ms ++ m ∷ [] = c.in_ok-push.ensures in
    let empty : value_view (Array c.new.result) ≡ array no_items = view-Array c.new.result ∙ ap (λ vs. array (items_view vs)) c.new.ensures.items in
    view-Object c.push.new.list ∙ ap (λ ns. object (members_view ns)) pushed ∙ ap object (joined-push ms m) ∙ ap (λ (j : Json). object (joined ms (member c.args.key.now j no_members))) empty

pub invariant_of-result : goal.invariant_of-result
invariant_of-result c =
    let ms = c.args.members.items in
    let m : Member = (c.args.key, Array c.new.result) in
    let pushed : c.push.new.list.items ≡ ms ++ m ∷ [] = c.in_ok-push.ensures in
    let empty : value_view (Array c.new.result) ≡ array no_items = view-Array c.new.result ∙ ap (λ vs. array (items_view vs)) c.new.ensures.items in
    let seen : value_view (Object c.push.new.list) ≡ object (joined ms (member c.args.key.now (array no_items) no_members)) =
    view-Object c.push.new.list ∙ ap (λ ns. object (members_view ns)) pushed ∙ ap object (joined-push ms m) ∙ ap (λ (j : Json). object (joined ms (member c.args.key.now j no_members))) empty in
    record { readable = subst IsReadable (sym seen) (readable_beside 125 ms c.args.key.now (omega arith) (omega arith) c.requires).0 }
