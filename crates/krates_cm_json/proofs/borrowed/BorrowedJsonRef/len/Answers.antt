use Rattle.std.proofs.Common.{◌≡◌, length, ap, ◌∙◌, subst, rules}
use Rattle.json.specs.Json as json
use Rattle.json.specs.Value.{value_view, items_view}
use Rattle.json.proofs.Trees.{view-Array}
use Rattle.krates_cm_json.specs.Readable.{IsReadable}
use Rattle.krates_cm_json.proofs.ReadableLemmas.{items_len-readable}
use Rattle.krates_cm_json.proofs.borrowed.BorrowedJsonRef.len.Goals as goal

pub returns-in-Array : goal.returns-in-Array
returns-in-Array c =
    let items = c.in-Array.items.items in
    let seen : value_view c.args.self.now.tree.now ≡ json.array (items_view items) = ap value_view c.in-Array.is ∙ view-Array c.in-Array.items in
    let counted : c.len.result ≡ length items = search rules in
    rw (seen, counted) (items_len-readable items (subst IsReadable seen c.args.self.now.readable))
