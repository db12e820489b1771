use Rattle.std.proofs.Common.{rules, sym}
use Rattle.serde_json.proofs.Views.{items_len-items_view}
use Rattle.krates_cm_json.proofs.owned.OwnedJsonRef.len.Goals as goal

pub returns : goal.returns
returns c =
    let is = items_len-items_view c.in_ok-as_array.field-0.now.items in
    rw (sym c.in_ok-as_array.ensures, is) (search rules)
