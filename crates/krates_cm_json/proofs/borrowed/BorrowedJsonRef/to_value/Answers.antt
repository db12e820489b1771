use Rattle.std.proofs.Common.{◌≡◌, sym, ap, ◌∙◌, rules}
use Rattle.std.specs.Prelude.{unwrap_or}
use Rattle.json.specs.Value.{value_view}
use Rattle.serde_json.specs.Data.{null}
use Rattle.serde_json.specs.Read.{read}
use Rattle.serde_json.specs.View.{view}
use Rattle.serde_json.specs.declared.value.Value.{Null, the_lemmas}
use Rattle.krates_cm_json.proofs.ReadableLemmas.{read_printed, null_is}
use Rattle.krates_cm_json.proofs.borrowed.BorrowedJsonRef.to_value.Goals as goal

pub returns-in-Ok : goal.returns-in-Ok
returns-in-Ok c =
    let written = ap read (c.as_slice.ensures.value ∙ c.in_ok-text.ensures.text) in
    ap (λ o. unwrap_or o null) (sym c.in-Ok.ensures.ok.1 ∙ written ∙ read_printed (value_view c.args.self.now.tree.now) c.args.self.now.readable)

view-Null : view Null ≡ null
view-Null = search (rules, the_lemmas)

pub returns-then-is_null : goal.returns-then-is_null
returns-then-is_null c = view-Null ∙ null_is (value_view c.args.self.now.tree.now) (search rules)
