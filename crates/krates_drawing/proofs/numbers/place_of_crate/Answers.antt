use Rattle.std.proofs.Common.{rules, sym, ◌∙◌}
use Rattle.std.proofs.lemmas.Fn.{always_returns_same}
use Rattle.krates_ids.specs.Identity.{id_cmp}
use Rattle.krates_drawing.specs.declared.outline.CrateRow.{CrateRow}
use Rattle.krates_drawing.proofs.CratePlaces.{crate_seen}
use Rattle.krates_drawing.proofs.EqualRanges.{searched}
use Rattle.krates_drawing.proofs.Tests.{ids_total}
use Rattle.krates_drawing.proofs.numbers.place_of_crate.Goals as goal

pub returns : goal.returns
returns c =
    let found = c.binary_search_by.ensures in
    let at = found.position (λ (k : CrateRow). id_cmp k.id c.args.id.now) (always_returns_same _ _ _ (λ a r q called. search rules)) in
    c.unwrap_or.ensures ∙ sym (crate_seen c.args.krates.now c.args.id.now ∙ searched ids_total (λ (k : CrateRow). k.id) c.args.krates.now c.args.id.now c.binary_search_by.result c.requires found.bound at)
