use Rattle.std.proofs.Common.{◌↔◌, IsTrue, List, Contains, map, subst}
use Rattle.krates_ids.specs.Identity.{Identity}
use Rattle.krates_questions.specs.Lookup.{resolved_view}
use Rattle.krates_rules.specs.Resolved.{id_of}
use Rattle.krates_build_tables.proofs.Selected.{written_told}
use Rattle.krates_build_tables.proofs.selection.is_default.Goals as goal

pub returns-then-is_member : goal.returns-then-is_member
returns-then-is_member c =
    let i = id_of c.args.id.now in
    let defaults = rw c.in-Some.is at c.requires in
    let told = subst (λ (ids : List Identity). IsTrue c.is_among.result ↔ Contains (map id_of ids) i) c.deref.ensures.value c.is_among.ensures in
    written_told (resolved_view c.args.document.now) i c.in-Some.ids c.is_among.result defaults c.if-is_member.ensures told
