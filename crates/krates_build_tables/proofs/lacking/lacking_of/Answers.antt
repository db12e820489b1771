use Rattle.std.proofs.Common.{Bor, map}
use Rattle.std.proofs.lemmas.Result.{IfOk-weaker}
use Rattle.krates_cm.specs.Document.{dependency_view}
use Rattle.krates_cm.specs.declared.dependency.Dependency.{Dependency}
use Rattle.krates_questions.specs.Lookup.{resolved_view}
use Rattle.krates_rules.specs.Resolved.{id_of}
use Rattle.krates_build_tables.proofs.Entries.{entries_lacking}
use Rattle.krates_build_tables.proofs.lacking.lacking_of.Goals as goal

pub returns : goal.returns
returns c =
    IfOk-weaker c.entries_of.result _ _ (λ entries are. entries_lacking (resolved_view c.args.document.now) c.args.number (id_of c.args.krate.now)
    (map (λ (d : Bor Dependency). dependency_view d.now) c.in_ok-unresolved.unresolved.items) entries.items c.in_ok-unresolved.ensures (rw c.deref.ensures.value at are)) c.entries_of.ensures
