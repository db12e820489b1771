use Rattle.std.proofs.Common.{map, option_map, ap}
use Rattle.krates_cm.specs.Document.{dependency_view, target_view, text_view}
use Rattle.krates_questions.specs.Lookup.{resolved_view}
use Rattle.krates_rules.specs.Resolved.{id_of}
use Rattle.krates_build_tables.proofs.PairLemmas.{renamed_told, library_told}
use Rattle.krates_build_tables.proofs.fitting.is_called.Goals as goal

pub returns-in-Some : goal.returns-in-Some
returns-in-Some c =
    renamed_told (resolved_view c.args.document.now) (id_of c.args.child.now) (dependency_view c.args.declared.now) c.args.name.now (text_view c.in-Some.rename) c.is_name_of.result (ap (option_map text_view) c.in-Some.is)
    (rw c.as_str.ensures.value at c.is_name_of.ensures)

pub returns-in-None : goal.returns-in-None
returns-in-None c =
    library_told (resolved_view c.args.document.now) (id_of c.args.child.now) (dependency_view c.args.declared.now) c.args.name.now (map target_view c.targets_of.result.now) c.has_library_called.result
    (ap (option_map text_view) c.in-None.is) c.targets_of.ensures.has c.has_library_called.ensures
