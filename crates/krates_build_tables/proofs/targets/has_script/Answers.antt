use Rattle.std.proofs.Common.{map}
use Rattle.krates_cm.specs.Document.{target_view}
use Rattle.krates_questions.specs.Lookup.{resolved_view}
use Rattle.krates_rules.specs.Resolved.{id_of}
use Rattle.krates_units.specs.BuildTargets.{IsScript}
use Rattle.krates_build_tables.proofs.PackageContents.{target_that}
use Rattle.krates_build_tables.proofs.targets.has_script.Goals as goal

pub returns : goal.returns
returns c =
    let same = target_that (resolved_view c.args.document.now) (id_of c.args.krate.now) IsScript (map target_view c.targets_of.result.now) c.targets_of.ensures.has in
    (λ t. same.1 (c.some_script.ensures.0 t), λ h. c.some_script.ensures.1 (same.0 h))
