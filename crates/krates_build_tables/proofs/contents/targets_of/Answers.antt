use Rattle.std.proofs.Common.{map, sym, ap, ◌∙◌}
use Rattle.krates_cm.specs.Document.{PackageModel, target_view, package_view}
use Rattle.krates_questions.specs.Lookup.{resolved_view}
use Rattle.krates_rules.specs.Resolved.{id_of}
use Rattle.krates_rules.proofs.OnlyOne.{one_package}
use Rattle.krates_build_tables.proofs.PackageContents.{targets_here, no_targets}
use Rattle.krates_build_tables.proofs.contents.targets_of.Goals as goal

pub returns-in-Some-clause-has : goal.returns-in-Some-clause-has
returns-in-Some-clause-has c =
    targets_here (resolved_view c.args.document.now) (id_of c.args.krate.now) (package_view c.in-Some.pkg.now) (map target_view c.deref.result.now) c.agrees.ensures.distinct c.in-Some.ensures
    (ap (map target_view) (sym c.deref.ensures.value))

pub returns-in-Some-clause-whole : goal.returns-in-Some-clause-whole
returns-in-Some-clause-whole c p has =
    let r = resolved_view c.args.document.now in
    let i = id_of c.args.krate.now in
    let one = package_view c.in-Some.pkg.now in
    ap (map target_view) c.deref.ensures.value ∙ ap (λ (q : PackageModel). q.targets) (one_package r i one p c.agrees.ensures.distinct c.in-Some.ensures has)

pub returns-in-None-clause-has : goal.returns-in-None-clause-has
returns-in-None-clause-has c = no_targets (resolved_view c.args.document.now) (id_of c.args.krate.now) c.in-None.ensures

pub returns-in-None-clause-whole : goal.returns-in-None-clause-whole
returns-in-None-clause-whole c p has = absurd (c.in-None.ensures p has)
