use Rattle.krates_cm.specs.Document.{package_view}
use Rattle.krates_questions.specs.Lookup.{resolved_view}
use Rattle.krates_rules.specs.Resolved.{id_of}
use Rattle.krates_questions.proofs.RootLemmas.{manifest_here}
use Rattle.krates_questions.proofs.questions.Document.has_manifest.Goals as goal

pub returns-in-Some : goal.returns-in-Some
returns-in-Some c =
    let pkg = package_view c.in-Some.pkg.now in
    let same = manifest_here (resolved_view c.args.self.now) c.args.setting.now (id_of c.args.id.now) pkg c.agrees.ensures.distinct c.in-Some.ensures in
    let there = rw (c.manifests.ensures, c.as_str.ensures.value) at c.is_one_of.ensures in
    (λ t. same.0 (there.0 t), λ h. there.1 (same.1 h))

pub returns-in-None : goal.returns-in-None
returns-in-None c = (λ t. absurd cc, λ h. absurd (c.in-None.ensures h.pkg h.has_package))
