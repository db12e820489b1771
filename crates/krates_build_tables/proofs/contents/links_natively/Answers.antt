use Rattle.krates_questions.specs.Lookup.{resolved_view}
use Rattle.krates_rules.specs.Resolved.{id_of}
use Rattle.krates_build_tables.proofs.PackageContents.{native_told}
use Rattle.krates_build_tables.proofs.contents.links_natively.Goals as goal

pub returns-in-Some : goal.returns-in-Some
returns-in-Some c =
    native_told (resolved_view c.args.document.now) (id_of c.args.krate.now) c.in-Some.pkg.now c.is_some.result c.agrees.ensures.distinct c.in-Some.ensures c.is_some.ensures

pub returns-in-None : goal.returns-in-None
returns-in-None c = (λ t. absurd cc, λ h. absurd (c.in-None.ensures h.0 h.1))
