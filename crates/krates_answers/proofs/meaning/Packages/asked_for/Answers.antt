use Rattle.std.proofs.Common.{Bor}
use Rattle.krates_cm.specs.declared.package.Package.{Package}
use Rattle.krates_queries.specs.KrateNodes.{match_view}
use Rattle.krates_answers.specs.Meaning.{Means}
use Rattle.krates_answers.specs.WordSpecification.{asked_view}
use Rattle.krates_answers.proofs.MeantLemmas.{meant_as_asked, none_parted}
use Rattle.krates_answers.proofs.NamingLemmas.{unknown_told}
use Rattle.krates_answers.proofs.meaning.Packages.asked_for.Goals as goal

pub returns-then-is_empty-clause-refused : goal.returns-then-is_empty-clause-refused
returns-then-is_empty-clause-refused c =
    let p = c.args.self.now in
    let word = c.args.word.now in
    let asked = asked_view c.in_ok-asked.asked in
    let asks = c.in_ok-asked.ensures.read in
    let found = c.in_ok-found.found in
    let now = λ (pkg : Bor Package). pkg.now in
    unknown_told p word c.in_ok-unknown.field-0 asked asks
    (none_parted match_view now p (Means p word) found.kept.items found.others.items
    (meant_as_asked match_view now p word asked found.kept.items found.others.items c.requires asks c.in_ok-found.ensures) (c.is_empty.ensures.0 c.if-is_empty.true))
    c.in_ok-unknown.ensures

pub returns-clause-meant : goal.returns-clause-meant
returns-clause-meant c =
    let found = c.in_ok-found.found in
    meant_as_asked match_view (λ (pkg : Bor Package). pkg.now) c.args.self.now c.args.word.now (asked_view c.in_ok-asked.asked) found.kept.items found.others.items c.requires
    c.in_ok-asked.ensures.read c.in_ok-found.ensures
