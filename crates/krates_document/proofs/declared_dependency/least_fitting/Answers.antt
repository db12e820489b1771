use Rattle.std.proofs.Common.{sym, subst}
use Rattle.krates_document.specs.DeclaredPlaces.{IsLeast, IsWantedAmong, among}
use Rattle.krates_document.specs.NamedPlaces.{places_in}
use Rattle.krates_document.proofs.LeastFitting.{least_of_both, least_within}
use Rattle.krates_document.proofs.declared_dependency.least_fitting.Goals as goal

pub returns-clause-least : goal.returns-clause-least
returns-clause-least c =
    let all = c.args.candidates.now in
    subst (IsLeast (IsWantedAmong c.args.wanted.now (among all))) (sym c.lesser.ensures) (least_of_both c.args.wanted.now (places_in all.of_dep.now) (places_in all.of_package.now) c.least_of-of_dep.result c.least_of-of_package.result c.least_of-of_dep.ensures c.least_of-of_package.ensures)

pub returns-clause-within : goal.returns-clause-within
returns-clause-within c =
    let all = c.args.candidates.now in
    least_within c.args.wanted.now (among all) c.lesser.result
    (subst (IsLeast (IsWantedAmong c.args.wanted.now (among all))) (sym c.lesser.ensures) (least_of_both c.args.wanted.now (places_in all.of_dep.now) (places_in all.of_package.now) c.least_of-of_dep.result c.least_of-of_package.result c.least_of-of_dep.ensures c.least_of-of_package.ensures))
