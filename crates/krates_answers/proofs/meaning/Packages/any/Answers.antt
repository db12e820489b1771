use Rattle.std.proofs.Common.{◌≤◌, ◌+◌, Bor, List, ap, arith, length, map, ◌∙◌, subst}
use Rattle.std.proofs.lemmas.List.{length-map}
use Rattle.std.proofs.lemmas.Result.{err_from_is_err_and}
use Rattle.krates_cm.specs.declared.package.Package.{Package}
use Rattle.krates_queries.specs.KrateNodes.{match_view}
use Rattle.krates_answers.specs.Meaning.{Means}
use Rattle.krates_answers.specs.Naming.{TellsSeveral}
use Rattle.krates_answers.proofs.MeantLemmas.{at_most_one, one_kept, one_other}
use Rattle.krates_answers.proofs.NamingLemmas.{none_only_memory, only_memory, several_told}
use Rattle.krates_answers.proofs.meaning.Packages.any.Goals as goal

pub returns-in_err-found-clause-only_memory : goal.returns-in_err-found-clause-only_memory
returns-in_err-found-clause-only_memory c = λ d one.
    let p = err_from_is_err_and c.from_residual.result c.from_residual.ensures.1 in
    rw (p.1, p.2) (none_only_memory c.args.self.now c.args.word.now c.in_err-found.field-0.0 c.in_err-found.ensures.refused d one)

pub returns-then-are_several-clause-refused : goal.returns-then-are_several-clause-refused
returns-then-are_several-clause-refused c =
    let p = c.args.self.now in
    let word = c.args.word.now in
    let found = c.in_ok-found.found in
    let now = λ (pkg : Bor Package). pkg.now in
    let count : 2 ≤ length found.kept.items + length found.others.items = c.are_several.ensures.0 c.if-are_several.true in
    several_told p word c.in_ok-several.field-0 (map match_view found.kept.items) (map now found.others.items) c.in_ok-found.ensures.meant
    (omega (arith, count, length-map found.kept.items match_view, length-map found.others.items now))
    (subst (λ (all : List Package). TellsSeveral p word all c.in_ok-several.field-0) (ap (map now) c.deref.ensures.value ∙ c.in_ok-packages.ensures) c.in_ok-several.ensures)

pub returns-then-are_several-clause-only_memory : goal.returns-then-are_several-clause-only_memory
returns-then-are_several-clause-only_memory c = λ d one.
    only_memory c.args.self.now c.args.word.now c.in_ok-several.field-0 (returns-then-are_several-clause-refused c) d one

pub returns-in-Some-default-clause-one : goal.returns-in-Some-default-clause-one
returns-in-Some-default-clause-one c =
    let p = c.args.self.now in
    let found = c.in_ok-found.found in
    one_kept match_view (λ (pkg : Bor Package). pkg.now) p (Means p c.args.word.now) found.kept.items c.pop.new.self.items found.others.items c.in-Some-default.krate c.in_ok-found.ensures.meant
    c.in-Some-default.ensures.items (at_most_one c.are_several.result (length found.kept.items + length found.others.items) c.are_several.ensures c.if-are_several.false)

pub returns-in-None-Some-clause-one : goal.returns-in-None-Some-clause-one
returns-in-None-Some-clause-one c =
    let p = c.args.self.now in
    let found = c.in_ok-found.found in
    one_other match_view (λ (pkg : Bor Package). pkg.now) p (Means p c.args.word.now) found.kept.items found.others.items c.pop-2.new.self.items c.in-None-Some.pkg c.in_ok-found.ensures.meant
    (omega (arith, c.in-None-Some.ensures.cases.0, found.kept.ok.0)) c.in-None-Some.ensures'.items
    (at_most_one c.are_several.result (length found.kept.items + length found.others.items) c.are_several.ensures c.if-are_several.false)
