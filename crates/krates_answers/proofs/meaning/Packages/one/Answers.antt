use Rattle.std.proofs.Common.{Bor, List, ap, arith, length, map, ◌∙◌, subst}
use Rattle.std.proofs.lemmas.List.{length-map}
use Rattle.std.proofs.lemmas.Result.{err_from_is_err_and}
use Rattle.krates_cm.specs.declared.package.Package.{Package}
use Rattle.krates_queries.specs.KrateNodes.{match_view}
use Rattle.krates_queries.specs.declared.queries.krate_nodes.KrateMatch.{KrateMatch}
use Rattle.krates_answers.specs.Meaning.{AreParted, Means, MeansKept, kept_in}
use Rattle.krates_answers.specs.Naming.{TellsNotKept, TellsSeveral}
use Rattle.krates_answers.proofs.MeantLemmas.{empty, one_of}
use Rattle.krates_answers.proofs.NamingLemmas.{none_only_memory_kept, not_kept_told, only_memory_kept, several_kept_told}
use Rattle.krates_answers.proofs.meaning.Packages.one.Goals as goal

pub returns-in_err-found-clause-only_memory : goal.returns-in_err-found-clause-only_memory
returns-in_err-found-clause-only_memory c = λ m one.
    let p = err_from_is_err_and c.from_residual.result c.from_residual.ensures.1 in
    rw (p.1, p.2) (none_only_memory_kept c.args.self.now c.args.word.now c.in_err-found.field-0.0 c.in_err-found.ensures.refused m one)

pub returns-then-len-gt1-clause-refused : goal.returns-then-len-gt1-clause-refused
returns-then-len-gt1-clause-refused c =
    let p = c.args.self.now in
    let word = c.args.word.now in
    let found = c.in_ok-found.found in
    let now = λ (pkg : Bor Package). pkg.now in
    several_kept_told p word c.in_ok-several.field-0 (map match_view found.kept.items) (map now found.others.items) c.in_ok-found.ensures.meant
    (omega (arith, c.if-len-gt1.true, c.len.ensures, found.kept.ok.0, length-map found.kept.items match_view))
    (subst (λ (all : List Package). TellsSeveral p word all c.in_ok-several.field-0) (ap (map now) c.deref.ensures.value ∙ c.in_ok-crates.ensures) c.in_ok-several.ensures)

pub returns-then-len-gt1-clause-only_memory : goal.returns-then-len-gt1-clause-only_memory
returns-then-len-gt1-clause-only_memory c = λ m one.
    only_memory_kept c.args.self.now c.args.word.now c.in_ok-several.field-0 (returns-then-len-gt1-clause-refused c) m one

pub returns-in-Some-clause-one : goal.returns-in-Some-clause-one
returns-in-Some-clause-one c =
    let p = c.args.self.now in
    let found = c.in_ok-found.found in
    one_of match_view (MeansKept p c.args.word.now) (kept_in p) found.kept.items c.pop.new.self.items c.in-Some.krate c.in_ok-found.ensures.meant.kept_ones c.in-Some.ensures.items
    (omega (arith, c.if-len-gt1.false, c.len.ensures, found.kept.ok.0))

pub returns-clause-refused : goal.returns-clause-refused
returns-clause-refused c =
    let p = c.args.self.now in
    let word = c.args.word.now in
    let found = c.in_ok-found.found in
    let now = λ (pkg : Bor Package). pkg.now in
    let none = empty found.kept.items (omega (arith, c.in-None.ensures.cases.0, found.kept.ok.0)) in
    not_kept_told p word c.in_ok-not_kept-in-None.field-0 (map now found.others.items)
    (subst (λ (ks : List (KrateMatch Package)). AreParted (Means p word) p (map match_view ks) (map now found.others.items)) none c.in_ok-found.ensures.meant)
    (omega (arith, c.in_ok-found.ensures.some, ap (length {A = KrateMatch Package}) none, length-map found.others.items now))
    (subst (λ (all : List Package). TellsNotKept p word all c.in_ok-not_kept-in-None.field-0) (ap (map now) c.deref-in-None.ensures.value) c.in_ok-not_kept-in-None.ensures)

pub returns-clause-only_memory : goal.returns-clause-only_memory
returns-clause-only_memory c = λ m one.
    only_memory_kept c.args.self.now c.args.word.now c.in_ok-not_kept-in-None.field-0 (returns-clause-refused c) m one
