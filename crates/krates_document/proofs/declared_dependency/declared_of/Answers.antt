use Rattle.std.proofs.Common.{◌+◌, ℕ, Bool, Bor, List, false, true, None, Some, refl, ap, not, ◌∙◌, map}
use Rattle.krates_cm.specs.Document.{dependency_view}
use Rattle.krates_cm.specs.declared.dependency.Dependency.{Dependency}
use Rattle.krates_document.specs.DeclaredPlaces.{among, entry_in, kind_in}
use Rattle.krates_document.specs.declared.declared_dependency.Sought.{Sought}
use Rattle.krates_document.specs.declared.declared_dependency.Wanted.{Wanted}
use Rattle.krates_document.proofs.DeclaredOnce.{none_fits, first_of_source}
use Rattle.krates_document.proofs.LeastFitting.{first_least, one_found, several_found}
use Rattle.krates_document.proofs.declared_dependency.declared_of.Goals as goal

abbrev wanted_of : Bor (List Dependency) → Bor Sought → ℕ → Bool → Wanted
wanted_of declared sought from by_source = record { declared = declared; sought = sought; from = from; by_source = by_source }

pub returns-in_err-first-clause-first : goal.returns-in_err-first-clause-first
returns-in_err-first-clause-first c =
    rw c.from_residual.ensures (none_fits (map dependency_view c.args.declared.now) (entry_in c.args.sought.now) (kind_in c.args.sought.now)
    (first_least (wanted_of c.args.declared c.args.sought 0 false) c.args.places.now c.candidates_of-candidates.result None c.requires.places c.candidates_of-candidates.ensures refl c.in_err-first.ensures.least))

pub returns-then-is_none-clause-first : goal.returns-then-is_none-clause-first
returns-then-is_none-clause-first c =
    let first = first_least (wanted_of c.args.declared c.args.sought 0 false) c.args.places.now c.candidates_of-candidates.result (Some c.in_ok-first.first) c.requires.places c.candidates_of-candidates.ensures refl c.in_ok-first.ensures.least in
    (first.0, one_found (wanted_of c.args.declared c.args.sought (c.in_ok-first.first + 1) false) c.args.places.now c.candidates_of-candidates.result c.in_ok-first.first first.0 c.least_fitting-2.result c.requires.places c.candidates_of-candidates.ensures refl refl first.1 c.least_fitting-2.ensures.least (c.is_none.ensures ∙ ap not c.if-is_none.true))

pub returns-clause-first : goal.returns-clause-first
returns-clause-first c =
    let first = first_least (wanted_of c.args.declared c.args.sought 0 false) c.args.places.now c.candidates_of-candidates.result (Some c.in_ok-first.first) c.requires.places c.candidates_of-candidates.ensures refl c.in_ok-first.ensures.least in
    let several = several_found (wanted_of c.args.declared c.args.sought (c.in_ok-first.first + 1) false) (among c.candidates_of-candidates.result) c.in_ok-first.first first.0 c.least_fitting-2.result refl first.1 c.least_fitting-2.ensures.least (c.is_none.ensures ∙ ap not c.if-is_none.false) in
    first_of_source (map dependency_view c.args.declared.now) (entry_in c.args.sought.now) (kind_in c.args.sought.now) c.least_fitting-3.result several
    (first_least (wanted_of c.args.declared c.args.sought 0 true) c.args.places.now c.candidates_of-candidates.result c.least_fitting-3.result c.requires.places c.candidates_of-candidates.ensures refl c.least_fitting-3.ensures.least)
