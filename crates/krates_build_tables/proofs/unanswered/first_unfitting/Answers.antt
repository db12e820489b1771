use Rattle.std.proofs.Common.{arith, refl}
use Rattle.krates_ids.specs.PackageSpecification.{spec_view}
use Rattle.krates_questions.specs.Lookup.{resolved_view}
use Rattle.krates_rules.proofs.Seen.{each_seen}
use Rattle.krates_units.specs.Answered.{NamesPackage}
use Rattle.krates_build_tables.proofs.FirstWithout.{first_without}
use Rattle.krates_build_tables.proofs.unanswered.first_unfitting.Goals as goal

pub returns-then-not-names_package : goal.returns-then-not-names_package
returns-then-not-names_package c =
    first_without spec_view (NamesPackage (resolved_view c.args.document.now)) c.args.specs.now c.loop-spec.spec-index c.spec-item.result (omega arith) c.spec-item.is c.loop-spec.invariant
    (λ named. absurd (cc (c.names_package.ensures.1 named, c.if-not-names_package.true)))

pub returns : goal.returns
returns c = each_seen spec_view (NamesPackage (resolved_view c.args.document.now)) c.args.specs.now c.args.specs.now c.loop-spec.spec-index refl (omega arith) c.loop-spec.invariant
