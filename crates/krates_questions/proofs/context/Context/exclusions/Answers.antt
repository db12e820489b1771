use Rattle.std.proofs.Common.{List, arith, map, subst}
use Rattle.std.specs.List.{AllZip}
use Rattle.krates_cm.specs.Document.{package_view}
use Rattle.krates_cm.specs.declared.package.Package.{Package}
use Rattle.krates_rules.proofs.Zips.{zip_all, zip_next}
use Rattle.krates_questions.specs.Availability.{TellsExcluded}
use Rattle.krates_questions.proofs.context.Context.exclusions.Goals as goal

pub loop-pkg-preserved : goal.loop-pkg-preserved
loop-pkg-preserved c =
    let l = c.loop-pkg in
    rw c.in_ok-push.ensures.items (zip_next (TellsExcluded c.args.self.now.setting.now) package_view c.packages-packages.result.now l.pkg-index c.pkg-item.result l.answers.items c.excludes.result (omega arith) c.pkg-item.is c.excludes.ensures l.invariant)

pub returns : goal.returns
returns c =
    let s = c.args.self.now.setting.now in
    let all = zip_all (TellsExcluded s) package_view c.packages-packages.result.now c.loop-pkg.pkg-index c.loop-pkg.answers.items (omega arith) c.loop-pkg.invariant in
    subst (λ (ps : List Package). AllZip (TellsExcluded s) (map package_view ps) c.loop-pkg.answers.items) c.packages-packages.ensures all
