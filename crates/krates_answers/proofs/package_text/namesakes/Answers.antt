use Rattle.std.proofs.Common.{◌<◌, Bor, arith, length, refl, sym, true≢false, ◌∙◌, []}
use Rattle.krates_cm.specs.declared.package.Package.{Package}
use Rattle.krates_answers.specs.Those.{none}
use Rattle.krates_answers.proofs.TakenLemmas.{counted_leaves, counted_takes}
use Rattle.krates_answers.proofs.package_text.namesakes.Goals.{else-is_namesake, then-is_namesake}
use Rattle.krates_answers.proofs.package_text.namesakes.Goals as goal

pub loop-other-init : goal.loop-other-init
loop-other-init c = (([], none, refl), search arith)

pub loop-other-preserved : goal.loop-other-preserved
loop-other-preserved c =
    let l = c.loop-other in
    let packages = c.args.packages.now in
    let now = λ (pkg : Bor Package). pkg.now in
    let lt : l.other-index < length packages = omega (arith, c.loop-other-test.true) in
    elim c.if-is_namesake.branch [
      | then-is_namesake w ↦ (
        counted_takes now packages l.other-index c.other-item.result l.count c.if-is_namesake.count lt c.other-item.is l.invariant.0 (c.is_namesake.ensures.0 w.if-is_namesake.true) w.count-is,
        omega (arith, w.count-is, l.invariant.1),
      )
      | else-is_namesake w ↦ (
        counted_leaves now packages l.other-index c.other-item.result l.count c.if-is_namesake.count lt c.other-item.is l.invariant.0
            (λ same. true≢false (sym (c.is_namesake.ensures.1 same) ∙ w.if-is_namesake.false)) w.count-is,
        omega (arith, w.count-is, l.invariant.1),
      )
    ]
