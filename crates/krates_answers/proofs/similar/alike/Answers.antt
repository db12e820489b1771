use Rattle.std.proofs.Common.{◌<◌, Bor, Contains, Global, arith, length, map, string_bytes}
use Rattle.krates_cm.specs.declared.package.Package.{Package}
use Rattle.krates_answers.specs.PackageText.{named}
use Rattle.krates_answers.proofs.PackageTextLemmas.{all_pushed, named_among}
use Rattle.krates_answers.proofs.similar.alike.Goals.{else-len-lt-NEAR, then-len-lt-NEAR+in_ok-holds+then-branch+in_ok-named+in_ok-push}
use Rattle.krates_answers.proofs.similar.alike.Goals as goal

pub loop-pkg-preserved : goal.loop-pkg-preserved
loop-pkg-preserved c =
    let l = c.loop-pkg in
    let packages = c.args.packages.now in
    let lt : l.pkg-index < length packages = omega (arith, c.loop-pkg-test.true) in
    elim c.if-len-lt-NEAR.branch [
      | then-len-lt-NEAR+in_ok-holds+then-branch+in_ok-named+in_ok-push w ↦ rw w.texts-is (all_pushed (Contains (map named (map (λ (pkg : Bor Package). pkg.now) packages))) (string_bytes {Z = Global})
          l.texts.items w.push.new.self.items w.in_ok-named.field-0 l.invariant
          (named_among packages l.pkg-index c.pkg-item.result (string_bytes w.in_ok-named.field-0) lt c.pkg-item.is w.in_ok-named.ensures) w.in_ok-push.ensures.items)
      | else-len-lt-NEAR w ↦ rw w.texts-is l.invariant
    ]
