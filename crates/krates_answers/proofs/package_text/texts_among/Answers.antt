use Rattle.std.proofs.Common.{◌<◌, Bor, Global, arith, length, map, string_bytes}
use Rattle.krates_cm.specs.declared.package.Package.{Package}
use Rattle.krates_answers.specs.PackageText.{IsTextAmong}
use Rattle.krates_answers.proofs.PackageTextLemmas.{zip_taken}
use Rattle.krates_answers.proofs.package_text.texts_among.Goals as goal

pub loop-pkg-preserved : goal.loop-pkg-preserved
loop-pkg-preserved c =
    let l = c.loop-pkg in
    let now = λ (pkg : Bor Package). pkg.now in
    let lt : l.pkg-index < length c.args.told.now = omega (arith, c.loop-pkg-test.true) in
    zip_taken (IsTextAmong (map now c.args.packages.now)) now c.args.told.now l.pkg-index c.pkg-item.result (string_bytes {Z = Global}) l.texts.items c.push.new.self.items c.in_ok-text_among.field-0
    lt c.pkg-item.is l.invariant c.in_ok-text_among.ensures c.in_ok-push.ensures.items
