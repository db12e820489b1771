use Rattle.std.proofs.Common.{map, string_bytes, take}
use Rattle.std.specs.List.{AllZip}
use Rattle.krates_answers.specs.PackageText.{IsTextAmong}
use Rattle.krates_answers.proofs.package_text.texts_among.Given as goal

-- a text for each package so far
abbrev pub invariant-loop-pkg : goal.invariant-loop-pkg
invariant-loop-pkg l = AllZip (IsTextAmong (map (λ pkg. pkg.now) l.packages)) (map (λ pkg. pkg.now) (take l.pkg-index l.told)) (map string_bytes l.texts.items)
