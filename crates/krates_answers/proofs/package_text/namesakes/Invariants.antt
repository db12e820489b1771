use Rattle.std.proofs.Common.{◌≡◌, ◌≤◌, List, length, map, take}
use Rattle.krates_cm.specs.declared.package.Package.{Package}
use Rattle.krates_answers.specs.PackageText.{IsNamesake}
use Rattle.krates_answers.specs.Those.{AreThose}
use Rattle.krates_answers.proofs.package_text.namesakes.Given as goal

-- the namesakes among the packages so far
abbrev pub invariant-loop-other : goal.invariant-loop-other
invariant-loop-other l =
    ((those : List Package) × AreThose (IsNamesake l.pkg) (map (λ pkg. pkg.now) (take l.other-index l.packages)) those × (l.count ≡ length those))
    × (l.count ≤ l.other-index)
