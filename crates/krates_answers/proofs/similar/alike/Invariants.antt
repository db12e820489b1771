use Rattle.std.proofs.Common.{All, Contains, map, string_bytes}
use Rattle.krates_answers.specs.PackageText.{named}
use Rattle.krates_answers.proofs.similar.alike.Given as goal

-- the texts so far are those of packages
abbrev pub invariant-loop-pkg : goal.invariant-loop-pkg
invariant-loop-pkg l = All (Contains (map named (map (λ pkg. pkg.now) l.packages))) (map string_bytes l.texts.items)
