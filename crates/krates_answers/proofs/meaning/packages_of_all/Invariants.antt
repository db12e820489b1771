use Rattle.std.proofs.Common.{◌≡◌, ◌++◌, map, take}
use Rattle.krates_queries.specs.KrateNodes.{match_view}
use Rattle.krates_answers.proofs.meaning.packages_of_all.Given as goal

-- the kept ones, and the others so far
abbrev pub invariant-loop-pkg : goal.invariant-loop-pkg
invariant-loop-pkg l = map (λ pkg. pkg.now) l.packages.items ≡ map (λ m. m.krate) (map match_view l.crates) ++ map (λ pkg. pkg.now) (take l.pkg-index l.others)
