use Rattle.std.proofs.Common.{◌≡◌, map, take}
use Rattle.krates_cm.specs.Document.{id_view}
use Rattle.krates_cm.specs.Queries.{packages_among}
use Rattle.krates_cm.proofs.queries.among.Given as goal

-- the packages found among those so far
abbrev pub invariant-loop-pkg : goal.invariant-loop-pkg
invariant-loop-pkg l = map (λ p. p.now) l.found.items ≡ packages_among (take l.pkg-index l.packages) (map id_view l.ids)
