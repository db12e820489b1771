use Rattle.std.proofs.Common.{[], ◌∷◌}
use Rattle.std.proofs.lemmas.Fn.{FoldsTo-push}
use Rattle.std.proofs.lemmas.List.{map-append}
use Rattle.krates_drawing.specs.declared.division.Krate.{Krate}
use Rattle.krates_drawing.proofs.division.report.Goals as goal

pub loop-other-preserved : goal.loop-other-preserved
loop-other-preserved g c =
    (tt, tt, c.filtered.ensures.again, rw (map-append (λ (k : Krate). k.pkg) c.loop-other.yielded (c.in-Some.other ∷ [])) (FoldsTo-push _ _ _ _ _ _ c.loop-other.invariant.3 c.filtered.ensures.step))
