use Rattle.krates_document.specs.CorrectedDocument.{IsCorrectedPackage}
use Rattle.krates_document.proofs.ChangedPlaces.{SoFar}
use Rattle.krates_document.proofs.corrected_document.corrected.Given as goal

-- the packages so far are corrected
abbrev pub invariant-loop-pkg : goal.invariant-loop-pkg
invariant-loop-pkg l = SoFar (IsCorrectedPackage l.index.answer) l.pkg-index l.fn.metadata.packages.items l.pkg-items
