-- How a corrected document relates to the one before it.
use Rattle.std.proofs.Common.{◌≡◌, ap}
use Rattle.std.specs.List.{AllZip}
use Rattle.krates_cm.specs.Document.{metadata_view, package_view}
use Rattle.krates_cm.specs.declared.metadata.Metadata.{Metadata}
use Rattle.krates_ids.specs.Correction.{IsCorrected, index_view}
use Rattle.krates_ids.specs.declared.index.IndexAnswer.{IndexAnswer}
use Rattle.krates_document.specs.CorrectedDocument.{IsCorrectedPackage, IsCorrectedDocument}
use Rattle.krates_rules.proofs.Zips.{zip_mapped}

-- each package is corrected
pub views_corrected : (answer : IndexAnswer) (m p : Metadata) → IsCorrectedDocument answer m p → AllZip (IsCorrected (index_view answer)) (metadata_view m).packages (metadata_view p).packages
views_corrected answer m p h = zip_mapped (IsCorrectedPackage answer) (IsCorrected (index_view answer)) package_view package_view m.packages.items p.packages.items h.packages (λ a b c. c.corrected)

-- nothing but the packages is changed
pub rest_kept : (answer : IndexAnswer) (m p : Metadata) → IsCorrectedDocument answer m p → metadata_view p ≡ record (metadata_view m) { packages = (metadata_view p).packages }
rest_kept answer m p h = ap metadata_view h.nothing_else
