-- A document with each package corrected by what an index answers.
use Rattle.std.specs.Prelude.{◌≡◌}
use Rattle.std.specs.List.{AllZip}
use Rattle.krates_cm.specs.Document.{package_view}
use Rattle.krates_cm.specs.declared.metadata.Metadata.{Metadata}
use Rattle.krates_cm.specs.declared.package.Package.{Package}
use Rattle.krates_ids.specs.Correction.{IsCorrected, index_view}
use Rattle.krates_ids.specs.declared.index.IndexAnswer.{IndexAnswer}

-- the package is corrected by this answer, and only its features have changed
pub record IsCorrectedPackage (answer : IndexAnswer) (before after : Package) : Type 0 where
  pub corrected : IsCorrected (index_view answer) (package_view before) (package_view after)
  pub nothing_else : after ≡ record before { features = after.features }

-- each package is corrected by this answer, and nothing else in the document has changed
pub record IsCorrectedDocument (answer : IndexAnswer) (before after : Metadata) : Type 0 where
  pub packages : AllZip (IsCorrectedPackage answer) before.packages.items after.packages.items
  pub nothing_else : after ≡ record before { packages = after.packages }
