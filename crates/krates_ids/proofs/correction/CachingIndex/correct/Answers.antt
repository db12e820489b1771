use Rattle.std.proofs.Common.{refl}
use Rattle.krates_cm.specs.Document.{features_view}
use Rattle.krates_ids.specs.Correction.{known}
use Rattle.krates_ids.proofs.correction.CachingIndex.correct.Goals as goal

pub returns-in_ok-corrected-clause-corrected : goal.returns-in_ok-corrected-clause-corrected
returns-in_ok-corrected-clause-corrected c = known (features_view c.in-Some.features.now) c.in-Some.ensures c.in_ok-corrected.ensures refl
