use Rattle.krates_cm.specs.Document.{Text, features_view}
use Rattle.krates_ids.specs.Correction.{named}
use Rattle.krates_ids.proofs.CorrectionLemmas.{entries_view}
use Rattle.krates_build_tables.specs.FeatureLists.{Keeps, under}
use Rattle.krates_build_tables.proofs.features.read_features.Given as goal

abbrev pub invariant-loop-name : goal.invariant-loop-name
invariant-loop-name l = (f : Text) → Keeps (named (features_view l.features) f) (named (entries_view l.name-iterator) f) (under f l.read)
