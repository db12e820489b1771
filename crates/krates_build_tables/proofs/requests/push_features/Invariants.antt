use Rattle.std.proofs.Common.{◌≡◌, ◌++◌, map}
use Rattle.krates_cm.specs.Document.{text_view}
use Rattle.krates_text.specs.FeatureReference.{simple}
use Rattle.krates_build_tables.specs.References.{reference_view}
use Rattle.krates_build_tables.proofs.requests.push_features.Given as goal

-- the features so far are added
abbrev pub invariant-loop-name : goal.invariant-loop-name
invariant-loop-name l = map reference_view l.requested.items ≡ map reference_view l.initial.requested.items ++ map (λ k. simple (text_view k.now)) l.yielded
