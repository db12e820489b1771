use Rattle.std.proofs.Common.{◌≢◌}
use Rattle.std.specs.List.{AllWithin}
use Rattle.semver.specs.Identifiers.{parts_of}
use Rattle.krates_ids.proofs.correction.features_of.Given as goal

abbrev pub invariant-loop-indexed : goal.invariant-loop-indexed
invariant-loop-indexed l = AllWithin (λ v. parts_of v.version ≢ parts_of l.version) l.versions 0 l.indexed-index
