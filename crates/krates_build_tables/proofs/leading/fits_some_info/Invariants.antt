use Rattle.krates_cm.specs.Document.{dep_kind_info_view, dependency_view}
use Rattle.krates_cm.specs.declared.resolve.DepKindInfo.{DepKindInfo}
use Rattle.krates_rules.proofs.Seen.{SeenBelow}
use Rattle.krates_build_tables.specs.Pairs.{FitsInfo}
use Rattle.krates_build_tables.proofs.leading.fits_some_info.Given as goal

-- the dependency is of none so far
abbrev pub invariant-loop-info : goal.invariant-loop-info
invariant-loop-info l = SeenBelow (λ (k : DepKindInfo). FitsInfo (dep_kind_info_view k) (dependency_view l.declared) → ⊥) l.infos l.info-index
