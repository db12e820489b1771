use Rattle.std.proofs.Common.{refl, arith}
use Rattle.krates_cm.specs.Document.{DepKindInfoModel, dep_kind_info_view, dependency_view}
use Rattle.krates_cm.specs.declared.resolve.DepKindInfo.{DepKindInfo}
use Rattle.krates_rules.proofs.Seen.{each_seen, seen_more}
use Rattle.krates_rules.proofs.Zips.{one_seen}
use Rattle.krates_build_tables.specs.Pairs.{FitsInfo}
use Rattle.krates_build_tables.proofs.leading.fits_some_info.Goals as goal

pub returns : goal.returns
returns c = (
  λ t. absurd cc,
  λ h. absurd (each_seen dep_kind_info_view (λ (k : DepKindInfoModel). FitsInfo k (dependency_view c.args.declared.now) → ⊥) c.args.infos.now c.args.infos.now c.loop-info.info-index refl (omega arith) c.loop-info.invariant h.0 h.1 h.2),
)

pub returns-then-fits_info : goal.returns-then-fits_info
returns-then-fits_info c =
    (λ _. (dep_kind_info_view c.info-item.result, one_seen dep_kind_info_view c.args.infos.now c.loop-info.info-index c.info-item.result (omega arith) c.info-item.is, c.fits_info.ensures.0 c.if-fits_info.true), λ _. refl)

pub loop-info-preserved : goal.loop-info-preserved
loop-info-preserved c =
    seen_more (λ (k : DepKindInfo). FitsInfo (dep_kind_info_view k) (dependency_view c.args.declared.now) → ⊥) c.args.infos.now c.loop-info.info-index c.info-item.result (omega arith) c.info-item.is c.loop-info.invariant
    (λ h. let t = c.fits_info.ensures.1 h in absurd cc)
