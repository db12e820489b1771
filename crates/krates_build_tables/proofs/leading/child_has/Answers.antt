use Rattle.std.proofs.Common.{List, map, subst}
use Rattle.krates_cm.specs.Document.{DepKindInfoModel, dep_kind_info_view, dependency_view, node_dep_view}
use Rattle.krates_cm.specs.declared.resolve.DepKindInfo.{DepKindInfo}
use Rattle.krates_questions.specs.Lookup.{resolved_view}
use Rattle.krates_questions.specs.NodeEntry.{child_of, parent_of}
use Rattle.krates_build_tables.specs.Entries.{HasOneThat}
use Rattle.krates_build_tables.specs.Pairs.{FitsInfo}
use Rattle.krates_build_tables.proofs.ChildFeatures.{child_from, child_told}
use Rattle.krates_build_tables.proofs.leading.child_has.Goals as goal

pub returns-then-fits_some_info : goal.returns-then-fits_some_info
returns-then-fits_some_info c =
    let r = resolved_view c.args.document.now in
    let x = c.args.entry.now in
    let dep = node_dep_view x.dep.now in
    let d = dependency_view c.args.declared.now in
    let f = c.args.feature.now in
    let one = c.fits_some_info.ensures.0 c.if-fits_some_info.true in
    let kind = subst (λ (infos : List DepKindInfo). HasOneThat (λ (k : DepKindInfoModel). FitsInfo k d) (map dep_kind_info_view infos)) c.deref.ensures.value one in (
      λ t. child_told r (parent_of x) (child_of x) dep d f (c.has_feature.ensures.0 t),
      λ each. c.has_feature.ensures.1 (child_from r (parent_of x) (child_of x) dep d f (c.fits_child.ensures.0 c.if-fits_child.true) kind each),
    )
