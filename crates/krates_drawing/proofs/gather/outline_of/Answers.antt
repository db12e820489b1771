use Rattle.std.proofs.Common.{All, List, length, subst, sym}
use Rattle.krates_questions.specs.Lookup.{resolved_view}
use Rattle.krates_selection.specs.Selection.{HasHome}
use Rattle.krates_drawing.specs.Gathered.{IsBetween}
use Rattle.krates_drawing.specs.declared.gather.CrateRecord.{CrateRecord}
use Rattle.krates_drawing.proofs.Gathering.{each_stands, edges_between, features_home, gathered, gathered_by_reading, ordered, same_kids, worked}
use Rattle.krates_drawing.proofs.gather.outline_of.Goals as goal

pub records_of-requires : goal.records_of-requires
records_of-requires c = each_stands (resolved_view c.args.document.now) c.args.setting.now c.args.selection c.requires.selected

pub edge_rows-requires : goal.edge_rows-requires
edge_rows-requires c =
    let r = resolved_view c.args.document.now in
    subst (λ (rs : List CrateRecord). All (IsBetween r rs) c.args.selection.edges.items) (sym c.deref.ensures.value)
    (edges_between r c.args.setting.now c.args.selection c.in_ok-records.records.items c.agrees.ensures.distinct c.requires.selected c.in_ok-records.ensures)

pub feature_rows-requires : goal.feature_rows-requires
feature_rows-requires c =
    subst (λ (rs : List CrateRecord). All (HasHome (length rs)) c.args.selection.features.items) (sym c.deref-2.ensures.value)
    (features_home (resolved_view c.args.document.now) c.args.setting.now c.args.selection c.in_ok-records.records.items c.requires.selected c.in_ok-records.ensures)

pub invariant_of-result : goal.invariant_of-result
invariant_of-result c =
    let those = gathered_by_reading _ _ _ _ _ _ _ c.deref.ensures.value c.deref-2.ensures.value c.in_ok-records.ensures c.in_ok-krates.ensures c.in_ok-links.ensures c.in_ok-features.ensures in
    record { ordered = ordered _ _ _ _ c.in_ok-krates.krates c.in_ok-links.links c.in_ok-features.features c.requires.selected those }

pub returns-clause-outline : goal.returns-clause-outline
returns-clause-outline c =
    gathered _ _ _ _ c.in_ok-krates.krates c.in_ok-links.links c.in_ok-features.features c.requires.selected
    (gathered_by_reading _ _ _ _ _ _ _ c.deref.ensures.value c.deref-2.ensures.value c.in_ok-records.ensures c.in_ok-krates.ensures c.in_ok-links.ensures c.in_ok-features.ensures) c.agrees.ensures.distinct

pub returns-clause-krates : goal.returns-clause-krates
returns-clause-krates c =
    same_kids _ _ _ _ c.in_ok-krates.krates c.in_ok-links.links c.in_ok-features.features c.requires.selected
    (gathered_by_reading _ _ _ _ _ _ _ c.deref.ensures.value c.deref-2.ensures.value c.in_ok-records.ensures c.in_ok-krates.ensures c.in_ok-links.ensures c.in_ok-features.ensures)

pub returns-clause-work : goal.returns-clause-work
returns-clause-work c =
    worked _ _ _ _ c.in_ok-krates.krates c.in_ok-links.links c.in_ok-features.features c.requires.selected
    (gathered_by_reading _ _ _ _ _ _ _ c.deref.ensures.value c.deref-2.ensures.value c.in_ok-records.ensures c.in_ok-krates.ensures c.in_ok-links.ensures c.in_ok-features.ensures) c.one_reference.ensures c.agrees.ensures.distinct
