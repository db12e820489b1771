use Rattle.std.proofs.Common.{◌≡◌, ◌+◌, ◌∷◌, [], ◌++◌, option_map, rules, refl, sym, subst, take, arith}
use Rattle.std.specs.List.{AllZip}
use Rattle.krates_cm.specs.Document.{text_view}
use Rattle.krates_rules.specs.Resolved.{id_of}
use Rattle.krates_selection.proofs.ByNumber.{all_item, zip_more, zip_whole}
use Rattle.krates_selection.specs.KeptTables.{kids_in}
use Rattle.krates_selection.specs.Selection.{id_at}
use Rattle.krates_selection.specs.declared.selection.KeptEdge.{KeptEdge}
use Rattle.krates_search.proofs.KeptLists.{kept_in_order}
use Rattle.krates_search.specs.KeptLists.{HasKeptNodes, IsCopyOf}
use Rattle.krates_search.proofs.kept_lists.kept_edges.Goals as goal

pub crate_at-parent-requires : goal.crate_at-parent-requires
crate_at-parent-requires c =
    let e = c.edge-item.result in
    let kept = all_item (HasKeptNodes c.args.tables.now.context (kids_in c.args.tables.now)) c.args.found.now c.loop-edge.edge-index e c.requires.kept c.loop-edge-test.true c.edge-item.is in
    record { kept = record { krate = id_of e.parent.now; node = kept.parent; kept = kept.parent_kept } }

pub crate_at-child-requires : goal.crate_at-child-requires
crate_at-child-requires c =
    let e = c.edge-item.result in
    let kept = all_item (HasKeptNodes c.args.tables.now.context (kids_in c.args.tables.now)) c.args.found.now c.loop-edge.edge-index e c.requires.kept c.loop-edge-test.true c.edge-item.is in
    record { kept = record { krate = id_of e.child.now; node = kept.child; kept = kept.child_kept } }

pub loop-edge-preserved : goal.loop-edge-preserved
loop-edge-preserved c =
    let kids = kids_in c.args.tables.now in
    let i = c.loop-edge.edge-index in
    let found = c.args.found.now in
    let e = c.edge-item.result in
    let kept = all_item (HasKeptNodes c.args.tables.now.context kids) found i e c.requires.kept c.loop-edge-test.true c.edge-item.is in
    let k : KeptEdge = record { parent = c.crate_at-parent.result; child = c.crate_at-child.result; place = e.place; kind = e.info.now.kind; cfg = c.in_ok-cfg.cfg; declared = e.declared } in
    let p : id_at kids c.crate_at-parent.result ≡ id_of e.parent.now = c.crate_at-parent.ensures.is (id_of e.parent.now) kept.parent in
    let q : id_at kids c.crate_at-child.result ≡ id_of e.child.now = c.crate_at-child.ensures.is (id_of e.child.now) kept.child in
    let cfg : option_map text_view c.in_ok-cfg.cfg ≡ option_map text_view e.info.now.target = search rules in
    let copy : IsCopyOf kids e k = record { edge = rw (p, q, cfg) refl; ends = record { parent = c.crate_at-parent.ensures.below; child = c.crate_at-child.ensures.below }; place = refl; declared = refl } in
    let pushed : c.push.new.self.items ≡ c.loop-edge.copies.items ++ k ∷ [] = search rules in
    subst (AllZip (IsCopyOf kids) (take (i + 1) found)) (sym pushed) (zip_more (IsCopyOf kids) found i e c.loop-edge.copies.items k c.loop-edge-test.true c.edge-item.is copy c.loop-edge.invariant)

pub returns : goal.returns
returns c =
    let kids = kids_in c.args.tables.now in
    let copied = zip_whole (IsCopyOf kids) c.args.found.now c.loop-edge.edge-index c.loop-edge.copies.items (omega arith) c.loop-edge.invariant in
    kept_in_order c.args.tables.now.context kids c.args.found.now c.loop-edge.copies.items c.in_ok-sorted.sorted.items c.agrees.ensures.distinct c.requires.found copied record {
      ascending = c.in_ok-sorted.ensures.ascending;
      from = c.in_ok-sorted.ensures.from;
      each = c.in_ok-sorted.ensures.kept;
    }
