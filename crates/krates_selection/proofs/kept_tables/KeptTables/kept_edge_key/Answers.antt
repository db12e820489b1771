use Rattle.std.proofs.Common.{◌∙◌, ap}
use Rattle.krates_cm.specs.Document.{DepKindInfoModel}
use Rattle.krates_selection.proofs.KeyedFacts.{edge_same}
use Rattle.krates_rules.proofs.KeyOrder.{written_back}
use Rattle.krates_rules.specs.Kind.{written_of}
use Rattle.krates_selection.proofs.kept_tables.KeptTables.kept_edge_key.Goals as goal

pub child_at-requires : goal.child_at-requires
child_at-requires c =
    let k = c.requires.kept in
    record { kept = record { parent = k.edge.parent; child = k.edge.child; at = k.at.dep; kept = k.child } }

pub returns : goal.returns
returns c = record {
  is = λ e at. (
      let info = c.edge_info-info.ensures e at in
      edge_same c.args.self.now.krates.now c.crate_at.result c.child_at.result (written_of c.from.result) _ e (c.crate_at.ensures.is e.parent at.dep.node) (c.child_at.ensures.is e.parent e.child at.dep)
      (ap written_of c.from.ensures ∙ written_back c.edge_info-info.result.now.kind ∙ ap (λ (k : DepKindInfoModel). k.kind) info) (ap (λ (k : DepKindInfoModel). k.target) info));
  below = (c.crate_at.ensures.below, c.child_at.ensures.below);
}
