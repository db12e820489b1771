use Rattle.std.proofs.Common.{refl, sym, subst}
use Rattle.krates_cm.specs.Document.{DepKindInfoModel, dep_kind_info_view}
use Rattle.krates_cm.specs.declared.resolve.DepKindInfo.{DepKindInfo}
use Rattle.krates_derive.specs.Giving.{EdgeIn, document_in, facts_in, setting_in}
use Rattle.krates_rules.specs.Facts.{Edge}
use Rattle.krates_rules.specs.Questions.{edge_between}
use Rattle.krates_rules.specs.Resolved.{id_of}
use Rattle.krates_derive.proofs.Givings.{edge_listed}
use Rattle.krates_rules.proofs.Seen.{seen_more, each_seen}
use Rattle.krates_derive.proofs.closing.ClosureCheck.are_edges_in.Goals as goal

pub loop-info-preserved : goal.loop-info-preserved
loop-info-preserved c =
    let P = λ (x : DepKindInfo). EdgeIn (document_in c.args.self.now) (setting_in c.args.self.now) (facts_in c.args.self.now) (edge_between (id_of c.args.krate.now) (id_of c.args.child.now) (dep_kind_info_view x)) c.args.asked in
    let told = subst (λ (e : Edge). EdgeIn (document_in c.args.self.now) (setting_in c.args.self.now) (facts_in c.args.self.now) e c.args.asked) c.between-edge.ensures (c.in_ok-is_edge_in.ensures.0 c.if-not-branch.false) in
    seen_more P c.kinds-info-items.result.now c.loop-info.info-index c.info-item.result c.loop-info-test.true c.info-item.is c.loop-info.invariant told

pub returns-then-not-branch : goal.returns-then-not-branch
returns-then-not-branch c = (
  λ t. absurd cc,
  λ all. absurd (
      let told = subst (λ (e : Edge). EdgeIn (document_in c.args.self.now) (setting_in c.args.self.now) (facts_in c.args.self.now) e c.args.asked) (sym c.between-edge.ensures) (all (dep_kind_info_view c.info-item.result)) in
      cc (c.in_ok-is_edge_in.ensures.1 told, c.if-not-branch.true)),
)

pub returns : goal.returns
returns c = (
  λ t k. edge_listed (document_in c.args.self.now) (setting_in c.args.self.now) (facts_in c.args.self.now) (id_of c.args.krate.now) (id_of c.args.child.now) k c.args.asked (λ l.
      each_seen dep_kind_info_view (λ (k : DepKindInfoModel). EdgeIn (document_in c.args.self.now) (setting_in c.args.self.now) (facts_in c.args.self.now) (edge_between (id_of c.args.krate.now) (id_of c.args.child.now) k) c.args.asked)
      c.kinds-info-items.result.now c.kinds-info-items.result.now c.loop-info.info-index refl c.loop-info-test.false c.loop-info.invariant k ((c.kinds-info-items.ensures k).0 l)),
  λ all. refl,
)
