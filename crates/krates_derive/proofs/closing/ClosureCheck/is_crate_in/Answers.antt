use Rattle.std.proofs.Common.{false, refl}
use Rattle.krates_cm.specs.Document.{DepKindInfoModel}
use Rattle.krates_ids.specs.Identity.{Identity}
use Rattle.krates_derive.specs.Giving.{EdgeIn, document_in, facts_in, setting_in}
use Rattle.krates_rules.specs.Facts.{Id}
use Rattle.krates_rules.specs.Questions.{edge_between}
use Rattle.krates_rules.specs.Resolved.{id_of}
use Rattle.krates_derive.proofs.Givings.{edge_of_child}
use Rattle.krates_rules.proofs.Seen.{seen_more, each_seen}
use Rattle.krates_derive.proofs.closing.ClosureCheck.is_crate_in.Goals as goal

pub loop-child-preserved : goal.loop-child-preserved
loop-child-preserved c =
    let P = λ (x : Identity). (k : DepKindInfoModel) → EdgeIn (document_in c.args.self.now) (setting_in c.args.self.now) (facts_in c.args.self.now) (edge_between (id_of c.args.krate.now) (id_of x) k) false in
    seen_more P c.children-child-items.result.now c.loop-child.child-index c.child-item.result c.loop-child-test.true c.child-item.is c.loop-child.invariant (c.in_ok-are_edges_in.ensures.0 c.if-not-branch.false)

pub returns-then-not-branch : goal.returns-then-not-branch
returns-then-not-branch c = (λ t. absurd cc, λ all. absurd (cc (c.in_ok-are_edges_in.ensures.1 (λ k. all (id_of c.child-item.result) k), c.if-not-branch.true)))

pub returns : goal.returns
returns c = (
  λ t child k. edge_of_child (document_in c.args.self.now) (setting_in c.args.self.now) (facts_in c.args.self.now) (id_of c.args.krate.now) child k false (λ h.
      each_seen id_of (λ (x : Id). (k : DepKindInfoModel) → EdgeIn (document_in c.args.self.now) (setting_in c.args.self.now) (facts_in c.args.self.now) (edge_between (id_of c.args.krate.now) x k) false)
      c.children-child-items.result.now c.children-child-items.result.now c.loop-child.child-index refl c.loop-child-test.false c.loop-child.invariant child ((c.children-child-items.ensures child).0 h) k),
  λ all. refl,
)
