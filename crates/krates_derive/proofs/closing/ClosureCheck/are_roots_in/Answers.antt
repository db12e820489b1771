use Rattle.std.proofs.Common.{Bor, refl}
use Rattle.krates_ids.specs.Identity.{Identity}
use Rattle.krates_derive.specs.Giving.{RootIn, document_in, facts_in, setting_in}
use Rattle.krates_rules.specs.Facts.{Id}
use Rattle.krates_rules.specs.Resolved.{id_of}
use Rattle.krates_rules.proofs.Elements.{contains_read}
use Rattle.krates_rules.proofs.Seen.{seen_more, each_seen}
use Rattle.krates_derive.proofs.closing.ClosureCheck.are_roots_in.Goals as goal

pub loop-root-preserved : goal.loop-root-preserved
loop-root-preserved c = seen_more (λ (x : Bor Identity). RootIn (document_in c.args.self.now) (setting_in c.args.self.now) (facts_in c.args.self.now) (id_of x.now)) c.args.roots.now c.loop-root.root-index c.root-item.result c.loop-root-test.true c.root-item.is c.loop-root.invariant (c.is_root_in.ensures.0 c.if-not-is_root_in.false)

pub returns-then-not-is_root_in : goal.returns-then-not-is_root_in
returns-then-not-is_root_in c = (λ t. absurd cc, λ all. absurd (let told = all (id_of c.root-item.result.now) (contains_read (λ (k : Bor Identity). id_of k.now) c.args.roots.now c.loop-root.root-index c.root-item.result c.loop-root-test.true c.root-item.is) in cc (c.is_root_in.ensures.1 told, c.if-not-is_root_in.true)))

pub returns : goal.returns
returns c = (
  λ t y h. each_seen (λ (k : Bor Identity). id_of k.now) (λ (y : Id). RootIn (document_in c.args.self.now) (setting_in c.args.self.now) (facts_in c.args.self.now) (y)) c.args.roots.now c.args.roots.now c.loop-root.root-index refl c.loop-root-test.false c.loop-root.invariant y (h),
  λ all. refl,
)
