use Rattle.std.proofs.Common.{Contains, arith}
use Rattle.krates_cm.specs.Document.{metadata_view}
use Rattle.krates_rules.specs.Admission.{package_texts}
use Rattle.krates_rules.specs.Resolved.{id_of}
use Rattle.krates_verdict.proofs.OwnIds.{among, copied, passed_none}
use Rattle.krates_verdict.proofs.named_fact.own_id.Goals as goal

pub returns-then-branch-clause-own : goal.returns-then-branch-clause-own
returns-then-branch-clause-own c =
    let m = c.args.metadata.now in
    let pkg = c.pkg-item.result in
    copied _ pkg.id c.clone.result (Contains (package_texts (metadata_view m)))
    (among m c.deref-pkg-items.result.now c.loop-pkg.pkg-index pkg c.deref-pkg-items.ensures.value c.loop-pkg-test.true c.pkg-item.is) c.clone.ensures.cases

pub unreachable-requires : goal.unreachable-requires
unreachable-requires c =
    passed_none c.args.metadata.now c.deref-pkg-items.result.now c.loop-pkg.pkg-index (id_of c.args.krate.now) c.deref-pkg-items.ensures.value (omega arith) c.requires c.loop-pkg.invariant
