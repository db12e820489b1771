use Rattle.krates_cm.proofs.QueryLemmas.{manifest_told}
use Rattle.krates_cm.proofs.queries.is_manifest_in.Goals as goal

pub returns-then-same : goal.returns-then-same
returns-then-same c = manifest_told c.args.directory.now c.args.path.now c.in-Some.parent.now c.ends_with.result c.in-Some.ensures (c.same.ensures.0 c.if-same.true) c.ends_with.ensures
