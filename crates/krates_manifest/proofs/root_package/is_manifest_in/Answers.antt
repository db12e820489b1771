use Rattle.krates_cm.proofs.QueryLemmas.{manifest_told}
use Rattle.krates_manifest.proofs.root_package.is_manifest_in.Goals as goal

pub returns-then-same : goal.returns-then-same
returns-then-same c =
    let same = c.same.ensures.0 c.if-same.true in
    manifest_told c.args.directory.now c.args.path.now c.in-Some.parent.now c.ends_with.result c.in-Some.ensures same c.ends_with.ensures
