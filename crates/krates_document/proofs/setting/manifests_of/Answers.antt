use Rattle.std.proofs.Common.{map, arith}
use Rattle.std.proofs.lemmas.List.{map-append}
use Rattle.std.specs.Borrow.{Bor}
use Rattle.krates_cm.specs.Document.{Text, text_view}
use Rattle.krates_rules.specs.Setting.{IsManifestOf}
use Rattle.krates_rules.proofs.Zips.{zip_read, zip_all}
use Rattle.krates_document.proofs.setting.manifests_of.Goals as goal

pub loop-path-preserved : goal.loop-path-preserved
loop-path-preserved c =
    let l = c.loop-path in
    rw (c.in_ok-push.ensures.items, map-append) (zip_read IsManifestOf (λ (path : Bor Text). path.now) c.args.paths.now l.path-index _ (map text_view l.manifests.items) (text_view c.in_ok-manifest_of.field-0)
    (omega arith) c.in_ok-manifest_of.ensures l.invariant)

pub returns : goal.returns
returns c = zip_all IsManifestOf (λ (path : Bor Text). path.now) c.args.paths.now c.loop-path.path-index (map text_view c.loop-path.manifests.items) (omega arith) c.loop-path.invariant
