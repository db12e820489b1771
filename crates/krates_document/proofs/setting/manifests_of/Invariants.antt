use Rattle.std.proofs.Common.{map, take}
use Rattle.std.specs.List.{AllZip}
use Rattle.krates_cm.specs.Document.{text_view}
use Rattle.krates_rules.specs.Setting.{IsManifestOf}
use Rattle.krates_document.proofs.setting.manifests_of.Given as goal

-- the manifests of the paths so far
abbrev pub invariant-loop-path : goal.invariant-loop-path
invariant-loop-path l = AllZip IsManifestOf (map (λ path. path.now) (take l.path-index l.paths)) (map text_view l.manifests.items)
