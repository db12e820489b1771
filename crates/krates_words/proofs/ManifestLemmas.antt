-- The manifests in the directories that are chosen.
use Rattle.std.proofs.Common.{◌≡◌, ◌++◌, List, [], map, sym, ap, ◌∙◌, subst}
use Rattle.std.specs.Borrow.{Bor}
use Rattle.std.specs.List.{AllZip}
use Rattle.krates_cm.specs.Document.{Text}
use Rattle.krates_rules.specs.Setting.{SettingModel, IsManifestOf, AsksForPaths}

-- where none was set before, they are exactly those of the paths
pub manifests_alone : (old new : SettingModel) (paths : List (Bor Text)) (texts left : List Text) → AsksForPaths old new paths → old.manifests ≡ []
    → map (λ path. path.now) paths ≡ texts → left ≡ new.manifests → AllZip IsManifestOf texts left
manifests_alone old new paths texts left asked none are same =
    let all : left ≡ asked.manifests = same ∙ ap (λ s. s.manifests) asked.appended ∙ ap (λ before. before ++ asked.manifests) none in
    subst (AllZip IsManifestOf texts) (sym all) (subst (λ those. AllZip IsManifestOf those asked.manifests) are asked.meant)
