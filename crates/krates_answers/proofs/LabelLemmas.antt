-- Crates that were found, each with its label.
use Rattle.std.proofs.Common.{◌≡◌, List, [], ◌∷◌, map, refl, ap}
use Rattle.krates_cm.specs.Document.{Text}
use Rattle.krates_cm.specs.declared.package.Package.{Package}
use Rattle.krates_queries.specs.KrateNodes.{Match, match_view}
use Rattle.krates_queries.specs.declared.queries.krate_nodes.KrateMatch.{KrateMatch}
use Rattle.krates_answers.specs.Labelled.{with_label}
use Rattle.krates_answers.proofs.GroupsSeen.{seen_item}

-- a crate with the label of its package
abbrev pub found_with_label : (Package → Text) → KrateMatch Package → Text × KrateMatch Package
found_with_label label m = (label m.krate.now, m)

-- they are seen as crates with their labels
pub seen_with_label : (label : Package → Text) (ms : List (KrateMatch Package)) → map (seen_item match_view) (map (found_with_label label) ms) ≡ map (with_label label) (map match_view ms)
seen_with_label label [] = refl
seen_with_label label (m ∷ ms) = ap (λ (ns : List (Text × Match Package)). with_label label (match_view m) ∷ ns) (seen_with_label label ms)
