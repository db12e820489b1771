-- Crates with a label that each has.
use Rattle.krates_cm.specs.Document.{Text}
use Rattle.krates_cm.specs.declared.package.Package.{Package}
use Rattle.krates_queries.specs.KrateNodes.{Match}

-- a crate with the label of its package
abbrev pub with_label : (Package → Text) → Match Package → Text × Match Package
with_label label m = (label m.krate, m)
