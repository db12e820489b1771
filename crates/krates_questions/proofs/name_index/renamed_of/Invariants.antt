use Rattle.std.proofs.Common.{map}
use Rattle.krates_cm.specs.Document.{node_dep_view, package_view}
use Rattle.krates_questions.specs.NameIndex.{IsRenamedAt}
use Rattle.krates_questions.proofs.RenamedPlaces.{StandBelow}
use Rattle.krates_questions.proofs.name_index.renamed_of.Given as goal

-- those so far are listed under the names of their packages
abbrev pub invariant-loop-place : goal.invariant-loop-place
invariant-loop-place l =
    StandBelow (IsRenamedAt (map package_view l.libraries.packages.now) l.libraries.table.now.packages.items (map node_dep_view l.deps) l.children.numbers.now) l.children.ids.now l.named.items l.place
