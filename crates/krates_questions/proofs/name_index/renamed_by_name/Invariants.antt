use Rattle.std.proofs.Common.{map}
use Rattle.std.specs.Global.{Vec}
use Rattle.krates_cm.specs.Document.{node_view, package_view}
use Rattle.krates_ids.specs.Identity.{Identity}
use Rattle.krates_document.specs.CrateTable.{numbers_in}
use Rattle.krates_questions.specs.NameIndex.{lists_in}
use Rattle.krates_questions.proofs.RenamedPlaces.{RenamedBelow}
use Rattle.krates_questions.proofs.name_index.renamed_by_name.Given as goal

-- those of the nodes so far are found
abbrev pub invariant-loop-place : goal.invariant-loop-place
invariant-loop-place l =
    RenamedBelow (map package_view l.libraries.packages.now) l.libraries.table.now.packages.items (map node_view l.nodes) (map (λ (v : Vec Identity). v.items) l.ids) (numbers_in l.libraries.table.now.dep_numbers) (lists_in l.lists) l.place
