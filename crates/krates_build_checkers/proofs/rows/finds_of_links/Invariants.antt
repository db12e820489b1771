use Rattle.std.proofs.Common.{false, take}
use Rattle.std.specs.List.{flat_map}
use Rattle.krates_build_facts.specs.FactModels.{fact_view}
use Rattle.krates_build_facts.specs.Rows.{link_rows}
use Rattle.krates_build_checkers.specs.Finding.{Finds}
use Rattle.krates_build_checkers.proofs.rows.finds_of_links.Given as goal

-- it is none of the links so far
abbrev pub invariant-loop-link : goal.invariant-loop-link
invariant-loop-link l = Finds false l.sought (flat_map (link_rows l.tables l.entry (fact_view l.fact)) (take l.link-index l.entry.links.items))
