use Rattle.std.proofs.Common.{take}
use Rattle.std.specs.List.{flat_map}
use Rattle.krates_build_facts.specs.FactModels.{fact_view}
use Rattle.krates_grounding.specs.Grounding.{HasWritten}
use Rattle.krates_build_facts.specs.Rows.{link_rows}
use Rattle.krates_grounding.proofs.rows.write_links.Given as goal

-- those of the links so far are written
abbrev pub invariant-loop-link : goal.invariant-loop-link
invariant-loop-link l = HasWritten l.initial.ground l.ground (flat_map (link_rows l.tables l.entry (fact_view l.fact)) (take l.link-index l.entry.links.items))
