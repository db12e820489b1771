use Rattle.std.proofs.Common.{map, take}
use Rattle.krates_rules.specs.Resolved.{id_of}
use Rattle.krates_build_tables.specs.References.{reference_view}
use Rattle.krates_build_tables.specs.RequestsFlags.{root_kind}
use Rattle.krates_build_tables.specs.Requests.{Adds, model_asked, setting_asked}
use Rattle.krates_build_tables.proofs.Additions.{TakenOf}
use Rattle.krates_build_tables.proofs.requests.push_taken.Given as goal

-- what is taken of the references so far is added
abbrev pub invariant-loop-given : goal.invariant-loop-given
invariant-loop-given l = Adds (TakenOf (model_asked l.asking) (setting_asked l.asking) (id_of l.id) (root_kind l.kind) (map reference_view (take l.given-index l.given-items))) l.initial.requested.items l.requested.items
