use Rattle.std.proofs.Common.{map, take}
use Rattle.std.specs.List.{AllZip}
use Rattle.krates_build_tables.specs.RequestsFlags.{flagged}
use Rattle.krates_build_tables.specs.Requests.{RequestSays, model_asked, setting_asked}
use Rattle.krates_build_tables.proofs.requests.requests_by.Given as goal

-- the requests of the crates so far
abbrev pub invariant-loop-krate : goal.invariant-loop-krate
invariant-loop-krate l = AllZip (RequestSays (model_asked l.asking) (setting_asked l.asking)) (map flagged (take l.krate-index l.krate-items)) l.requests.items
