use Rattle.std.proofs.Common.{map, take}
use Rattle.std.specs.List.{AllZip}
use Rattle.krates_units.specs.Machines.{machine_view}
use Rattle.krates_build_certificate.specs.BuildCertificateViews.{machine_told}
use Rattle.krates_build_verdict.specs.SameBuild.{Describes}
use Rattle.krates_build_verdict.proofs.machines.expect_targets.Given as goal

-- the texts so far describe the machines so far
abbrev pub invariant-loop-number : goal.invariant-loop-number
invariant-loop-number l = AllZip Describes (map machine_told (take l.number l.texts)) (map machine_view (take l.number l.machines))
