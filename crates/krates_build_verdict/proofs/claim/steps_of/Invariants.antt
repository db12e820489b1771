use Rattle.std.proofs.Common.{◌≡◌, length, map, take}
use Rattle.krates_build_certificate.specs.BuildCertificateViews.{step_told}
use Rattle.krates_build_facts.specs.Steps.{step_view}
use Rattle.krates_build_verdict.specs.NamedClaims.{NamesSteps}
use Rattle.krates_build_verdict.proofs.claim.steps_of.Given as goal

-- what is told so far are the steps so far, and they are as many
abbrev pub invariant-loop-step : goal.invariant-loop-step
invariant-loop-step l = record {
  counted : l.step-index ≡ length (map step_view l.steps.items);
  so_far : NamesSteps l.names (map step_told (take l.step-index l.named)) (map step_view l.steps.items);
}
