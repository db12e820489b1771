use Rattle.std.proofs.Common.{◌-◌, List, drop, length, map, subst, take}
use Rattle.std.proofs.lemmas.Result.{IfErr-weaker, err_from_is_err_and}
use Rattle.krates_units.specs.BuildSetting.{build_setting_view}
use Rattle.krates_units.specs.Machines.{machine_view}
use Rattle.krates_units.specs.declared.machine.Machine.{Machine}
use Rattle.krates_build_certificate.specs.BuildCertificateViews.{machine_told}
use Rattle.krates_build_verdict.specs.SameBuild.{MachineFails, MachinesRefusal, machines_asked}
use Rattle.krates_build_verdict.proofs.SameBuild.{first_fails, later_fails, machines_fail}
use Rattle.krates_build_verdict.proofs.machines.expect_machines.Goals as goal

pub returns-in_err-expect_machine-in-len1-up-clause-refused : goal.returns-in_err-expect_machine-in-len1-up-clause-refused
returns-in_err-expect_machine-in-len1-up-clause-refused c =
    let setting = c.args.setting.now in
    let texts = c.args.machines.now in
    let e = c.in_err-expect_machine-in-len1-up.field-0.0 in
    let fails = first_fails texts c.host-item.result (machine_view setting.host) (map machine_view setting.targets.items) e c.in-len1-up.len_at_least c.host-item.is c.in_err-expect_machine-in-len1-up.ensures.refused in
    let p = err_from_is_err_and c.from_residual.result c.from_residual.ensures.1 in
    rw (p.1, p.2) (machines_fail (map machine_told texts) (machines_asked (build_setting_view setting)) e fails)

pub returns-in_ok-expect_machine-in-len1-up-clause-refused : goal.returns-in_ok-expect_machine-in-len1-up-clause-refused
returns-in_ok-expect_machine-in-len1-up-clause-refused c =
    let setting = c.args.setting.now in
    let texts = c.args.machines.now in
    let rest = map machine_told (take (length texts - 1) (drop 1 texts)) in
    let told = map machine_told texts in
    let asked = machines_asked (build_setting_view setting) in
    IfErr-weaker c.expect_targets.result (MachineFails rest (map machine_view c.deref.result.now)) (MachinesRefusal told asked) (λ e h. machines_fail told asked e
    (later_fails texts c.host-item.result (machine_view setting.host) (map machine_view setting.targets.items) e c.in-len1-up.len_at_least c.host-item.is c.in_ok-expect_machine-in-len1-up.ensures.described
    (subst (λ (ms : List Machine). MachineFails rest (map machine_view ms) e) c.deref.ensures.value h))) c.expect_targets.ensures.refused
