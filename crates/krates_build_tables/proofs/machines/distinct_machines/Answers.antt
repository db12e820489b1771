use Rattle.std.proofs.Common.{◌≡◌, ◌↔◌, length, ◌∙◌, Contains, map, sym, ap, subst}
use Rattle.std.proofs.lemmas.Bool.{eqb-false}
use Rattle.std.proofs.lemmas.List.{length-map}
use Rattle.std.proofs.lemmas.Result.{IfOk-weaker}
use Rattle.krates_units.specs.BuildSetting.{build_setting_view, machines}
use Rattle.krates_units.specs.Machines.{MachineModel, machine_view}
use Rattle.krates_units.specs.declared.setting.BuildSetting.{BuildSetting}
use Rattle.krates_build_tables.specs.Judgements.{lent_machines}
use Rattle.krates_build_tables.specs.TablesOf.{ComeInOrder}
use Rattle.krates_build_tables.proofs.JudgementLemmas.{order_one, some_machines}
use Rattle.krates_build_tables.proofs.machines.distinct_machines.Goals as goal

-- where some targets are asked for, these are the machines
targets_alone : (setting : BuildSetting) → (length setting.targets.items ≡ 0 → ⊥) → machines (build_setting_view setting).host (build_setting_view setting).targets ≡ (build_setting_view setting).targets
targets_alone setting some =
    let s = build_setting_view setting in
    some_machines s.host s.targets (λ e. some (sym (length-map setting.targets.items machine_view) ∙ ap length e))

pub returns-else-is_empty-clause-same : goal.returns-else-is_empty-clause-same
returns-else-is_empty-clause-same c =
    let s = build_setting_view c.args.setting.now in
    let some : machines s.host s.targets ≡ s.targets = targets_alone c.args.setting.now (λ none.
    eqb-false _ _ (sym c.is_empty.ensures ∙ c.if-is_empty.false) (sym c.deref.ensures.len ∙ ap length c.deref.ensures.value ∙ none)) in
    IfOk-weaker c.each_once.result _ _ (λ all same. rw some (subst (λ ms. (m : MachineModel) → Contains (map machine_view ms) m ↔ Contains (lent_machines all.items) m) c.deref.ensures.value same)) c.each_once.ensures.same

pub returns-else-is_empty-clause-in_order : goal.returns-else-is_empty-clause-in_order
returns-else-is_empty-clause-in_order c =
    let s = build_setting_view c.args.setting.now in
    let some : machines s.host s.targets ≡ s.targets = targets_alone c.args.setting.now (λ none.
    eqb-false _ _ (sym c.is_empty.ensures ∙ c.if-is_empty.false) (sym c.deref.ensures.len ∙ ap length c.deref.ensures.value ∙ none)) in
    IfOk-weaker c.each_once.result _ _ (λ all order. rw some (subst (λ ms. ComeInOrder (map machine_view ms) (lent_machines all.items)) c.deref.ensures.value order)) c.each_once.ensures.in_order

pub returns-then-is_empty-clause-in_order : goal.returns-then-is_empty-clause-in_order
returns-then-is_empty-clause-in_order c =
    let s = build_setting_view c.args.setting.now in
    IfOk-weaker c.alone.result _ _ (λ all is. rw is (order_one (machines s.host s.targets) (machine_view c.args.setting.now.host))) c.alone.ensures
