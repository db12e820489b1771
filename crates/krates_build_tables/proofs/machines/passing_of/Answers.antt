use Rattle.std.proofs.Common.{option_map}
use Rattle.krates_units.specs.BuildSetting.{build_setting_view, machines}
use Rattle.krates_build_tables.specs.Judgements.{lent_machines}
use Rattle.krates_build_tables.proofs.JudgementLemmas.{targets_told, none_told}
use Rattle.krates_build_tables.proofs.machines.passing_of.Goals as goal

pub returns : goal.returns
returns c =
    let s = build_setting_view c.args.setting.now in
    record {
      host = c.in_ok-on_host.ensures;
      targets = rw c.either-on_targets.ensures (targets_told (lent_machines c.args.distinct.now) (machines s.host s.targets) (option_map (λ t. t.now) c.args.text) c.in_ok-on_each.on_each.items c.is_none.result c.has_yes.result
          c.requires c.in_ok-on_each.ensures (none_told c.args.text c.is_none.result c.is_none.ensures) (rw c.deref.ensures.value at c.has_yes.ensures));
      each = c.in_ok-on_each.ensures;
    }
