use Rattle.std.proofs.Common.{◌≡◌, ℕ, ◌∙◌, ap, arith, rules}
use Rattle.krates_cm.specs.Document.{TargetModel, target_view}
use Rattle.krates_rules.proofs.Zips.{zip_next, zip_all}
use Rattle.krates_units.specs.BuildSetting.{build_setting_view}
use Rattle.krates_build_tables.specs.TablesOf.{TargetSays}
use Rattle.krates_build_tables.specs.declared.tables.TargetEntry.{TargetEntry}
use Rattle.krates_build_tables.specs.declared.tables.TargetPlace.{TargetPlace}
use Rattle.krates_build_tables.proofs.Entries.{placed_push}
use Rattle.krates_build_tables.proofs.targets.entries_of.Goals as goal

abbrev place_at : ℕ → ℕ → TargetPlace
place_at number index = record { krate = number; index = index }

pub loop-target-preserved : goal.loop-target-preserved
loop-target-preserved c =
    let l = c.loop-target in
    let s = build_setting_view c.args.setting.now in
    let x = c.in_ok-entry.entry in
    rw c.in_ok-push.ensures record {
      says = zip_next (λ (t : TargetModel) (x : TargetEntry). TargetSays s x t) target_view c.args.targets.now l.target-index c.target-item.result l.entries.items x (omega arith) c.target-item.is c.in_ok-entry.ensures.says l.invariant.says;
      places = placed_push (λ (k : ℕ) (x : TargetEntry). x.place ≡ record { krate = c.args.number; index = k }) l.entries.items x l.invariant.places (c.in_ok-entry.ensures.place ∙ ap (place_at c.args.number) (search rules));
    }

pub returns : goal.returns
returns c = record {
  says = zip_all (λ (t : TargetModel) (x : TargetEntry). TargetSays (build_setting_view c.args.setting.now) x t) target_view c.args.targets.now c.loop-target.target-index c.loop-target.entries.items (omega arith) c.loop-target.invariant.says;
  places = c.loop-target.invariant.places;
}
