use Rattle.std.proofs.Common.{◌≡◌, rules}
use Rattle.krates_cm.proofs.CopyLemmas.{same_list}
use Rattle.krates_ids.specs.PackageSpecification.{spec_view}
use Rattle.krates_words.proofs.IgnoresTooLemmas.{both_calls}
use Rattle.krates_words.proofs.ManifestLemmas.{manifests_alone}
use Rattle.krates_words.proofs.choice.Choice.setting.Goals as goal

pub returns : goal.returns
returns c =
    let copied = same_list (λ spec copy. spec_view copy ≡ spec_view spec) spec_view (λ spec copy same. same)
    c.args.self.now.exclusions.items c.in_ok-clone.field-0.items c.in_ok-clone.ensures.cases.0 in
    record {
      targets = search rules;
      manifests = manifests_alone _ _ _ _ _ c.in_ok-include_workspace_crates.ensures.appended (search rules) (search rules) (search rules);
      exclusions = search rules;
      ignored = both_calls _ _ _ _ _ c.args.self.now.ignored.items _ c.args.also_ignored.now c.ignore_kinds.ensures.ignored c.ignore_kinds-2.ensures.ignored (search rules)
          (search rules) (search rules) (search rules);
      workspace = search rules;
      all_named = search rules;
    }
