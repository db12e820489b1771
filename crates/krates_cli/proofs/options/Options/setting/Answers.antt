use Rattle.std.proofs.Common.{◌≡◌, rules}
use Rattle.krates_cm.proofs.CopyLemmas.{same_list}
use Rattle.krates_ids.specs.PackageSpecification.{spec_view}
use Rattle.krates_cli.proofs.IgnoredLemmas.{ignored_alone}
use Rattle.krates_cli.proofs.options.Options.setting.Goals as goal

pub returns : goal.returns
returns c =
    let copied = same_list (λ spec copy. spec_view copy ≡ spec_view spec) spec_view (λ spec copy same. same)
    c.args.self.now.exclusions.items c.in_ok-clone.field-0.items c.in_ok-clone.ensures.cases.0 in
    let ignored = ignored_alone c.args.self.now.ignored.items in search rules
