use Rattle.std.proofs.Common.{◌≡◌, ◌∙◌, List, String, Global, ap, map, refl, string_bytes}
use Rattle.krates_cli.specs.Options.{asked_at, options_view}
use Rattle.krates_cm.proofs.CopyLemmas.{same_items, same_list}
use Rattle.krates_ids.specs.PackageSpecification.{spec_view}
use Rattle.krates_foreign.proofs.ChosenLemmas.{chosen}
use Rattle.krates_foreign.proofs.judged.choice_of.Goals as goal

pub returns : goal.returns
returns c =
    let o = c.args.options.now in
    let kinds = same_items o.ignored.items c.in_ok-ignored.ignored.items c.in_ok-ignored.ensures.cases.0 in
    let specs = same_list (λ spec copy. spec_view copy ≡ spec_view spec) spec_view (λ spec copy same. same) o.exclusions.items c.in_ok-exclusions.exclusions.items c.in_ok-exclusions.ensures.cases.0 in
    let targets = c.in_ok-targets.ensures ∙ ap (λ (triples : List (String Global)). map asked_at (map string_bytes triples)) c.deref.ensures.value in
    chosen (options_view o) _ refl refl c.new.ensures.items kinds specs targets
