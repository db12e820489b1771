use Rattle.std.proofs.Common.{sym, ap, ◌∙◌}
use Rattle.krates_cm.proofs.CopyLemmas.{same_texts}
use Rattle.krates_cargo.specs.FeatureChoice.{features_view, selected}
use Rattle.krates_cargo.proofs.command.FeaturesClone.clone.Goals as goal

pub returns-in_ok-clone-in-Selected : goal.returns-in_ok-clone-in-Selected
returns-in_ok-clone-in-Selected c = record {
  cases = ap selected (same_texts c.in-Selected.names c.in_ok-clone-in-Selected.field-0 c.in_ok-clone-in-Selected.ensures.cases) ∙ sym (ap features_view c.in-Selected.is);
}
