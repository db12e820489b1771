use Rattle.krates_cm.proofs.CopyLemmas.{same_features, same_parts}
use Rattle.krates_ids.proofs.index.IndexKrateVersionClone.clone.Goals as goal

pub returns : goal.returns
returns c = record {
  cases = λ i. record {
    version = same_parts c.args.self.now.version c.in_ok-clone.field-0 c.in_ok-clone.ensures.cases i;
    features = same_features c.args.self.now.features c.in_ok-clone-2.field-0 c.in_ok-clone-2.ensures.cases i;
  };
}
