use Rattle.krates_cm.proofs.CopyLemmas.{same_list}
use Rattle.krates_ids.specs.Correction.{index_version_view}
use Rattle.krates_ids.specs.contracts.index.IndexKrateVersionClone.TheImpl.{ghosts as versions}
use Rattle.krates_ids.proofs.index.IndexKrateClone.clone.Goals as goal

pub returns : goal.returns
returns c = record {
  cases = same_list versions.is_clone index_version_view (λ x y h. h) c.args.self.now.versions.items c.in_ok-clone.field-0.items c.in_ok-clone.ensures.cases.0;
}
