use Rattle.krates_cm.specs.Document.{dep_kind_info_view}
use Rattle.krates_cm.specs.contracts.copies.DepKindInfoClone.TheImpl.{ghosts as infos}
use Rattle.krates_cm.proofs.CopyLemmas.{same_list}
use Rattle.krates_cm.proofs.copies.NodeDepClone.clone.Goals as goal

pub returns : goal.returns
returns c = record {
  cases = λ i. record {
    name = c.in_ok-clone.ensures.cases i;
    pkg = c.in_ok-clone-2.ensures.cases i;
    dep_kinds = same_list infos.is_clone dep_kind_info_view (λ x y h. h) c.args.self.now.dep_kinds.items c.in_ok-clone-3.field-0.items c.in_ok-clone-3.ensures.cases.0 i;
  };
}
