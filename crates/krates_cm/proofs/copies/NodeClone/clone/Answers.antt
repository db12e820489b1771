use Rattle.krates_cm.specs.Document.{id_view, node_dep_view}
use Rattle.krates_cm.specs.contracts.copies.NodeDepClone.TheImpl.{ghosts as deps}
use Rattle.krates_cm.specs.contracts.copies.PackageIdClone.TheImpl.{ghosts as ids}
use Rattle.krates_cm.proofs.CopyLemmas.{same_list, same_texts}
use Rattle.krates_cm.proofs.copies.NodeClone.clone.Goals as goal

pub returns : goal.returns
returns c = record {
  cases = λ i. record {
    id = c.in_ok-clone.ensures.cases i;
    deps = same_list deps.is_clone node_dep_view (λ x y h. h) c.args.self.now.deps.items c.in_ok-clone-2.field-0.items c.in_ok-clone-2.ensures.cases.0 i;
    dependencies = same_list ids.is_clone id_view (λ x y h. h) c.args.self.now.dependencies.items c.in_ok-clone-3.field-0.items c.in_ok-clone-3.ensures.cases.0 i;
    features = same_texts c.args.self.now.features c.in_ok-clone-4.field-0 c.in_ok-clone-4.ensures.cases i;
  };
}
