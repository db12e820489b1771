use Rattle.std.proofs.Common.{◌≡◌, option_map, rules}
use Rattle.krates_cm.specs.Document.{node_view, id_view}
use Rattle.krates_cm.specs.contracts.copies.NodeClone.TheImpl.{ghosts as nodes}
use Rattle.krates_cm.proofs.CopyLemmas.{same_list}
use Rattle.krates_cm.proofs.copies.ResolveClone.clone.Goals as goal

pub returns : goal.returns
returns c =
    let root : option_map id_view c.in_ok-clone-2.field-0 ≡ option_map id_view c.args.self.now.root = search (rules, c.in_ok-clone-2.ensures) in
    record {
      cases = λ i. record {
        nodes = same_list nodes.is_clone node_view (λ x y h. h) c.args.self.now.nodes.items c.in_ok-clone.field-0.items c.in_ok-clone.ensures.cases.0 i;
        root = root i;
      };
    }
