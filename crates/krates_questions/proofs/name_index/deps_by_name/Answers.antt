use Rattle.std.proofs.Common.{List, arith, subst}
use Rattle.std.proofs.lemmas.List.{map-append}
use Rattle.krates_cm.specs.Document.{node_dep_view, node_view}
use Rattle.krates_cm.specs.declared.resolve.NodeDep.{NodeDep}
use Rattle.krates_document.specs.NamedPlaces.{AreNamed, no_target}
use Rattle.krates_document.proofs.NamedPlaces.{named_seen}
use Rattle.krates_rules.proofs.Zips.{zip_next, zip_all}
use Rattle.krates_questions.specs.NameIndex.{AreDepsOf, lists_in}
use Rattle.krates_questions.proofs.name_index.deps_by_name.Goals as goal

pub loop-node-preserved : goal.loop-node-preserved
loop-node-preserved c =
    let l = c.loop-node in
    let x = c.node-item.result in
    let list = c.in_ok-named_places.field-0 in
    let named = named_seen node_dep_view (λ d. d.name) (λ d. no_target) x.deps.items list.items
    (subst (λ (ds : List NodeDep). AreNamed (λ d. (node_dep_view d).name) (λ d. no_target) ds list.items) c.deref.ensures.value c.in_ok-named_places.ensures) in
    rw (c.in_ok-push.ensures.items, map-append) (zip_next AreDepsOf node_view c.args.nodes.now l.node-index x (lists_in l.lists) list.items (omega arith) c.node-item.is named l.invariant)

pub returns : goal.returns
returns c = zip_all AreDepsOf node_view c.args.nodes.now c.loop-node.node-index (lists_in c.loop-node.lists) (omega arith) c.loop-node.invariant
