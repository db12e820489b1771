use Rattle.std.proofs.Common.{List, map, arith, subst}
use Rattle.std.proofs.lemmas.List.{map-append}
use Rattle.std.specs.Global.{Vec}
use Rattle.std.specs.List.{AllZip}
use Rattle.krates_cm.specs.Document.{node_view}
use Rattle.krates_cm.specs.declared.resolve.Node.{Node}
use Rattle.krates_questions.specs.Lookup.{resolved_view}
use Rattle.krates_search.specs.declared.links.Link.{Link}
use Rattle.krates_search.proofs.LinkLemmas.{links_for_all, all_new}
use Rattle.krates_rules.proofs.Zips.{zip_next, zip_all}
use Rattle.krates_search.specs.Links.{AreNewLinks}
use Rattle.krates_search.proofs.links.links_of.Goals as goal

pub loop-node-preserved : goal.loop-node-preserved
loop-node-preserved c =
    let l = c.loop-node in
    let links = c.in_ok-links_of_node.field-0 in
    rw (c.in_ok-push.ensures.items, map-append)
    (zip_next AreNewLinks node_view c.nodes-node-items.result.now l.node-index c.node-item.result (map (λ (v : Vec Link). v.items) l.of_nodes.items) links.items (omega arith) c.node-item.is c.in_ok-links_of_node.ensures l.invariant)

pub returns-clause-has : goal.returns-clause-has
returns-clause-has c =
    let rows = map (λ (v : Vec Link). v.items) c.loop-node.of_nodes.items in
    let all = zip_all AreNewLinks node_view c.nodes-node-items.result.now c.loop-node.node-index rows (omega arith) c.loop-node.invariant in
    links_for_all (resolved_view c.args.document.now) _ (subst (λ (ns : List Node). AllZip AreNewLinks (map node_view ns) rows) c.nodes-node-items.ensures all)

pub returns-clause-new : goal.returns-clause-new
returns-clause-new c =
    let rows = map (λ (v : Vec Link). v.items) c.loop-node.of_nodes.items in
    all_new (map node_view c.nodes-node-items.result.now) _ (zip_all AreNewLinks node_view c.nodes-node-items.result.now c.loop-node.node-index rows (omega arith) c.loop-node.invariant)
