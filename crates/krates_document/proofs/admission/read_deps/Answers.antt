use Rattle.std.proofs.Common.{◌≡◌, List, arith, map, sym, ap, subst, ◌∙◌}
use Rattle.std.proofs.lemmas.List.{map-append}
use Rattle.std.proofs.lemmas.Result.{err_from_is_err_and}
use Rattle.std.specs.List.{AllZip}
use Rattle.semver.specs.Identifiers.{parts_of}
use Rattle.krates_cm.specs.Document.{Text, id_view, node_view}
use Rattle.krates_cm.specs.declared.resolve.NodeDep.{NodeDep}
use Rattle.krates_ids.specs.Identity.{Reads}
use Rattle.krates_rules.specs.Admission.{AreDepIds, HasThisVersion, dep_texts}
use Rattle.krates_document.specs.AdmissionSteps.{InvalidDepRefusal}
use Rattle.krates_document.specs.IdLists.{kids_in, versions_in}
use Rattle.krates_document.proofs.AdmissionLemmas.{bad_node, dep_texts_of}
use Rattle.krates_rules.proofs.Zips.{zip_next, zip_all, zip_push, one_seen}
use Rattle.krates_document.proofs.admission.read_deps.Goals as goal

pub returns-in_err-ids-clause-refused : goal.returns-in_err-ids-clause-refused
returns-in_err-ids-clause-refused c =
    let node = c.node-item.result in
    let error = c.in_err-ids.field-0.0 in
    let texts : map (λ (d : NodeDep). id_view d.pkg) c.deref.result.now ≡ dep_texts (node_view node) = ap (map (λ (d : NodeDep). id_view d.pkg)) c.deref.ensures.value ∙ sym (dep_texts_of node) in
    let among = one_seen node_view c.args.nodes.now c.loop-node.node-index node (omega arith) c.node-item.is in
    let bad = subst (λ (ts : List Text). InvalidDepRefusal ts error) texts c.in_err-ids.ensures.refused in
    let p = err_from_is_err_and c.from_residual-in_err-ids.result c.from_residual-in_err-ids.ensures.1 in
    rw (p.1, p.2) (bad_node (map node_view c.args.nodes.now) (node_view node) among error bad)

pub loop-node-preserved : goal.loop-node-preserved
loop-node-preserved c =
    let l = c.loop-node in
    let node = c.node-item.result in
    let ids = c.in_ok-ids.ids in
    let kids = ids.kids.items in
    let versions = map parts_of ids.versions.items in
    let texts : map (λ (d : NodeDep). id_view d.pkg) c.deref.result.now ≡ dep_texts (node_view node) = ap (map (λ (d : NodeDep). id_view d.pkg)) c.deref.ensures.value ∙ sym (dep_texts_of node) in
    let read : AreDepIds (node_view node) kids = subst (λ (ts : List Text). AllZip Reads ts kids) texts c.in_ok-ids.ensures.read in
    rw (c.in_ok-push.ensures.items, c.in_ok-push-2.ensures.items, map-append, map-append) record {
      read = zip_next AreDepIds node_view c.args.nodes.now l.node-index node (kids_in l.kids) kids (omega arith) c.node-item.is read l.invariant.read;
      versions = zip_push (AllZip HasThisVersion) (kids_in l.kids) (versions_in l.versions) kids versions l.invariant.versions c.in_ok-ids.ensures.versions;
    }

pub returns-clause-read : goal.returns-clause-read
returns-clause-read c = zip_all AreDepIds node_view c.args.nodes.now c.loop-node.node-index (kids_in c.loop-node.kids) (omega arith) c.loop-node.invariant.read
