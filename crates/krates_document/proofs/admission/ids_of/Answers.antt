use Rattle.std.proofs.Common.{◌≡◌, List, map, sym, ap, subst, ◌∙◌}
use Rattle.std.proofs.lemmas.Result.{err_from_is_err_and}
use Rattle.std.specs.List.{AllZip}
use Rattle.krates_cm.specs.Document.{Text, NodeModel, id_view, node_view, resolve_view, metadata_view}
use Rattle.krates_cm.specs.declared.resolve.Node.{Node}
use Rattle.krates_cm.specs.declared.package.Package.{Package}
use Rattle.krates_ids.specs.Identity.{Reads}
use Rattle.krates_rules.specs.Admission.{AreDepIds, package_texts, node_texts, of_package, of_node}
use Rattle.krates_document.specs.AdmissionSteps.{UnreadRefusal, InvalidNodeRefusal}
use Rattle.krates_document.specs.IdLists.{kids_in}
use Rattle.krates_document.proofs.AdmissionLemmas.{package_texts_of, node_texts_of, unread_bad, node_bad}
use Rattle.krates_document.proofs.admission.ids_of.Goals as goal

pub returns-in_err-packages-clause-refused : goal.returns-in_err-packages-clause-refused
returns-in_err-packages-clause-refused c =
    let m = metadata_view c.args.metadata.now in
    let error = c.in_err-packages.field-0.0 in
    let texts : map (λ (p : Package). id_view p.id) c.deref.result.now ≡ package_texts m = ap (map (λ (p : Package). id_view p.id)) c.deref.ensures.value ∙ sym (package_texts_of c.args.metadata.now) in
    let bad = subst (λ (ts : List Text). UnreadRefusal ts error) texts c.in_err-packages.ensures.refused in
    let p = err_from_is_err_and c.from_residual.result c.from_residual.ensures.1 in
    rw (p.1, p.2) (unread_bad m (resolve_view c.args.resolve.now) (package_texts m) (λ t h. of_package h) error bad)

pub returns-in_err-nodes-clause-refused : goal.returns-in_err-nodes-clause-refused
returns-in_err-nodes-clause-refused c =
    let g = resolve_view c.args.resolve.now in
    let error = c.in_err-nodes.field-0.0 in
    let texts : map (λ (n : Node). id_view n.id) c.deref-3.result.now ≡ node_texts g = ap (map (λ (n : Node). id_view n.id)) c.deref-3.ensures.value ∙ sym (node_texts_of c.args.resolve.now) in
    let bad = subst (λ (ts : List Text). UnreadRefusal ts error) texts c.in_err-nodes.ensures.refused in
    let p = err_from_is_err_and c.from_residual-in_err-nodes.result c.from_residual-in_err-nodes.ensures.1 in
    rw (p.1, p.2) (unread_bad (metadata_view c.args.metadata.now) g (node_texts g) (λ t h. of_node h) error bad)

pub returns-in_err-deps-clause-refused : goal.returns-in_err-deps-clause-refused
returns-in_err-deps-clause-refused c =
    let error = c.in_err-deps.field-0.0 in
    let bad = subst (λ (ns : List NodeModel). InvalidNodeRefusal ns error) (ap (map node_view) c.deref-4.ensures.value) c.in_err-deps.ensures.refused in
    let p = err_from_is_err_and c.from_residual-in_err-deps.result c.from_residual-in_err-deps.ensures.1 in
    rw (p.1, p.2) (node_bad (metadata_view c.args.metadata.now) (resolve_view c.args.resolve.now) error bad)

pub returns-clause-read : goal.returns-clause-read
returns-clause-read c =
    let packages : map (λ (p : Package). id_view p.id) c.deref.result.now ≡ package_texts (metadata_view c.args.metadata.now) = ap (map (λ (p : Package). id_view p.id)) c.deref.ensures.value ∙ sym (package_texts_of c.args.metadata.now) in
    let nodes : map (λ (n : Node). id_view n.id) c.deref-3.result.now ≡ node_texts (resolve_view c.args.resolve.now) = ap (map (λ (n : Node). id_view n.id)) c.deref-3.ensures.value ∙ sym (node_texts_of c.args.resolve.now) in
    record {
      packages = subst (λ (ts : List Text). AllZip Reads ts c.in_ok-packages.packages.items) packages c.in_ok-packages.ensures.read;
      members = subst (λ (ts : List Text). AllZip Reads ts c.in_ok-members.members.items) (ap (map id_view) c.deref-2.ensures.value) c.in_ok-members.ensures.read;
      root = c.in_ok-root.ensures.read;
      nodes = subst (λ (ts : List Text). AllZip Reads ts c.in_ok-nodes.nodes.items) nodes c.in_ok-nodes.ensures.read;
      deps = subst (λ (ns : List NodeModel). AllZip AreDepIds ns (kids_in c.in_ok-deps.deps.kids)) (ap (map node_view) c.deref-4.ensures.value) c.in_ok-deps.ensures.read;
      versions = c.in_ok-deps.ensures.versions;
    }
