use Rattle.std.proofs.Common.{◌≡◌, ℕ, ap, ◌∙◌, subst, List, Result, Ok, IfOk, length, sym}
use Rattle.std.proofs.lemmas.Result.{err_from_is_err_and}
use Rattle.std.specs.Global.{Vec}
use Rattle.std.specs.Prelude.{String}
use Rattle.std.specs.declared.alloc.Global.{Global}
use Rattle.std.specs.List.{FoldsTo}
use Rattle.std.specs.List.Sorted.{IsStrictlyIncreasing, IsStrictlySortedBy}
use Rattle.krates_cm.specs.Document.{metadata_view}
use Rattle.krates_cm.specs.declared.metadata.Metadata.{Metadata}
use Rattle.krates_cm.specs.declared.package.Package.{Package}
use Rattle.krates_document.specs.Ids.{ids_view}
use Rattle.krates_document.specs.declared.ids.Ids.{Ids}
use Rattle.krates_drawing.specs.Views.{outline_view}
use Rattle.krates_drawing.specs.declared.outline.CrateRow.{CrateRow}
use Rattle.krates_ids.specs.Identity.{Identity, id_cmp}
use Rattle.krates_drawing.specs.Division.{IsDivision, outline_ids, krate_packages}
use Rattle.krates_queries.specs.Kept.{AreNodes, AreStarts}
use Rattle.krates_queries.specs.declared.kept.Places.{Places}
use Rattle.krates_drawing.specs.declared.division.Division.{Division}
use Rattle.krates.specs.Members.{AreNumbersOf}
use Rattle.krates_drawing.specs.Node.{crate_ids}
use Rattle.krates.proofs.BuildLemmas.{package_ids, ids_distinct}
use Rattle.krates.proofs.ConnectedLemmas.{agrees, connects}
use Rattle.krates.proofs.DrawnLemmas.{builds_outline, counted, is_built, kept_ids, outline_stands}
use Rattle.krates.proofs.ExplainedLemmas.{explains, kept_steps}
use Rattle.krates.proofs.Numbered.{numbered, numbered_graph, undrawn, undrawn_names}
use Rattle.krates.proofs.MemberLemmas.{crate_numbers, kept_members}
use Rattle.krates.proofs.ResolvableLemmas.{resolvable}
use Rattle.krates_rules.proofs.OrderedIds.{Compares}
use Rattle.krates.proofs.builder.build_admitted.Goals as goal

-- the packages of a document, their ids, those of the members, and the root
abbrev Rest : Type 0
Rest = Vec Package × Vec Identity × Vec Identity × String Global

abbrev IsRestOf : Metadata → Ids → Rest → Type 0
IsRestOf m ids p = p ≡ (m.packages, ids.packages, ids.members, m.workspace_root)

-- what is divided are the document's packages, by the crates of the outline
divided_of : (m : Metadata) (ids : Ids) (rest : Rest) (krates ks : List CrateRow) (d : Division) → IsRestOf m ids rest → ks ≡ krates
    → IsDivision rest.0.items (outline_ids ks) d → IsDivision m.packages.items (outline_ids krates) d
divided_of m ids rest krates ks d is same h =
    subst (λ (ks : List CrateRow). IsDivision m.packages.items (outline_ids ks) d) same (subst (λ (p : Rest). IsDivision p.0.items (outline_ids ks) d) is h)

-- what holds of what was made holds of it as it is handed on
handed : {A E : Type 0} (P : A → Type 0) (made : Result A E) (x : A) → Ok x ≡ made → IfOk made P → P x
handed P made x same h = subst (λ (r : Result _ _). IfOk r P) (sym same) h

pub divide-requires-clause-read : goal.divide-requires-clause-read
divide-requires-clause-read g c = rw (c.rest_of-rest.ensures) (package_ids c.args.metadata (ids_view c.args.ids) c.requires.admitted)

pub divide-requires-clause-distinct : goal.divide-requires-clause-distinct
divide-requires-clause-distinct g c = rw (c.rest_of-rest.ensures) (ids_distinct (metadata_view c.args.metadata) (ids_view c.args.ids) c.requires.admitted)

pub divide-requires-clause-ascending : goal.divide-requires-clause-ascending
divide-requires-clause-ascending g c = subst (λ (ks : List CrateRow). IsStrictlySortedBy id_cmp (outline_ids ks)) (sym c.deref.ensures.value) c.in_ok-sketch.sketch.outline.ordered.krates

pub returns-in_err-graph-clause-refused : goal.returns-in_err-graph-clause-refused
returns-in_err-graph-clause-refused g c =
    let error = c.in_err-graph.field-0.0 in
    let refused = undrawn (metadata_view c.args.metadata) c.args.setting.now (outline_view c.in_ok-sketch.sketch.outline) c.in_ok-sketch.ensures.sketched.outline error c.in_err-graph.ensures.refused in
    let p = err_from_is_err_and c.from_residual-in_err-graph.result c.from_residual-in_err-graph.ensures.1 in
    rw (p.1, p.2) refused

pub returns-in_err-graph-clause-named : goal.returns-in_err-graph-clause-named
returns-in_err-graph-clause-named g c =
    let error = c.in_err-graph.field-0.0 in
    let named = undrawn_names (metadata_view c.args.metadata) (outline_view c.in_ok-sketch.sketch.outline) error c.in_err-graph.ensures.refused in
    let p = err_from_is_err_and c.from_residual-in_err-graph.result c.from_residual-in_err-graph.ensures.1 in
    rw (p.1, p.2) named

pub graph_of-requires-clause-ids : goal.graph_of-requires-clause-ids
graph_of-requires-clause-ids g c =
    let o : Compares = record { total = c.comparison.ensures.total; tells = c.comparison.ensures.order } in
    let division = c.in_ok-division.division in
    let divided = divided_of c.args.metadata c.args.ids c.rest_of-rest.result c.in_ok-sketch.sketch.outline.krates.items c.deref.result.now division c.rest_of-rest.ensures c.deref.ensures.value c.in_ok-division.ensures in
    let b = builds_outline c.one_reading.ensures.once c.args.metadata c.args.setting.now c.in_ok-sketch.sketch.outline division c.in_ok-sketch.ensures.sketched.outline divided in
    kept_ids o c.args.metadata c.args.setting.now c.in_ok-sketch.sketch.outline division c.in_ok-sketch.ensures.sketched.outline b

pub graph_of-requires-clause-stand : goal.graph_of-requires-clause-stand
graph_of-requires-clause-stand g c = outline_stands c.ends_stand.ensures (metadata_view c.args.metadata) c.args.setting.now (outline_view c.in_ok-sketch.sketch.outline) c.in_ok-sketch.ensures.sketched.outline

pub places_of-found-requires-clause-nodes : goal.places_of-found-requires-clause-nodes
places_of-found-requires-clause-nodes g c =
    let o : Compares = record { total = c.comparison.ensures.total; tells = c.comparison.ensures.order } in
    let division = c.in_ok-division.division in
    let graph = c.in_ok-graph.ensures.graph in
    let outline_is = c.in_ok-sketch.ensures.sketched.outline in
    let divided = divided_of c.args.metadata c.args.ids c.rest_of-rest.result c.in_ok-sketch.sketch.outline.krates.items c.deref.result.now division c.rest_of-rest.ensures c.deref.ensures.value c.in_ok-division.ensures in
    let b = builds_outline c.one_reading.ensures.once c.args.metadata c.args.setting.now c.in_ok-sketch.sketch.outline division outline_is divided in
    let n = numbered g.E.FromEdge.made_from_edge (outline_view c.in_ok-sketch.sketch.outline) c.in_ok-graph.graph graph.drawing c.in_ok-graph.ensures.within c.in_ok-graph.ensures.limits in
    let nodes = numbered_graph o g.N.FromPackage.made_from g.E.FromEdge.made_from_edge c.args.metadata c.args.setting.now c.in_ok-sketch.sketch.outline division c.in_ok-graph.graph outline_is
    b graph n in
    subst (λ ns. AreNodes ns) (sym c.raw_nodes.ensures.nodes) nodes

pub krates_of-requires-clause-nodes : goal.krates_of-requires-clause-nodes
krates_of-requires-clause-nodes g c =
    let o : Compares = record { total = c.comparison.ensures.total; tells = c.comparison.ensures.order } in
    let division = c.in_ok-division.division in
    let graph = c.in_ok-graph.ensures.graph in
    let outline_is = c.in_ok-sketch.ensures.sketched.outline in
    let divided = divided_of c.args.metadata c.args.ids c.rest_of-rest.result c.in_ok-sketch.sketch.outline.krates.items c.deref.result.now division c.rest_of-rest.ensures c.deref.ensures.value c.in_ok-division.ensures in
    let b = builds_outline c.one_reading.ensures.once c.args.metadata c.args.setting.now c.in_ok-sketch.sketch.outline division outline_is divided in
    let n = numbered g.E.FromEdge.made_from_edge (outline_view c.in_ok-sketch.sketch.outline) c.in_ok-graph.graph graph.drawing c.in_ok-graph.ensures.within c.in_ok-graph.ensures.limits in
    numbered_graph o g.N.FromPackage.made_from g.E.FromEdge.made_from_edge c.args.metadata c.args.setting.now c.in_ok-sketch.sketch.outline division c.in_ok-graph.graph outline_is
    b graph n

pub krates_of-requires-clause-members : goal.krates_of-requires-clause-members
krates_of-requires-clause-members g c =
    let those = c.in_ok-places.places in
    let numbers = those.members.items in
    let ascending = handed (λ (v : Places). IsStrictlyIncreasing v.members.items) c.places_of-found.result those c.in_ok-places.ensures.same c.places_of-found.ensures.ascending in
    let exactly = handed (λ (v : Places). AreNumbersOf (crate_ids c.raw_nodes.result.now) c.deref-2.result.now v.members.items) c.places_of-found.result those c.in_ok-places.ensures.same c.places_of-found.ensures.exactly in
    let there = subst (λ ns. AreNumbersOf (crate_ids ns) c.deref-2.result.now numbers) c.raw_nodes.ensures.nodes exactly in
    crate_numbers c.in_ok-graph.graph.nodes c.deref-2.result.now numbers ascending there

pub krates_of-requires-clause-starts : goal.krates_of-requires-clause-starts
krates_of-requires-clause-starts g c =
    let those = c.in_ok-places.places in
    let starts = handed (λ (v : Places). AreStarts c.raw_nodes.result.now v.starts.items) c.places_of-found.result those c.in_ok-places.ensures.same c.places_of-found.ensures.starts in
    subst (λ ns. AreStarts ns those.starts.items) c.raw_nodes.ensures.nodes starts

pub krates_of-requires-clause-connected : goal.krates_of-requires-clause-connected
krates_of-requires-clause-connected g c =
    connects g.E.FromEdge.made_from_edge (metadata_view c.args.metadata) c.args.setting.now (outline_view c.in_ok-sketch.sketch.outline) c.in_ok-graph.graph c.connected.ensures
    c.in_ok-sketch.ensures.sketched.outline c.in_ok-graph.ensures.graph.drawing
    (numbered g.E.FromEdge.made_from_edge (outline_view c.in_ok-sketch.sketch.outline) c.in_ok-graph.graph c.in_ok-graph.ensures.graph.drawing c.in_ok-graph.ensures.within c.in_ok-graph.ensures.limits).nodes

pub krates_of-requires-clause-explained : goal.krates_of-requires-clause-explained
krates_of-requires-clause-explained g c =
    let o : Compares = record { total = c.comparison.ensures.total; tells = c.comparison.ensures.order } in
    let division = c.in_ok-division.division in
    let graph = c.in_ok-graph.ensures.graph in
    let outline_is = c.in_ok-sketch.ensures.sketched.outline in
    let divided = divided_of c.args.metadata c.args.ids c.rest_of-rest.result c.in_ok-sketch.sketch.outline.krates.items c.deref.result.now division c.rest_of-rest.ensures c.deref.ensures.value c.in_ok-division.ensures in
    let b = builds_outline c.one_reading.ensures.once c.args.metadata c.args.setting.now c.in_ok-sketch.sketch.outline division outline_is divided in
    let n = numbered g.E.FromEdge.made_from_edge (outline_view c.in_ok-sketch.sketch.outline) c.in_ok-graph.graph graph.drawing c.in_ok-graph.ensures.within c.in_ok-graph.ensures.limits in
    let nodes = numbered_graph o g.N.FromPackage.made_from g.E.FromEdge.made_from_edge c.args.metadata c.args.setting.now c.in_ok-sketch.sketch.outline division c.in_ok-graph.graph outline_is
    b graph n in
    explains o g.N.FromPackage.made_from g.E.FromEdge.made_from_edge c.args.metadata c.args.setting.now c.in_ok-sketch.sketch.outline division c.in_ok-graph.graph
    c.in_ok-sketch.sketch.steps.items outline_is b graph nodes c.in_ok-sketch.ensures.sketched.steps

pub returns-clause-built : goal.returns-clause-built
returns-clause-built g c =
    let division = c.in_ok-division.division in
    let divided = divided_of c.args.metadata c.args.ids c.rest_of-rest.result c.in_ok-sketch.sketch.outline.krates.items c.deref.result.now division c.rest_of-rest.ensures c.deref.ensures.value c.in_ok-division.ensures in
    let b = builds_outline c.one_reading.ensures.once c.args.metadata c.args.setting.now c.in_ok-sketch.sketch.outline division c.in_ok-sketch.ensures.sketched.outline divided in
    let those = c.in_ok-places.places in
    let numbers = those.members.items in
    let ascending = handed (λ (v : Places). IsStrictlyIncreasing v.members.items) c.places_of-found.result those c.in_ok-places.ensures.same c.places_of-found.ensures.ascending in
    let exactly = handed (λ (v : Places). AreNumbersOf (crate_ids c.raw_nodes.result.now) c.deref-2.result.now v.members.items) c.places_of-found.result those c.in_ok-places.ensures.same c.places_of-found.ensures.exactly in
    let there = subst (λ ns. AreNumbersOf (crate_ids ns) c.deref-2.result.now numbers) c.raw_nodes.ensures.nodes exactly in
    let listed = subst (λ (is : List Identity). AreNumbersOf (crate_ids c.in_ok-graph.graph.nodes) is numbers) (c.deref-2.ensures.value ∙ ap (λ (p : Rest). p.2.items) c.rest_of-rest.ensures) there in
    let members = kept_members c.one_reading.ensures.once (metadata_view c.args.metadata) (ids_view c.args.ids) (crate_ids c.in_ok-graph.graph.nodes) numbers c.requires.admitted ascending listed in
    let o : Compares = record { total = c.comparison.ensures.total; tells = c.comparison.ensures.order } in
    let steps = c.in_ok-sketch.sketch.steps.items in
    let explained = (kept_steps o g.N.FromPackage.made_from g.E.FromEdge.made_from_edge c.args.metadata c.args.setting.now c.in_ok-sketch.sketch.outline division c.in_ok-graph.graph steps c.in_ok-sketch.ensures.sketched.outline b c.in_ok-graph.ensures.graph
    c.in_ok-sketch.ensures.sketched.steps).explained in
    let agree = agrees g.E.FromEdge.made_from_edge c.connected.ensures c.dependencies_agree.ensures (metadata_view c.args.metadata) c.args.setting.now c.in_ok-graph.graph in
    let run = handed (λ _. FoldsTo g.F.OnFilter.filters c.args.filter.now (krate_packages division.others.items) c.handed_over.new.filter) c.places_of-found.result those c.in_ok-places.ensures.same c.in_ok-places.ensures.run in
    rw (c.krates_of.ensures, c.rest_of-rest.ensures) (is_built g.F.OnFilter.filters g.N.FromPackage.made_from g.E.FromEdge.made_from_edge c.args.metadata c.args.setting.now c.in_ok-sketch.sketch.outline division c.in_ok-graph.graph numbers c.args.filter.now c.handed_over.new.filter c.in_ok-sketch.sketch.work
    c.in_ok-sketch.ensures.sketched.outline b c.in_ok-graph.ensures.graph run c.in_ok-sketch.ensures.sketched.work
    (resolvable (metadata_view c.args.metadata) (ids_view c.args.ids) c.requires.admitted) (numbered g.E.FromEdge.made_from_edge (outline_view c.in_ok-sketch.sketch.outline) c.in_ok-graph.graph c.in_ok-graph.ensures.graph.drawing c.in_ok-graph.ensures.within c.in_ok-graph.ensures.limits) members agree steps explained)

pub krates_of-requires-clause-counted : goal.krates_of-requires-clause-counted
krates_of-requires-clause-counted g c =
    let kept = c.in_ok-division.division.kept in
    c.len-count.ensures ∙ kept.ok.0 ∙ counted kept.items c.in_ok-graph.graph.nodes c.in_ok-graph.ensures.graph.ids

pub places_of-found-requires-clause-counted : goal.places_of-found-requires-clause-counted
places_of-found-requires-clause-counted g c =
    let kept = c.in_ok-division.division.kept in
    c.len-count.ensures ∙ kept.ok.0 ∙ counted kept.items c.in_ok-graph.graph.nodes c.in_ok-graph.ensures.graph.ids
    ∙ ap (λ ns. length (crate_ids ns)) (sym c.raw_nodes.ensures.nodes)
