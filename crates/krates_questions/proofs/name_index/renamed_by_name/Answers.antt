use Rattle.std.proofs.Common.{◌<◌, ℕ, List, Option, length, map, option_map, refl, ap, ◌∙◌, arith, subst}
use Rattle.std.proofs.lemmas.List.{length-map, map-append}
use Rattle.std.proofs.lemmas.Option.{slice_get-map, slice_get_read}
use Rattle.std.specs.Global.{Vec}
use Rattle.krates_cm.specs.Document.{node_dep_view, node_view, package_view}
use Rattle.krates_cm.specs.declared.resolve.NodeDep.{NodeDep}
use Rattle.krates_ids.specs.Identity.{Identity}
use Rattle.krates_document.specs.CrateTable.{numbers_in}
use Rattle.krates_questions.specs.NameIndex.{lists_in, AreRenamed}
use Rattle.krates_questions.proofs.RenamedPlaces.{all_listed, list_more, none_listed}
use Rattle.krates_questions.proofs.name_index.renamed_by_name.Goals as goal

pub loop-place-init : goal.loop-place-init
loop-place-init c =
    let t = c.args.libraries.now.table.now in
    rw c.in_ok-lists.ensures.items (none_listed (map package_view c.args.libraries.now.packages.now) t.packages.items (map node_view c.args.nodes.now) (map (λ (v : Vec Identity). v.items) c.args.ids.now) (numbers_in t.dep_numbers))

pub loop-place-preserved : goal.loop-place-preserved
loop-place-preserved c =
    let l = c.loop-place in
    let t = c.args.libraries.now.table.now in
    let packages = map package_view c.args.libraries.now.packages.now in
    let places = t.packages.items in
    let nodes = c.args.nodes.now in
    let ids = c.args.ids.now in
    let kids_of : Vec Identity → List Identity = λ v. v.items in
    let own_of : Vec (Option ℕ) → List (Option ℕ) = λ v. v.items in
    let x = c.index-nodes-place.result in
    let kids = c.index-ids-place.result in
    let own = c.index.result.now in
    let named = c.in_ok-renamed_of.field-0 in
    let of_deps = subst (λ (ds : List NodeDep). AreRenamed packages places (map node_dep_view ds) c.deref.result.now c.deref-in-loop-place.result.now named.items) c.deref-in-loop-place-2.ensures.value c.in_ok-renamed_of.ensures in
    let of_kids = subst (λ (ks : List Identity). AreRenamed packages places (map node_dep_view x.deps.items) ks c.deref-in-loop-place.result.now named.items) c.deref.ensures.value of_deps in
    let are = subst (λ (ns : List (Option ℕ)). AreRenamed packages places (map node_dep_view x.deps.items) kids.items ns named.items) c.deref-in-loop-place.ensures.value of_kids in
    let lt : l.place < length nodes = c.loop-place-test.true in
    let node = slice_get-map node_view nodes l.place ∙ ap (option_map node_view) (slice_get_read nodes (length nodes) l.place x refl lt c.index-nodes-place.is) in
    let at = slice_get-map kids_of ids l.place ∙ ap (option_map kids_of) (slice_get_read ids (length ids) l.place kids refl (omega (arith, lt, c.requires.ids)) c.index-ids-place.is) in
    let numbered = slice_get-map own_of t.dep_numbers.items l.place ∙ ap (option_map own_of) (slice_get_read t.dep_numbers.items (length t.dep_numbers.items) l.place own refl (omega (arith, lt, c.requires.numbers)) c.index.ensures) in
    rw (c.in_ok-push.ensures.items, map-append) (list_more packages places (map node_view nodes) (map kids_of ids) (numbers_in t.dep_numbers) (lists_in l.lists) l.place (node_view x) kids.items own.items named.items node at numbered are l.invariant)

pub returns : goal.returns
returns c =
    let t = c.args.libraries.now.table.now in
    let l = c.loop-place in
    let nodes = c.args.nodes.now in
    all_listed (map package_view c.args.libraries.now.packages.now) t.packages.items (map node_view nodes) (map (λ (v : Vec Identity). v.items) c.args.ids.now) (numbers_in t.dep_numbers) (lists_in l.lists) l.place
    (omega (arith, length-map nodes node_view, c.loop-place-test.false)) l.invariant
