use Rattle.std.proofs.Common.{ℕ, length, map, refl, ap}
use Rattle.std.proofs.lemmas.Option.{slice_get_read}
use Rattle.krates_cm.specs.Document.{Text, node_dep_view, package_view}
use Rattle.krates_document.specs.FoldedNames.{folded}
use Rattle.krates_document.specs.NamedPlaces.{no_target}
use Rattle.krates_questions.specs.NameIndex.{IsRenamedAt}
use Rattle.krates_questions.proofs.RenamedPlaces.{all_renamed, none_below, stand_by, stand_put}
use Rattle.krates_questions.proofs.name_index.renamed_of.Goals.{then-is_renamed_at+in_ok-push, else-is_renamed_at}
use Rattle.krates_questions.proofs.name_index.renamed_of.Goals as goal

pub loop-place-init : goal.loop-place-init
loop-place-init c = rw c.new-named.ensures.items (none_below (IsRenamedAt (map package_view c.args.libraries.now.packages.now) c.args.libraries.now.table.now.packages.items (map node_dep_view c.args.deps.now) c.args.children.now.numbers.now) c.args.children.now.ids.now)

pub loop-place-preserved : goal.loop-place-preserved
loop-place-preserved c =
    let l = c.loop-place in
    let P : ℕ → Type 0 = IsRenamedAt (map package_view c.args.libraries.now.packages.now) c.args.libraries.now.table.now.packages.items (map node_dep_view c.args.deps.now) c.args.children.now.numbers.now in
    let kids = c.args.children.now.ids.now in
    let x = c.child-item.result in
    let here = slice_get_read kids (length kids) l.place x refl c.loop-place-test.true c.child-item.is in
    elim c.if-is_renamed_at.branch [
      | then-is_renamed_at+in_ok-push w ↦ rw (w.named-is, w.in_ok-push.ensures.items)
          (stand_put P kids l.named.items l.place x _ here (ap (λ (t : Text). (folded t, no_target)) w.name.ensures) refl l.invariant)
      | else-is_renamed_at w ↦ rw w.named-is (stand_by P kids l.named.items l.place (λ r. absurd (let yes = c.is_renamed_at.ensures.1 r in cc (yes, w.if-is_renamed_at.false))) l.invariant)
    ]

pub returns : goal.returns
returns c =
    let l = c.loop-place in
    all_renamed (map package_view c.args.libraries.now.packages.now) c.args.libraries.now.table.now.packages.items (map node_dep_view c.args.deps.now) c.args.children.now.ids.now c.args.children.now.numbers.now l.named.items c.sort.new.self.items l.place c.loop-place-test.false c.sort.ensures.permutation c.in_ok-sort.ensures.sorted l.invariant
