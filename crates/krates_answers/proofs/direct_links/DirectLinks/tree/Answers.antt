use Rattle.std.proofs.Common.{◌≡◌, ◌∙◌, ◌+◌, ◌<◌, ◌∷◌, [], ℕ, false, length, map, replicate, reverse, sym, ap, subst, arith}
use Rattle.std.proofs.lemmas.List.{get_or_read, length-append, length-map, length-reverse, nil_from_length}
use Rattle.krates_answers.specs.Tree.{line_below, list_of, root_line, roots_among}
use Rattle.krates_answers.proofs.TreeNumbers.{reached_within}
use Rattle.krates_answers.proofs.Reversed.{reverse-popped, reverse-pushed}
use Rattle.krates_answers.proofs.RootLines.{roots_inside, turned_roots}
use Rattle.krates_answers.proofs.TreeSoFar.{IsTreeSoFar, is_marked, tree_begins}
use Rattle.krates_answers.proofs.TreeStep.{tree_opens, tree_repeats}
use Rattle.krates_answers.proofs.TreeWhole.{tree_ends}
use Rattle.krates_answers.proofs.Unopened.{unopened-again, unopened-new}
use Rattle.krates_answers.proofs.direct_links.DirectLinks.tree.Goals as goal
use Rattle.krates_answers.proofs.direct_links.DirectLinks.tree.Goals.{After-index, In-Some, else-is_new, then-is_new+in_ok-push_below}

pub loop-next-init : goal.loop-next-init
loop-next-init c =
    let lists = c.args.self.now in
    let roots = roots_among lists c.args.roots.now in
    let marks : c.in_ok-is_opened.is_opened.items ≡ replicate (length lists) false = c.in_ok-is_opened.ensures.items_if_clones_equal (λ y e. e) ∙ ap (λ n. replicate n false) c.len.ensures.count in
    let left : reverse c.in_ok-waiting.waiting.items ≡ map root_line roots = ap reverse c.in_ok-waiting.ensures ∙ turned_roots lists c.args.roots.now in
    rw (marks, c.new-lines.ensures.items, left) (tree_begins lists roots)

-- the tree so far, where the next line is the first that waits
with_next : (c : In-Some) → IsTreeSoFar c.args.self.now (roots_among c.args.self.now c.args.roots.now) c.loop-next.is_opened.items c.loop-next.lines.items (c.in-Some.next ∷ reverse c.pop.new.self.items)
with_next c = rw (reverse-popped c.loop-next.waiting.items c.pop.new.self.items c.in-Some.next c.in-Some.ensures.items) at c.loop-next.invariant

-- its crate has a mark
within : (c : In-Some) → c.in-Some.next.krate < length c.loop-next.is_opened.items
within c =
    let lists = c.args.self.now in
    let so = with_next c in
    let inside = reached_within lists (roots_among lists c.args.roots.now) c.len.ensures.inside (roots_inside lists c.args.roots.now) c.in-Some.next.krate so.waits.1.reached in
    omega (arith, inside, so.long)

pub index-requires : goal.index-requires
index-requires c = omega (arith, within (goal.at.index-requires c).In-Some, c.index-number.ensures, c.loop-next.is_opened.ok.0)

pub index_mut-requires : goal.index_mut-requires
index_mut-requires c = omega (arith, within (goal.at.index_mut-requires c).In-Some, c.index-number.ensures, c.loop-next.is_opened.ok.0)

-- its mark, as it was read
mark : (c : After-index) → c.in-Some.next.krate < length c.loop-next.is_opened.items → is_marked c.loop-next.is_opened.items c.in-Some.next.krate ≡ c.index.result.now
mark c lt = sym (get_or_read c.loop-next.is_opened.items c.in-Some.next.krate c.index.result.now lt (rw c.index-number.ensures at c.index.ensures) false)

pub loop-next-smaller : goal.loop-next-smaller
loop-next-smaller c =
    let at = goal.at.loop-next-smaller c in
    let lists = c.args.self.now in
    let marks = c.loop-next.is_opened.items in
    let next = c.in-Some.next in
    let list = list_of lists next.krate in
    let popped : length c.loop-next.waiting.items ≡ length c.pop.new.self.items + 1 = ap length c.in-Some.ensures.items ∙ length-append c.pop.new.self.items (next ∷ []) in
    let lt = within at.In-Some in
    elim c.if-is_new.branch [
      | then-is_new+in_ok-push_below w ↦
          let pushed : length w.push_below.new.waiting.items ≡ length c.pop.new.self.items + length list =
          ap length w.in_ok-push_below.ensures ∙ length-append c.pop.new.self.items (map (line_below next) (reverse list))
          ∙ ap (λ (n : ℕ). length c.pop.new.self.items + n) (length-map (reverse list) (line_below next) ∙ length-reverse list) in
          let falls = unopened-new marks lists next.krate c.loop-next.invariant.long lt (mark at.After-index lt ∙ w.if-is_new.true) in
          rw (c.index-number.ensures, w.waiting-is) (omega (arith, popped, pushed, falls))
      | else-is_new w ↦
          let same = unopened-again marks lists next.krate c.loop-next.invariant.long lt (mark at.After-index lt ∙ w.if-is_new.false) in
          rw (c.index-number.ensures, w.waiting-is) (omega (arith, popped, same))
    ]

pub loop-next-preserved : goal.loop-next-preserved
loop-next-preserved c =
    let at = goal.at.loop-next-preserved c in
    let lists = c.args.self.now in
    let roots = roots_among lists c.args.roots.now in
    let marks = c.loop-next.is_opened.items in
    let lines = c.loop-next.lines.items in
    let left = c.pop.new.self.items in
    let next = c.in-Some.next in
    let so = with_next at.In-Some in
    let lt = within at.In-Some in
    elim c.if-is_new.branch [
      | then-is_new+in_ok-push_below w ↦
          rw (c.index-number.ensures, c.in_ok-push.ensures.items, w.waiting-is, w.in_ok-push_below.ensures, reverse-pushed (line_below next) left (list_of lists next.krate), w.if-is_new.true)
          (tree_opens lists roots marks lines (reverse left) next so lt (mark at.After-index lt ∙ w.if-is_new.true))
      | else-is_new w ↦
          rw (c.index-number.ensures, c.in_ok-push.ensures.items, w.waiting-is, w.if-is_new.false)
          (tree_repeats lists roots marks lines (reverse left) next so lt (mark at.After-index lt ∙ w.if-is_new.false))
    ]

pub returns : goal.returns
returns c =
    let lists = c.args.self.now in
    let none : c.loop-next.waiting.items ≡ [] = nil_from_length c.loop-next.waiting.items (sym c.loop-next.waiting.ok.0 ∙ c.in_default.ensures.cases.0) in
    tree_ends lists (roots_among lists c.args.roots.now) c.loop-next.is_opened.items c.loop-next.lines.items c.len.ensures.ascending
    (subst (IsTreeSoFar lists (roots_among lists c.args.roots.now) c.loop-next.is_opened.items c.loop-next.lines.items) (ap reverse none) c.loop-next.invariant)
