use Rattle.std.proofs.Common.{rules, ◌≡◌, ◌+◌, ◌<◌, ℕ, Some, length, ap, arith, refl}
use Rattle.std.proofs.lemmas.Fn.{always_returns_same}
use Rattle.krates_queries.specs.Numbers.{feature_cmp}
use Rattle.krates_drawing.specs.Node.{crate_ids}
use Rattle.krates_drawing.specs.declared.node.Node.{Node}
use Rattle.krates_queries.proofs.StretchLemmas.{found_in_stretch, none_in_stretch, starts_rise, stretch}
use Rattle.krates_queries.proofs.numbers.kept_feature_number.Goals as goal

pub start_in-start-requires : goal.start_in-start-requires
start_in-start-requires g c = let counted = c.requires.starts.counted in omega (arith, counted, c.requires.stands)

pub start_in-end-requires : goal.start_in-end-requires
start_in-end-requires g c = let counted = c.requires.starts.counted in omega (arith, counted, c.requires.stands)

pub slice_bounds-own-count : goal.slice_bounds-own-count
slice_bounds-own-count g c =
    let starts = c.requires.starts in
    starts_rise c.args.nodes.now c.args.krate c.start_in-start.result c.start_in-end.result (starts.each c.args.krate c.start_in-start.result c.start_in-start.ensures) (starts.each (c.args.krate + 1) c.start_in-end.result c.start_in-end.ensures)

pub slice_bounds-own-start : goal.slice_bounds-own-start
slice_bounds-own-start g c =
    let starts = c.requires.starts in
    starts_rise c.args.nodes.now c.args.krate c.start_in-start.result c.start_in-end.result (starts.each c.args.krate c.start_in-start.result c.start_in-start.ensures) (starts.each (c.args.krate + 1) c.start_in-end.result c.start_in-end.ensures)

pub slice_bounds-own-end : goal.slice_bounds-own-end
slice_bounds-own-end g c = (c.requires.starts.each (c.args.krate + 1) c.start_in-end.result c.start_in-end.ensures).within

pub returns-in-Ok : goal.returns-in-Ok
returns-in-Ok g c n =
    let nodes = c.args.nodes.now in
    let p = c.args.krate in
    let start = c.start_in-start.result in
    let end = c.start_in-end.result in
    let at = c.in-Ok.ensures.position (λ (node : Node g.row.N.Denot). feature_cmp node p c.args.name.now) (always_returns_same _ _ _ (λ a r q called. search rules)) in
    let found = found_in_stretch nodes (stretch nodes start end) p start end c.in-Ok.place c.args.name.now c.requires.nodes (c.requires.starts.each p start c.start_in-start.ensures) (c.requires.starts.each (p + 1) end c.start_in-end.ensures)
    refl c.in-Ok.ensures.bound at n in (
      λ e. (let is : start + c.in-Ok.place ≡ n = cc (e) in found.0 is),
      λ h. ap (λ (k : ℕ). Some k) (found.1 h),
    )

pub returns-in-Err : goal.returns-in-Err
returns-in-Err g c n =
    let nodes = c.args.nodes.now in
    let p = c.args.krate in
    let start = c.start_in-start.result in
    let end = c.start_in-end.result in
    let parts = c.in-Err.ensures.position (λ (node : Node g.row.N.Denot). feature_cmp node p c.args.name.now) (always_returns_same _ _ _ (λ a r q called. search rules)) in (
      λ e. absurd (cc (e)),
      λ h. absurd (none_in_stretch nodes (stretch nodes start end) p start end c.in-Err.field-0 c.args.name.now c.requires.nodes (c.requires.starts.each p start c.start_in-start.ensures) (c.requires.starts.each (p + 1) end c.start_in-end.ensures)
          refl parts n h),
    )
