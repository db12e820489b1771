use Rattle.std.proofs.Common.{◌≡◌, ◌∷◌, ◌++◌, ◌+◌, ◌∙◌, ℕ, [], List, Some, length, slice_get, ap, sym, subst, arith}
use Rattle.std.proofs.lemmas.List.{length_push}
use Rattle.krates_queries.specs.Kept.{IsStart}
use Rattle.krates_queries.proofs.StretchLemmas.{no_start, one_start_more}
use Rattle.krates_queries.proofs.numbers.starts_of.Goals as goal

pub loop-krate-init : goal.loop-krate-init
loop-krate-init g c = (ap (λ (ns : List ℕ). length ns) c.in_ok-starts.ensures.items, no_start c.args.nodes.now c.in_ok-starts.starts.items c.in_ok-starts.ensures.items)

pub loop-krate-preserved : goal.loop-krate-preserved
loop-krate-preserved g c =
    let l = c.loop-krate in
    let old = l.starts.items in
    let at = c.start_of.result in
    let more = c.in_ok-push.ensures.items in (
      ap (λ (ns : List ℕ). length ns) more ∙ length_push old at ∙ ap (λ (k : ℕ). k + 1) l.invariant.0,
      λ p n e. one_start_more c.args.nodes.now old at l.krate l.invariant.0 l.invariant.1 c.start_of.ensures p n (subst (λ (ns : List ℕ). slice_get ns p ≡ Some n) more e),
    )
