use Rattle.std.proofs.Common.{◌≡◌, ◌==◌, ◌∙◌, ℕ, sym, ap}
use Rattle.std.specs.List.{list_any}
use Rattle.krates_queries.proofs.ReachedLemmas.{is_among}
use Rattle.krates_queries.proofs.kept.Krates.reaches.Goals as goal

pub returns : goal.returns
returns g c =
    let put = c.in_ok-found.found.put in
    let told : c.contains.result ≡ list_any (λ y. y == c.args.from) put =
    c.contains.ensures.value ∙ ap (list_any (λ y. y == c.index.result)) c.numbers.ensures.put ∙ ap (λ (x : ℕ). list_any (λ y. y == x) put) c.index.ensures in
    let there = is_among put c.args.from in
    let paths = c.in_ok-found.ensures.put c.args.from in
    rw (← c.graph.ensures.graph) (λ h. paths.0 (there.0 (sym told ∙ h)), λ h. told ∙ there.1 (paths.1 h))
