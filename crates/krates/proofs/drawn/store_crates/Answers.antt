use Rattle.std.proofs.Common.{◌≡◌, ◌∙◌, ◌+◌, ◌∷◌, ◌++◌, [], sym, ap, rules}
use Rattle.std.proofs.lemmas.List.{length_push}
use Rattle.krates.specs.MadeNodes.{IsMade}
use Rattle.krates_rules.proofs.Zips.{zip_push}
use Rattle.krates.proofs.drawn.store_crates.Goals as goal

pub loop-node-preserved : goal.loop-node-preserved
loop-node-preserved g c =
    let l = c.loop-node in
    let added : c.add_node.new.self.nodes ≡ l.graph.nodes ++ c.in_ok-made.field-0 ∷ [] = ap (λ h. h.nodes) c.in-Ok.ensures.added in
    let more = zip_push (IsMade g.N.FromPackage.made_from) l.yielded l.graph.nodes c.in-Some.node c.in_ok-made.field-0 l.invariant.2 c.in_ok-made.ensures in (
      tt,
      tt,
      rw added more,
      rw added (length_push l.graph.nodes c.in_ok-made.field-0 ∙ ap (λ n. n + 1) l.invariant.3 ∙ sym (length_push l.yielded c.in-Some.node)),
      c.in-Ok.ensures.added ∙ search rules,
    )
