use Rattle.std.proofs.Common.{◌≡◌, ◌+◌, ◌∷◌, ◌++◌, [], take, arith, ap, ◌∙◌, refl, sym, subst}
use Rattle.std.specs.BTreeSet.{BTreeSet}
use Rattle.krates_derive.specs.FactRef.{edge_of_ref, fact_of_ref, HasPairs}
use Rattle.krates_derive.specs.declared.fact_set.Pair.{Pair}
use Rattle.krates_rules.specs.Facts.{Fact, Kept}
use Rattle.krates_rules.specs.StepViews.{fact_view, facts_view}
use Rattle.krates_derive.proofs.FactSetLemmas.{pairs_all, pairs_more, pairs_none, pairs_past, pairs_put}
use Rattle.krates_derive.proofs.fact_set.pairs_of.Goals.{in-Kept+in_ok-insert, in_default}
use Rattle.krates_derive.proofs.fact_set.pairs_of.Goals as goal

pub loop-fact-init : goal.loop-fact-init
loop-fact-init c = pairs_none c.new-pairs.result c.new-pairs.ensures.empty

pub loop-fact-preserved : goal.loop-fact-preserved
loop-fact-preserved c =
    let l = c.loop-fact in
    let xs = c.args.facts.now in
    let Has = λ (set : BTreeSet Pair). HasPairs set (facts_view (take (l.fact-index + 1) xs)) in
    elim c.match-of.branch [
      | in-Kept+in_ok-insert w ↦ (
          let edge = w.in-Kept.field-0 in
          let set = w.insert.new.self in
          let told = facts_view (take l.fact-index xs) in
          let seen : Kept (edge_of_ref edge) ≡ fact_view c.fact-item.result = ap fact_of_ref (sym w.in-Kept.is) ∙ c.of.ensures in
          let put = pairs_put c.comparison.ensures.order l.pairs set told edge.parent.now edge.child.now (edge_of_ref edge) refl refl w.in_ok-insert.ensures.updates.0 l.invariant in
          subst Has (sym w.pairs-is) (pairs_more set xs l.fact-index c.fact-item.result c.loop-fact-test.true c.fact-item.is (subst (λ (f : Fact). HasPairs set (told ++ f ∷ [])) seen put)))
      | in_default w ↦ subst Has (sym w.pairs-is) (pairs_past l.pairs xs l.fact-index c.fact-item.result c.of.result c.of.ensures w.in_default.not-Kept c.loop-fact-test.true c.fact-item.is l.invariant)
    ]

pub returns : goal.returns
returns c = pairs_all c.loop-fact.pairs c.args.facts.now c.loop-fact.fact-index (omega arith) c.loop-fact.invariant
