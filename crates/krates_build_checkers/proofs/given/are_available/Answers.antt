use Rattle.std.proofs.Common.{Bor, Contains, get_or, refl}
use Rattle.krates_build_facts.specs.declared.facts.BuildFact.TheVariants as facts
use Rattle.krates_cm.specs.Document.{Text}
use Rattle.krates_build_facts.specs.FactModels.{Available}
use Rattle.krates_build_checkers.specs.GivenFacts.{facts_of_set}
use Rattle.krates_build_checkers.proofs.GivenSets.{all_at, all_more, all_of, given_told}
use Rattle.krates_build_checkers.proofs.given.are_available.Goals as goal

pub returns-then-not-contains : goal.returns-then-not-contains
returns-then-not-contains c =
    let P = Contains (facts_of_set c.args.given.now) in
    let said = λ (text : Bor Text). Available c.args.krate text.now in
    (λ t. absurd cc, λ all. absurd (cc ((given_told c.args.given.now (facts.Available c.args.krate (get_or c.args.texts.now c.loop-text.text-index _)) c.contains.result c.contains.ensures).1 (all_at P said c.args.texts.now c.loop-text.text-index _ c.loop-text-test.true all), c.if-not-contains.true)))

pub loop-text-preserved : goal.loop-text-preserved
loop-text-preserved c =
    let P = Contains (facts_of_set c.args.given.now) in
    let said = λ (text : Bor Text). Available c.args.krate text.now in
    all_more P said c.args.texts.now c.loop-text.text-index _ c.loop-text-test.true c.loop-text.invariant ((given_told c.args.given.now (facts.Available c.args.krate (get_or c.args.texts.now c.loop-text.text-index _)) c.contains.result c.contains.ensures).0 c.if-not-contains.false)

pub returns : goal.returns
returns c =
    let said = λ (text : Bor Text). Available c.args.krate text.now in
    (λ t. all_of (Contains (facts_of_set c.args.given.now)) said c.args.texts.now c.loop-text.text-index c.loop-text-test.false c.loop-text.invariant, λ all. refl)
