use Rattle.std.proofs.Common.{Bor, Contains, List, All, ap, map, subst, sym}
use Rattle.std.proofs.lemmas.List.Elements.{All-append}
use Rattle.krates_cm.specs.Document.{Text}
use Rattle.krates_build_facts.specs.FactModels.{Available, fact_view}
use Rattle.krates_build_facts.specs.Rows.{requires}
use Rattle.krates_build_checkers.specs.GivenFacts.{facts_of_set}
use Rattle.krates_build_checkers.proofs.GivenSets.{all_left, all_right, given_told}
use Rattle.krates_build_checkers.proofs.sought.is_open_requiring.Goals as goal

pub returns-then-contains-clause-kept : goal.returns-then-contains-clause-kept
returns-then-contains-clause-kept c lacks all = (given_told c.args.given.now _ c.contains.result c.contains.ensures).0 c.if-contains.true

pub returns-then-are_given-clause-open : goal.returns-then-are_given-clause-open
returns-then-are_given-clause-open c there =
    let P = Contains (facts_of_set c.args.given.now) in
    let said = ap (λ (texts : List (Bor Text)). map (λ (text : Bor Text). Available c.args.target.now.place.krate text.now) texts) c.deref.ensures.value in
    record {
      premises = All-append P (map fact_view c.args.premises.now) (requires c.args.target.now) (c.are_given.ensures.0 c.if-are_given.true) (subst (All P) said (c.are_available.ensures.0 there));
      fact = λ among. absurd (cc ((given_told c.args.given.now _ c.contains.result c.contains.ensures).1 among, c.if-contains.false));
    }

pub returns-then-are_given-clause-kept : goal.returns-then-are_given-clause-kept
returns-then-are_given-clause-kept c lacks all =
    let P = Contains (facts_of_set c.args.given.now) in
    let said = ap (λ (texts : List (Bor Text)). map (λ (text : Bor Text). Available c.args.target.now.place.krate text.now) texts) c.deref.ensures.value in
    absurd (cc (c.are_available.ensures.1 (subst (All P) (sym said) (all_right P (map fact_view c.args.premises.now) (requires c.args.target.now) all)), lacks))

pub returns-else-are_given-clause-kept : goal.returns-else-are_given-clause-kept
returns-else-are_given-clause-kept c lacks all =
    let P = Contains (facts_of_set c.args.given.now) in
    absurd (cc (c.are_given.ensures.1 (all_left P (map fact_view c.args.premises.now) (requires c.args.target.now) all), c.if-are_given.false))
