use Rattle.std.proofs.Common.{◌≡◌, ◌<◌, List, Option, ℕ, Some, None, false, length, get_or, arith, sym, ap, ◌∙◌, subst, rules, tests}
use Rattle.std.specs.List.{AllZip}
use Rattle.std.proofs.lemmas.Grind.{elements}
use Rattle.std.proofs.lemmas.Option.{slice_get-get_or}
use Rattle.krates_rules.specs.Uses.{numbers_used}
use Rattle.krates_rules.specs.declared.uses.Uses.{Uses}
use Rattle.krates_selection.specs.PartOfSteps.{HasNewNumber, IsMarked, IsNumbered}
use Rattle.krates_selection.proofs.Chosen.{use_numbered, step_chosen}
use Rattle.krates_selection.proofs.part_of_steps.choose.Goals as goal

pub renumbered-uses-requires : goal.renumbered-uses-requires
renumbered-uses-requires c used among =
    let choice = c.args.choice.now in
    let n = c.args.number in
    let making = c.args.making.now in
    let none : Uses = record { first = None; second = None } in
    let here : n < length choice.marks.now = omega (arith, c.requires.here, c.requires.choice.marks) in
    let marked : IsMarked choice.marks.now n = slice_get-get_or choice.marks.now n false here ∙ ap (λ b. Some b) c.if-not-choice-number.false in
    let at = slice_get-get_or choice.steps.now n none c.requires.here in
    subst (λ (ns : List (Option ℕ)). IsNumbered choice.facts.now ns used) (sym c.deref.ensures.value)
    (use_numbered choice (length making.numbers.items) n (get_or choice.steps.now n none) making.chosen.items making.uses.items making.numbers.items c.requires.choice marked at c.requires.below used among)

pub index_mut-requires : goal.index_mut-requires
index_mut-requires c =
    let choice = c.args.choice.now in
    let n = c.args.number in
    let here : n < length choice.facts.now = omega (arith, c.requires.here, c.requires.choice.facts) in
    let low : get_or choice.facts.now n 0 < length c.args.making.now.numbers.items = c.requires.choice.low n (get_or choice.facts.now n 0) (slice_get-get_or choice.facts.now n 0 here) in
    omega (arith, low, c.args.making.now.numbers.ok.0)

pub returns-clause-more : goal.returns-clause-more
returns-clause-more c =
    let choice = c.args.choice.now in
    let n = c.args.number in
    let making = c.args.making.now in
    let none : Uses = record { first = None; second = None } in
    let x = get_or choice.steps.now n none in
    let here : n < length choice.marks.now = omega (arith, c.requires.here, c.requires.choice.marks) in
    let within : n < length choice.facts.now = omega (arith, c.requires.here, c.requires.choice.facts) in
    let marked : IsMarked choice.marks.now n = slice_get-get_or choice.marks.now n false here ∙ ap (λ b. Some b) c.if-not-choice-number.false in
    let at = slice_get-get_or choice.steps.now n none c.requires.here in
    let fact = slice_get-get_or choice.facts.now n 0 within in
    let count : c.len.result ≡ length making.chosen.items = search (rules, tests) in
    let uses = subst (λ (ns : List (Option ℕ)). AllZip (HasNewNumber choice.facts.now ns) (numbers_used x) (numbers_used c.renumbered-uses.result)) c.deref.ensures.value c.renumbered-uses.ensures in
    let done = step_chosen choice n (get_or choice.facts.now n 0) c.len.result x c.renumbered-uses.result making.chosen.items making.uses.items making.numbers.items c.requires.choice marked at fact count uses c.requires.below in
    rw (c.in_ok-push.ensures.items, c.in_ok-push-2.ensures.items) done

pub returns-then-not-choice-number-clause-more : goal.returns-then-not-choice-number-clause-more
returns-then-not-choice-number-clause-more c = grind (arith, elements)
