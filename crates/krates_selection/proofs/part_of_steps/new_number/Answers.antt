use Rattle.std.proofs.Common.{◌≡◌, ◌<◌, length, get_or, rules}
use Rattle.std.proofs.lemmas.Option.{slice_get_within, get_or_from_slice_get}
use Rattle.krates_selection.proofs.Chosen.{new_number_of, looked_up}
use Rattle.krates_selection.proofs.part_of_steps.new_number.Goals as goal

pub offset_bounds-facts-used : goal.offset_bounds-facts-used
offset_bounds-facts-used c =
    let w = new_number_of c.args.facts.now c.args.numbers.now c.args.used c.in-Some.used c.in-Some.is c.requires in
    let within : c.in-Some.used < length c.args.facts.now = slice_get_within c.args.facts.now c.in-Some.used w.1.fact w.1.fact_at in
    search rules

pub bounds-facts-used : goal.bounds-facts-used
bounds-facts-used c =
    let w = new_number_of c.args.facts.now c.args.numbers.now c.args.used c.in-Some.used c.in-Some.is c.requires in
    slice_get_within c.args.facts.now c.in-Some.used w.1.fact w.1.fact_at

pub offset_bounds-numbers-facts : goal.offset_bounds-numbers-facts
offset_bounds-numbers-facts c =
    let w = new_number_of c.args.facts.now c.args.numbers.now c.args.used c.in-Some.used c.in-Some.is c.requires in
    let here : get_or c.args.facts.now c.in-Some.used 0 ≡ w.1.fact = get_or_from_slice_get c.args.facts.now c.in-Some.used w.1.fact 0 w.1.fact_at in
    let within : get_or c.args.facts.now c.in-Some.used 0 < length c.args.numbers.now = rw here (slice_get_within c.args.numbers.now w.1.fact _ w.1.at) in
    search rules

pub bounds-numbers-facts : goal.bounds-numbers-facts
bounds-numbers-facts c =
    let w = new_number_of c.args.facts.now c.args.numbers.now c.args.used c.in-Some.used c.in-Some.is c.requires in
    let here : get_or c.args.facts.now c.in-Some.used 0 ≡ w.1.fact = get_or_from_slice_get c.args.facts.now c.in-Some.used w.1.fact 0 w.1.fact_at in
    rw here (slice_get_within c.args.numbers.now w.1.fact _ w.1.at)

pub returns : goal.returns
returns c =
    let w = new_number_of c.args.facts.now c.args.numbers.now c.args.used c.in-Some.used c.in-Some.is c.requires in
    looked_up c.args.facts.now c.args.numbers.now c.args.used c.in-Some.used c.in-Some.is w
