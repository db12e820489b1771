use Rattle.std.proofs.Common.{◌≡◌, ◌∙◌, rules, subst, sym}
use Rattle.std.proofs.lemmas.Option.{get_or_from_slice_get, slice_get_within}
use Rattle.krates_ids.specs.Identity.{Identity}
use Rattle.krates_rules.specs.DistinctIds.{IsDoubledAmong}
use Rattle.krates_rules.specs.Resolved.{id_of}
use Rattle.krates_document.proofs.crate_table.distinct_index.Goals as goal

pub bounds-list-place : goal.bounds-list-place
bounds-list-place c =
    let doubled = rw c.in-Some.is at c.in_ok-index.ensures.doubled in
    slice_get_within c.args.list.now c.in-Some.place doubled.there doubled.at

pub offset_bounds-list-place : goal.offset_bounds-list-place
offset_bounds-list-place c = let within = bounds-list-place c in search rules

pub returns-in_ok-clone-in-Some-clause-refused : goal.returns-in_ok-clone-in-Some-clause-refused
returns-in_ok-clone-in-Some-clause-refused c =
    let list = c.args.list.now in
    let place = c.in-Some.place in
    let read = c.index-list-place in
    let doubled = rw c.in-Some.is at c.in_ok-index.ensures.doubled in
    let here : read.result ≡ doubled.there = read.is ∙ get_or_from_slice_get list place doubled.there read.result doubled.at in
    rw c.in_ok-clone-in-Some.ensures.cases ((place, slice_get_within list place doubled.there doubled.at, sym read.is), subst (λ (i : Identity). IsDoubledAmong list (id_of i)) (sym here) doubled.twice)

pub returns-in-None-clause-distinct : goal.returns-in-None-clause-distinct
returns-in-None-clause-distinct c = rw c.in-None.is at c.in_ok-index.ensures.doubled
