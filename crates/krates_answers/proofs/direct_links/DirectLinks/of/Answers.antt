use Rattle.std.proofs.Common.{◌≡◌, Some, None, length, slice_get, refl, sym}
use Rattle.std.proofs.lemmas.Option.{slice_get_past, slice_get_read}
use Rattle.krates_answers.proofs.SearchedNumbers.{StoredList, no_list, stored_list}
use Rattle.krates_answers.proofs.direct_links.DirectLinks.of.Goals as goal

-- the list that was found
found : (c : goal.After-as_slice) → StoredList c.self.inside.lists.items c.args.number c.in-Some.list.now
found c =
    let lists = c.deref.result.now in
    let list = c.in-Some.list.now in
    let read = c.in-Some.ensures.lookup in
    let at : slice_get lists c.index.result ≡ Some list = slice_get_read lists (length lists) c.index.result list refl read.3.0 read.1 in
    stored_list c.self.inside.lists.items c.args.number list c.self.invariant (rw (← c.deref.ensures.value, ← c.index.ensures) at)

pub returns-in-Some-clause-ascending : goal.returns-in-Some-clause-ascending
returns-in-Some-clause-ascending c = rw c.as_slice.ensures.value (found c).1

pub returns-in-Some-clause-below : goal.returns-in-Some-clause-below
returns-in-Some-clause-below c = rw (← c.self.view_is, c.as_slice.ensures.value) (found c).2

pub returns-in-None-clause-list : goal.returns-in-None-clause-list
returns-in-None-clause-list c =
    let none : slice_get c.deref.result.now c.index.result ≡ None = slice_get_past c.deref.result.now c.index.result c.in-None.ensures.lookup.3 in
    rw (← c.self.view_is) (sym (no_list c.self.inside.lists.items c.args.number (rw (← c.deref.ensures.value, ← c.index.ensures) none)))
