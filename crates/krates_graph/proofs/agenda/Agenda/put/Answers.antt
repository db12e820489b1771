use Rattle.std.proofs.Common.{◌≡◌, ◌<◌, [], ◌∷◌, ◌++◌, refl, ap, sym, length, get_or, arith, true, false, vec_len, vec_capacity}
use Rattle.std.proofs.Math.ListN.{length-set}
use Rattle.krates_graph.proofs.AgendaLemmas.{Contains-from_mark, IsMarked-push, mark_read, room_for}
use Rattle.krates_graph.proofs.agenda.Agenda.put.Goals as goal

pub returns-then-index-clause-old : goal.returns-then-index-clause-old
returns-then-index-clause-old c =
    let marks = c.self.inside.marks.items in
    let within : c.args.number < length marks = rw (ap (λ a. a.size) c.self.view_is) c.requires in
    let mark : get_or marks c.args.number false ≡ true = mark_read marks c.args.number true within (rw c.if-index.true at c.index.ensures) in
    rw (← c.self.view_is)
    (Contains-from_mark marks c.self.inside.numbers.items c.self.inside.next (vec_capacity c.self.inside.numbers) c.args.number c.self.invariant mark)

-- the number has no mark yet
within : (c : goal.After-push) → c.args.number < length c.self.inside.marks.items
within c = rw (ap (λ a. a.size) c.self.view_is) c.requires

unmarked : (c : goal.After-push) → get_or c.self.inside.marks.items c.args.number false ≡ false
unmarked c = sym (rw c.if-index.false at c.index.ensures)

-- so there is room, and the push appends it
pushed : (c : goal.After-push) → c.push.new.self.items ≡ c.self.inside.numbers.items ++ c.args.number ∷ []
pushed c =
    let numbers = c.self.inside.numbers in
    let room : vec_len numbers < vec_capacity numbers =
    omega (
      arith,
      numbers.ok.0,
      room_for c.self.inside.marks.items numbers.items c.self.inside.next (vec_capacity numbers) c.args.number c.self.invariant (within c) (unmarked c),
    ) in
    rw (c.push.ensures.succeeds room) at c.push.ensures.items

pub invariant_of-self : goal.invariant_of-self
invariant_of-self c =
    rw (pushed c)
    (IsMarked-push c.self.inside.marks.items c.self.inside.numbers.items c.self.inside.next (vec_capacity c.self.inside.numbers)
    (vec_capacity c.push.new.self) c.args.number c.self.invariant c.push.ensures.capacity (within c) (unmarked c))

pub returns-clause-added : goal.returns-clause-added
returns-clause-added c = rw (pushed c, length-set c.self.inside.marks.items c.args.number true, ← c.self.view_is) refl

pub returns-clause-orderly : goal.returns-clause-orderly
returns-clause-orderly c =
    let marked =
    IsMarked-push c.self.inside.marks.items c.self.inside.numbers.items c.self.inside.next (vec_capacity c.self.inside.numbers)
    (vec_capacity c.push.new.self) c.args.number c.self.invariant c.push.ensures.capacity (within c) (unmarked c) in
    rw (pushed c) marked.orderly
