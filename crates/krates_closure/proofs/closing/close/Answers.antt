use Rattle.std.proofs.Common.{◌≡◌, ◌∷◌, ◌++◌, [], rules}
use Rattle.std.proofs.lemmas.List.Elements.{Contains-push}
use Rattle.krates_closure.specs.Closing.{FitsTogether, watchers_of}
use Rattle.krates_closure.proofs.ClosingLemmas.{AreMarks-end, IsClosure-end}
use Rattle.krates_closure.proofs.closing.close.Goals as goal

pub look_at-requires-clause-within : goal.look_at-requires-clause-within
look_at-requires-clause-within c =
    let pending : c.loop-number.closing.pending.items ≡ c.pop.new.self.items ++ c.in-Some.number ∷ [] = search rules in
    c.loop-number.invariant.pending_below c.in-Some.number (rw pending (Contains-push c.pop.new.self.items c.in-Some.number))

pub returns : goal.returns
returns c =
    let closing = c.loop-number.closing in
    let pending : closing.pending.items ≡ [] = search rules in
    let ended : FitsTogether c.args.clauses.now.list closing.found.marks.items closing.found.steps.items closing.seen.items (watchers_of closing.watchers.items) [] =
    rw (pending, c.as_slice-list.ensures.clauses) at c.loop-number.invariant in
    record {
      closure = IsClosure-end _ _ _ _ _ ended;
      marks = AreMarks-end _ _ _ _ _ ended;
    }
