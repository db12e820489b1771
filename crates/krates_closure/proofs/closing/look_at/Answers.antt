use Rattle.std.proofs.Common.{◌≡◌, ◌<◌, ◌∷◌, ◌++◌, [], true, false, ap, sym, ◌∙◌, length, set, slice_index}
use Rattle.std.proofs.lemmas.List.{get_or_default}
use Rattle.std.proofs.Math.ListN.{length-set}
use Rattle.krates_closure.specs.Closing.{FitsTogether, clause_at, waiting_for, watchers_of}
use Rattle.krates_closure.specs.Marks.{IsFirstWithout, IsMet}
use Rattle.krates_closure.proofs.ClosingLemmas.{FitsTogether-done, FitsTogether-wait, FitsTogether-give, NamesBelow-at, clause_read, mark_read, fewer_give}
use Rattle.krates_closure.proofs.closing.look_at.Goals as goal

pub returns-then-index-clause-closing : goal.returns-then-index-clause-closing
returns-then-index-clause-closing c =
    let closing = c.args.closing.now in
    let clauses = c.args.clauses.now in
    let k = c.args.number in
    let read : clause_at clauses k ≡ c.index-clauses-index.result =
    clause_read clauses k c.index.result c.index-clauses-index.result c.index.ensures c.requires.within c.index-clauses-index.is in
    let fact : c.fact-fact.result ≡ (clause_at clauses k).fact = c.fact-fact.ensures ∙ ap (λ clause. clause.fact) (sym read) in
    let below = NamesBelow-at clauses closing.found.marks.items closing.found.steps.items closing.seen.items (watchers_of closing.watchers.items)
    (closing.pending.items ++ k ∷ []) k c.requires.closing c.requires.within in
    FitsTogether-done clauses closing.found.marks.items closing.found.steps.items closing.seen.items (watchers_of closing.watchers.items) closing.pending.items k
    c.requires.closing
    (mark_read closing.found.marks.items (clause_at clauses k).fact c.index-2.result true (c.index-2.ensures ∙ fact) below.fact (rw c.if-index.true at c.index-3.ensures))

-- after the fact was given
given : (c : goal.In_ok-give)
    → FitsTogether c.args.clauses.now
    (set c.args.closing.now.found.marks.items c.fact-fact.result true)
    (c.args.closing.now.found.steps.items ++ c.args.number ∷ []) c.args.closing.now.seen.items
    (set (watchers_of c.args.closing.now.watchers.items) c.fact-fact.result [])
    (c.args.closing.now.pending.items ++ waiting_for (watchers_of c.args.closing.now.watchers.items) c.fact-fact.result)
given c =
    let closing = c.args.closing.now in
    let clauses = c.args.clauses.now in
    let k = c.args.number in
    let read : clause_at clauses k ≡ c.index-clauses-index.result =
    clause_read clauses k c.index.result c.index-clauses-index.result c.index.ensures c.requires.within c.index-clauses-index.is in
    let fact : (clause_at clauses k).fact ≡ c.fact-fact.result = ap (λ clause. clause.fact) read ∙ sym c.fact-fact.ensures in
    let premises : c.premises.result.now ≡ (clause_at clauses k).premises = c.premises.ensures ∙ ap (λ clause. clause.premises) (sym read) in
    let below = NamesBelow-at clauses closing.found.marks.items closing.found.steps.items closing.seen.items (watchers_of closing.watchers.items)
    (closing.pending.items ++ k ∷ []) k c.requires.closing c.requires.within in
    let inside : c.fact-fact.result < length closing.found.marks.items = rw fact at below.fact in
    let met : IsMet closing.found.marks.items (clause_at clauses k).premises = rw (c.deref.ensures.value, premises) at c.in_default.ensures.all in
    FitsTogether-give clauses closing.found.marks.items closing.found.steps.items closing.seen.items (watchers_of closing.watchers.items) closing.pending.items k c.fact-fact.result
    c.requires.closing fact inside
    (mark_read closing.found.marks.items c.fact-fact.result c.index-2.result false c.index-2.ensures inside (rw c.if-index.false at c.index-3.ensures)) met

pub returns-in_default-clause-closing : goal.returns-in_default-clause-closing
returns-in_default-clause-closing c =
    rw (c.in_ok-give.ensures.marks, c.in_ok-give.ensures.steps, c.in_ok-give.ensures.seen, c.in_ok-give.ensures.watchers, c.in_ok-give.ensures.pending) (given c)

pub returns-in_default-clause-fewer : goal.returns-in_default-clause-fewer
returns-in_default-clause-fewer c =
    let closing = c.args.closing.now in
    let fact = c.fact-fact.result in
    rw (c.in_ok-give.ensures.marks, c.in_ok-give.ensures.steps, c.in_ok-give.ensures.pending)
    (fewer_give c.args.clauses.now (set closing.found.marks.items fact true) closing.found.steps.items closing.seen.items
    (set (watchers_of closing.watchers.items) fact []) (closing.pending.items ++ waiting_for (watchers_of closing.watchers.items) fact) c.args.number
    (length closing.found.marks.items) (length (closing.pending.items ++ c.args.number ∷ [])) (given c) (length-set closing.found.marks.items fact true))

pub returns-clause-closing : goal.returns-clause-closing
returns-clause-closing c =
    let closing = c.args.closing.now in
    let clauses = c.args.clauses.now in
    let k = c.args.number in
    let place = c.in-Some.place in
    let p = c.index-premises-place.result in
    let read : clause_at clauses k ≡ c.index-clauses-index.result =
    clause_read clauses k c.index.result c.index-clauses-index.result c.index.ensures c.requires.within c.index-clauses-index.is in
    let premises : c.premises.result.now ≡ (clause_at clauses k).premises = c.premises.ensures ∙ ap (λ clause. clause.premises) (sym read) in
    let again : c.premises-2.result.now ≡ (clause_at clauses k).premises = c.premises-2.ensures ∙ ap (λ clause. clause.premises) (sym read) in
    let first : IsFirstWithout closing.found.marks.items (clause_at clauses k).premises place =
    rw (c.deref.ensures.value, premises) at c.in-Some.ensures.first in
    let same : slice_index (clause_at clauses k).premises place ≡ p =
    get_or_default (clause_at clauses k).premises place 0 p first.within ∙ sym (rw again at c.index-premises-place.is) in
    rw (c.in_ok-wait.ensures.found, c.in_ok-wait.ensures.pending, c.in_ok-wait.ensures.seen, c.in_ok-wait.ensures.watchers)
    (FitsTogether-wait clauses closing.found.marks.items closing.found.steps.items closing.seen.items (watchers_of closing.watchers.items) closing.pending.items k place p
    c.requires.closing first same)
