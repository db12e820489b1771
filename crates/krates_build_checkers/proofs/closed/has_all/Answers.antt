use Rattle.krates_build_checkers.proofs.ClosedLists.{open_at_start, open_behind, told_closed}
use Rattle.krates_build_checkers.proofs.closed.has_all.Goals as goal

pub returns-then-finds_initial : goal.returns-then-finds_initial
returns-then-finds_initial c same = (λ x. absurd cc, λ closed. absurd (open_at_start c.args.tables.now c.args.given c.args.facts.now same c.finds_initial.result c.if-finds_initial.true c.finds_initial.ensures closed))

pub returns-then-finds_begun_by_some : goal.returns-then-finds_begun_by_some
returns-then-finds_begun_by_some c same = (λ x. absurd cc, λ closed. absurd (open_behind c.args.tables.now c.args.given c.args.facts.now same c.finds_begun_by_some.result c.if-finds_begun_by_some.true c.finds_begun_by_some.ensures closed))

pub returns : goal.returns
returns c same =
    told_closed c.args.tables.now c.args.given c.args.facts.now same c.finds_initial.result c.finds_begun_by_some.result c.finds_available.result c.if-finds_initial.false c.if-finds_begun_by_some.false
    c.finds_initial.ensures c.finds_begun_by_some.ensures c.finds_available.ensures
