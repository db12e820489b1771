use Rattle.krates_checkers.proofs.checking.check_closed_admitted.Goals as goal

pub returns-then-branch-clause-closed : goal.returns-then-branch-clause-closed
returns-then-branch-clause-closed c =
    let a = c.in_ok-is_closed_admitted.ensures in
    record { ids = a.ids; admitted = a.admitted; holds = record { graph = a.holds.graph; has_graph = a.holds.has_graph; holds = a.holds.holds.0 c.if-branch.true } }

pub returns-clause-refused : goal.returns-clause-refused
returns-clause-refused c =
    let a = c.in_ok-is_closed_admitted.ensures in
    record { ids = a.ids; admitted = a.admitted; holds = record { graph = a.holds.graph; has_graph = a.holds.has_graph; holds = λ closed. absurd (cc (a.holds.holds.1 closed, c.if-branch.false)) } }
