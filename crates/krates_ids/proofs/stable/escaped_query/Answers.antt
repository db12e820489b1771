use Rattle.std.proofs.Common.{◌∙◌, sym}
use Rattle.krates_ids.proofs.StableLemmas.{IsSource-no_query, IsSource-slash, IsSource-no_percent}
use Rattle.krates_ids.proofs.stable.escaped_query.Goals as goal

pub returns-in_default : goal.returns-in_default
returns-in_default c = IsSource-no_query _ c.in_default.ensures

pub returns-then-has : goal.returns-then-has
returns-then-has c = IsSource-slash _ _ _ c.in-Some.ensures (rw c.if-has.true at c.has.ensures)

pub returns-then-not-has : goal.returns-then-not-has
returns-then-not-has c =
    IsSource-no_percent _ _ _
    (record { git = sym c.is_git.ensures ∙ c.if-not-is_git.false; cut = c.in-Some.ensures; in_last_piece = rw c.if-has.false at c.has.ensures })
    (rw c.if-not-has.true at c.has-2.ensures)
