use Rattle.std.proofs.Common.{sym, []}
use Rattle.krates_text.proofs.PathLemmas.{same_from_ends}
use Rattle.krates_text.proofs.path.same.Goals as goal

pub returns-then-ends_with : goal.returns-then-ends_with
returns-then-ends_with c = (
  (λ both.
      let back = c.ends_with-then-ends_with.ensures.0 both in
      let front = c.ends_with.ensures.0 c.if-ends_with.true in
      same_from_ends _ _ front.0 back.0 front.1 back.1),
  (λ same. c.ends_with-then-ends_with.ensures.1 ([], sym same)),
)
