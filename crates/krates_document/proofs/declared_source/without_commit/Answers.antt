use Rattle.std.proofs.Common.{refl, inl, inr, arith}
use Rattle.std.specs.Prelude.{Some, None}
use Rattle.krates_text.proofs.CutsLemmas.{CutsLast-rsplit_once}
use Rattle.krates_document.proofs.declared_source.without_commit.Goals as goal

pub returns-in-Some : goal.returns-in-Some
returns-in-Some c =
    inl (c.in-Some.field-0-1.now, CutsLast-rsplit_once _ _ (Some (c.in-Some.front, c.in-Some.field-0-1)) c.in-Some.ensures.cases (omega arith))

pub returns-in-None : goal.returns-in-None
returns-in-None c = inr (CutsLast-rsplit_once _ _ None c.in-None.ensures.cases (omega arith), refl)
