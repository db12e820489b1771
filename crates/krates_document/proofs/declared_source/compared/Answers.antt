use Rattle.std.proofs.Common.{refl, inr}
use Rattle.krates_document.proofs.declared_source.compared.Goals as goal

pub compared_of_git-requires : goal.compared_of_git-requires
compared_of_git-requires c =
    let cut = c.in-Some.ensures.cases in
    record { rest = c.in-Some.field-0.now; is = cc }

pub returns-in-None : goal.returns-in-None
returns-in-None c = inr (λ loses. c.in-None.ensures.cases loses.0.rest loses.0.is, refl)
