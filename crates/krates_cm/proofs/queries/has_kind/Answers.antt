use Rattle.std.proofs.Common.{◌∙◌, ap}
use Rattle.std.specs.List.{list_any}
use Rattle.krates_cm.specs.contracts.target.TargetKindPartialEq.TheImpl.{ghosts as kind_equality}
use Rattle.krates_cm.proofs.QueryLemmas.{has_told}
use Rattle.krates_cm.proofs.queries.has_kind.Goals as goal

pub returns : goal.returns
returns c =
    has_told c.args.target.now.kind.items c.args.kind c.contains.result
    (c.contains.ensures.value ∙ ap (list_any (λ other. kind_equality.eq other c.args.kind)) c.deref.ensures.value)
