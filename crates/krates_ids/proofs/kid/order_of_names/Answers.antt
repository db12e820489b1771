use Rattle.std.proofs.Common.{subst}
use Rattle.krates_ids.specs.Beginning.{IsBeginning}
use Rattle.krates_ids.specs.Identity.{Identity}
use Rattle.krates_ids.proofs.BeginningLemmas.{decided_by_beginning}
use Rattle.krates_ids.proofs.kid.order_of_names.Goals as goal

pub returns-in_default : goal.returns-in_default
returns-in_default c =
    let one = subst (λ (id : Identity). IsBeginning id.name c.one.inside.beginning) c.one.view_is c.one.invariant.1 in
    let other = subst (λ (id : Identity). IsBeginning id.name c.other.inside.beginning) c.other.view_is c.other.invariant.1 in
    decided_by_beginning c.args.one.now.name c.args.other.now.name c.one.inside.beginning c.other.inside.beginning c.cmp.result one other c.cmp.ensures c.in_default.not-Equal
