use Rattle.std.proofs.Common.{◌<◌, ◌≤◌, ◌∙◌, arith, length, string_bytes, subst, sym}
use Rattle.std.proofs.lemmas.Option.{none-some}
use Rattle.krates_queries.specs.Why.{TellsWhy}
use Rattle.krates_cli.proofs.WhyKeptLemmas.{explains, is_node, same_first}
use Rattle.krates_cli.proofs.why_kept.why_kept.Goals as goal

pub returns-in_default-clause-refused : goal.returns-in_default-clause-refused
returns-in_default-clause-refused c = (
  c.in_ok-clone.ensures.cases,
  λ n stands. none-some n (sym c.in_default.is ∙ (c.nid_for_kid.ensures n).1 stands),
)

pub unreachable-requires : goal.unreachable-requires
unreachable-requires c =
    let k = c.args.krates.now in
    let n = c.in-Some.node in
    let first = same_first c.graph.result.now k.graph c.graph.ensures.graph c.graph.ensures.first in
    let below : n < length k.graph.nodes = is_node k c.args.krate.now n first ((c.nid_for_kid.ensures n).0 c.in-Some.is) in
    let past : length k.graph.nodes ≤ n = subst (TellsWhy k n) c.in_default-2.is c.in_ok-derivation.ensures in
    omega (arith, below, past)

pub returns-clause-explained : goal.returns-clause-explained
returns-clause-explained c =
    let k = c.args.krates.now in
    let n = c.in-Some.node in
    let first = same_first c.graph.result.now k.graph c.graph.ensures.graph c.graph.ensures.first in
    explains k c.args.krate.now n c.in-Some-2.derivation.steps.items (string_bytes c.in_ok-format.field-0) first ((c.nid_for_kid.ensures n).0 c.in-Some.is)
    (subst (TellsWhy k n) c.in-Some-2.is c.in_ok-derivation.ensures) c.in_ok-format.ensures.ok
