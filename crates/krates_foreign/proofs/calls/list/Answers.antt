use Rattle.std.proofs.Common.{string_bytes}
use Rattle.std.proofs.lemmas.Result.{IfErr-weaker, IfOk-weaker}
use Rattle.krates_cli.specs.Options.{options_view}
use Rattle.krates_foreign.proofs.CallLemmas.{list_refused, lists}
use Rattle.krates_foreign.proofs.calls.list.Goals as goal

pub returns-clause-listed : goal.returns-clause-listed
returns-clause-listed c =
    let o = options_view c.in_ok-options.options in
    IfOk-weaker c.listed.result _ _ (λ lines. lists c.args.document.now c.args.words.now (string_bytes lines) o c.in_ok-options.ensures.asked) c.listed.ensures.listed

pub returns-clause-refused : goal.returns-clause-refused
returns-clause-refused c =
    let o = options_view c.in_ok-options.options in
    IfErr-weaker c.listed.result _ _ (list_refused c.args.document.now c.args.words.now o c.in_ok-options.ensures.asked) c.listed.ensures.refused
