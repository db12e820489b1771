use Rattle.std.proofs.Common.{string_bytes}
use Rattle.std.proofs.lemmas.Result.{IfErr-weaker, IfOk-weaker}
use Rattle.krates_cli.specs.Options.{options_view}
use Rattle.krates_foreign.proofs.CallLemmas.{explains, why_refused}
use Rattle.krates_foreign.proofs.calls.why.Goals as goal

pub returns-clause-explained : goal.returns-clause-explained
returns-clause-explained c =
    let o = options_view c.in_ok-options.options in
    let krate = c.in_ok-kid_in.field-0 in
    IfOk-weaker c.listed.result _ _ (λ lines. explains c.args.document.now c.args.words.now c.args.id.now (string_bytes lines) o krate c.in_ok-options.ensures.asked c.in_ok-kid_in.ensures.read) c.listed.ensures.listed

pub returns-clause-refused : goal.returns-clause-refused
returns-clause-refused c =
    let o = options_view c.in_ok-options.options in
    let krate = c.in_ok-kid_in.field-0 in
    IfErr-weaker c.listed.result _ _ (why_refused c.args.document.now c.args.words.now c.args.id.now o krate c.in_ok-options.ensures.asked c.in_ok-kid_in.ensures.read) c.listed.ensures.refused
