use Rattle.std.proofs.Common.{string_bytes, subst}
use Rattle.std.proofs.lemmas.Result.{IfErr-weaker, IfOk-weaker}
use Rattle.krates_cli.specs.Options.{options_view}
use Rattle.krates_rules.specs.Setting.{SettingModel}
use Rattle.krates_foreign.proofs.CallLemmas.{graph_refused}
use Rattle.krates_foreign.specs.Calls.{IsUndrawnIn}
use Rattle.krates_foreign.specs.Documents.{OfDocument}
use Rattle.krates_foreign.specs.DrawnLines.{DrawsPackages}
use Rattle.krates_foreign.proofs.calls.graph.Goals as goal

pub returns-clause-drawn : goal.returns-clause-drawn
returns-clause-drawn c =
    let o = options_view c.in_ok-options.options in
    let document = c.args.document.now in
    IfOk-weaker c.drawn.result _ _
    (λ lines h. (o, c.in_ok-options.ensures.asked, subst (λ (s : SettingModel). OfDocument document (λ m. DrawsPackages s m (string_bytes lines))) c.in_ok-setting.ensures h)) c.drawn.ensures.drawn

pub returns-clause-refused : goal.returns-clause-refused
returns-clause-refused c =
    let o = options_view c.in_ok-options.options in
    let document = c.args.document.now in
    IfErr-weaker c.drawn.result _ _
    (λ e h. graph_refused document c.args.words.now o c.in_ok-options.ensures.asked e (subst (λ (s : SettingModel). IsUndrawnIn s document e) c.in_ok-setting.ensures h)) c.drawn.ensures.refused
