use Rattle.std.proofs.Common.{◌∙◌}
use Rattle.std.proofs.lemmas.Result.{IfOk-weaker}
use Rattle.krates_foreign.proofs.judged.stated_for.Goals as goal

pub returns : goal.returns
returns c =
    let means = c.in_ok-choice.ensures in
    IfOk-weaker c.stated.result _ _ (λ stated is. let setting = means.setting stated.setting is.setting in let words = is.words ∙ means.words in λ i. record { setting = setting i; words = words i }) c.stated.ensures
