use Rattle.std.proofs.Common.{◌∙◌, ◌++◌, codes, sym, ap}
use Rattle.krates_text.proofs.RustcCfg.{value_before_quote}
use Rattle.krates_text.proofs.rustc_cfg.value_in.Goals as goal

pub returns : goal.returns
returns c =
    let key = c.args.key.now in
    let behind = c.in_ok-behind.ensures.cases in
    let quoted = c.in_ok-quoted.ensures.cases in
    let front = behind.1.1 ∙ ap (λ l. key ++ l) (sym behind.2) in
    let equals = quoted.1.1 ∙ ap (λ l. codes "=\"" ++ l) (sym quoted.2) in
    value_before_quote key _ _ _ c.strip_suffix.result front equals c.strip_suffix.ensures.cases
