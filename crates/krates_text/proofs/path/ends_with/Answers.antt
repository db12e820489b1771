use Rattle.std.proofs.Common.{◌++◌, ◌∙◌, ap, sym}
use Rattle.std.specs.Path.{path_components}
use Rattle.krates_text.proofs.PathLemmas.{components_is}
use Rattle.krates_text.proofs.path.ends_with.Goals as goal

pub returns : goal.returns
returns c =
    let path = c.args.path.now in
    let end = c.args.end.now in
    let whole = ap path_components c.new.ensures ∙ components_is path in
    let part = components_is end in (
      (λ yes'. let at_end = c.ends_with.ensures.0 yes' in (at_end.0, sym whole ∙ at_end.1 ∙ ap (λ l. at_end.0 ++ l) part)),
      (λ at_end. c.ends_with.ensures.1 (at_end.0, whole ∙ at_end.1 ∙ ap (λ l. at_end.0 ++ l) (sym part))),
    )
