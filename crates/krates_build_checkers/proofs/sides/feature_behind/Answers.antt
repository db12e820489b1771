use Rattle.std.proofs.Common.{◌++◌, ap, sym, ◌∙◌, lit<}
use Rattle.std.proofs.lemmas.Str.Pattern.{strip_prefix_char}
use Rattle.krates_cm.specs.Document.{Text}
use Rattle.krates_build_checkers.proofs.FeatureBehind.{feature_is, none_behind}
use Rattle.krates_build_checkers.proofs.sides.feature_behind.Goals as goal

pub returns-in-None : goal.returns-in-None
returns-in-None c = sym (none_behind c.args.name.now c.args.text.now (λ rest is. c.in-None.ensures.cases rest is))

pub returns-in-Some : goal.returns-in-Some
returns-in-Some c =
    let name = c.args.name.now in
    let text = c.args.text.now in
    let w = c.in-Some.ensures.cases in
    let rest = c.in-Some.rest.now in
    feature_is name text rest c.strip_prefix-in-Some.result (w.1.1 ∙ ap (λ (r : Text). name ++ r) (sym w.2)) (strip_prefix_char 47 rest c.strip_prefix-in-Some.result c.strip_prefix-in-Some.ensures.cases (lit< tt))
