use Rattle.std.proofs.Common.{◌≡◌, List, [], Option, Some, None, map, option_map, rules, sym, ap, ◌∙◌}
use Rattle.std.specs.BTreeMap.{get_by_text}
use Rattle.std.specs.Option.{unwrap_or}
use Rattle.krates_cm.specs.Document.{Text, text_view, texts_view}
use Rattle.krates_questions.proofs.FeatureNames.{named_here}
use Rattle.krates_drawing.proofs.gather.values_of.Goals as goal

pub returns-in-Some : goal.returns-in-Some
returns-in-Some c =
    let pkg = c.args.pkg.now in
    let found : get_by_text pkg.features c.args.name.now ≡ Some c.in-Some.values.now = search rules in
    ap (map text_view) c.deref.ensures.value ∙ sym (ap (λ (o : Option (List Text)). unwrap_or o []) (named_here pkg c.args.name.now ∙ ap (option_map texts_view) found))

pub returns-in-None : goal.returns-in-None
returns-in-None c =
    let pkg = c.args.pkg.now in
    let found : get_by_text pkg.features c.args.name.now ≡ None = search rules in
    sym (ap (λ (o : Option (List Text)). unwrap_or o []) (named_here pkg c.args.name.now ∙ ap (option_map texts_view) found))
