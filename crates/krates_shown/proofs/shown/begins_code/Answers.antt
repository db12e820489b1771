use Rattle.std.proofs.Common.{◌∙◌, ap, sym}
use Rattle.std.proofs.lemmas.Str.{encodes-chars}
use Rattle.std.proofs.lemmas.Str.Pattern.{starts_text}
use Rattle.std.specs.Str.{chars}
use Rattle.krates_shown.specs.Shown.{begins_code, opening}
use Rattle.krates_shown.proofs.ShownLemmas.{same_beginning}
use Rattle.krates_shown.proofs.shown.begins_code.Goals as goal

pub returns : goal.returns
returns c =
    let rest = c.args.rest.now in
    starts_text c.starts_with.result opening rest c.starts_with.ensures.cases ∙ ap begins_code (sym (encodes-chars rest c.utf8.rest)) ∙ same_beginning (chars rest)
