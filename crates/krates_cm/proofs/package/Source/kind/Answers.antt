use Rattle.std.proofs.Common.{◌∙◌, ap, sym}
use Rattle.krates_cm.specs.Queries.{source_kind}
use Rattle.krates_cm.proofs.QueryLemmas.{other_kind}
use Rattle.krates_cm.proofs.package.Source.kind.Goals as goal

pub returns-else-starts_with-4 : goal.returns-else-starts_with-4
returns-else-starts_with-4 c =
    sym (other_kind c.as_str-text.result.now c.if-starts_with.ensures.cases c.if-starts_with-2.ensures.cases c.if-starts_with-3.ensures.cases c.if-starts_with-4.ensures.cases)
    ∙ ap source_kind c.as_str-text.ensures.value
