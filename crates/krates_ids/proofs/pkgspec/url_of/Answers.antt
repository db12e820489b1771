use Rattle.krates_ids.proofs.SpecificationLemmas.{IsUrlOf-late}
use Rattle.krates_ids.proofs.pkgspec.url_of.Goals as goal

pub returns-then-has : goal.returns-then-has
returns-then-has c =
    IsUrlOf-late _ _ c.before_query-front.ensures c.in_default.ensures (rw c.if-has.true at c.has.ensures)
