use Rattle.krates_ids.proofs.SpecificationLemmas.{IsUrlOf-tells, IsUrlOf-none}
use Rattle.krates_ids.proofs.pkgspec.is_url_of.Goals as goal

pub returns-in-Some : goal.returns-in-Some
returns-in-Some c = IsUrlOf-tells _ _ _ _ c.eq.ensures c.in-Some.ensures

pub returns-in-None : goal.returns-in-None
returns-in-None c = IsUrlOf-none _ _ c.in-None.ensures
