use Rattle.std.specs.Prelude.{codes}
use Rattle.std.proofs.lemmas.Str.Pattern.{contains_text}
use Rattle.krates_ids.proofs.SpecificationLemmas.{Tells-iff}
use Rattle.krates_ids.proofs.pkgspec.has_scheme.Goals as goal

pub returns : goal.returns
returns c = Tells-iff _ (contains_text _ (codes "://") c.args.text.now c.contains.ensures.cases)
