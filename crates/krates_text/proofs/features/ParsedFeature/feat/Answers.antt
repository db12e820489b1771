use Rattle.std.proofs.Common.{refl}
use Rattle.std.specs.Prelude.{codes}
use Rattle.krates_text.proofs.TextLemmas.{cut_at_first, lacks_text}
use Rattle.krates_text.proofs.features.ParsedFeature.feat.Goals as goal

pub returns-in-Some-split_once : goal.returns-in-Some-split_once
returns-in-Some-split_once c = (
  λ b. c.in_default.ensures.cases b.rest b.is,
  cut_at_first _ _ (c.in-Some-split_once.krate, c.in-Some-split_once.feature) c.in-Some-split_once.ensures.cases,
)

pub returns-in-Some-split_once-2 : goal.returns-in-Some-split_once-2
returns-in-Some-split_once-2 c = (
  λ b. c.in_default.ensures.cases b.rest b.is,
  lacks_text (codes "?/") c.args.self.now.text.now c.in_default-split_once.ensures.cases,
  cut_at_first _ _ (c.in-Some-split_once-2.krate, c.in-Some-split_once-2.feature) c.in-Some-split_once-2.ensures.cases,
)

pub returns-in-None : goal.returns-in-None
returns-in-None c = (
  λ b. c.in_default.ensures.cases b.rest b.is,
  lacks_text (codes "/") c.args.self.now.text.now c.in-None.ensures.cases,
  refl,
)
