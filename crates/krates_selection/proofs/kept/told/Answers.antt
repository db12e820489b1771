use Rattle.std.proofs.Common.{◌≡◌, arith}
use Rattle.std.specs.Option.{option_map}
use Rattle.krates_cm.specs.Document.{text_view}
use Rattle.krates_selection.proofs.kept.told.Goals as goal

pub returns-in_ok-kid_at-in-Crate-clause-fact : goal.returns-in_ok-kid_at-in-Crate-clause-fact
returns-in_ok-kid_at-in-Crate-clause-fact c = rw (c.in-Crate.is, c.in_ok-kid_at-in-Crate.ensures.id)

pub returns-in_ok-clone-in-Feature-clause-fact : goal.returns-in_ok-clone-in-Feature-clause-fact
returns-in_ok-clone-in-Feature-clause-fact c = rw (c.in-Feature.is, c.in_ok-kid_at-in-Feature.ensures.id, c.in_ok-clone-in-Feature.ensures.cases)

pub returns-in_ok-clone-in-Kept-clause-fact : goal.returns-in_ok-clone-in-Kept-clause-fact
returns-in_ok-clone-in-Kept-clause-fact c =
    let cfg : option_map text_view c.in_ok-clone-in-Kept.field-0 ≡ option_map text_view c.in-Kept.cfg = grind (arith, c.in_ok-clone-in-Kept.ensures.cases) in
    rw (c.in-Kept.is, c.in_ok-kid_at-in-Kept.ensures.id, c.in_ok-kid_at-in-Kept-2.ensures.id, cfg)

pub returns-in_ok-clone-in-Toggled-clause-fact : goal.returns-in_ok-clone-in-Toggled-clause-fact
returns-in_ok-clone-in-Toggled-clause-fact c = rw (c.in-Toggled.is, c.in_ok-kid_at-in-Toggled.ensures.id, c.in_ok-kid_at-in-Toggled-2.ensures.id, c.in_ok-clone-in-Toggled.ensures.cases)
