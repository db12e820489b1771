use Rattle.std.proofs.Common.{ℕ, ◌<◌, subst}
use Rattle.krates_questions.proofs.ListedFeatures.{listed_at, listed_long}
use Rattle.krates_questions.proofs.NodeParts.{within_vec}
use Rattle.krates_questions.proofs.feature_table.listed_feature.Goals as goal

pub index-requires : goal.index-requires
index-requires c =
    let d = c.document.inside.lookup in
    within_vec d.features.listed c.args.number (subst (λ (n : ℕ). c.args.number < n) (listed_long d c.document.invariant) (rw (← c.document.view_is) at c.requires.within))

pub returns : goal.returns
returns c = rw (← c.document.view_is) (listed_at c.document.inside.lookup c.args.number c.index.result.now c.document.invariant (rw (← c.document.view_is) at c.requires.within) c.index.ensures)
