use Rattle.krates_questions.specs.declared.referent.Referent.{Referent}
use Rattle.krates_resolve.specs.References.{HasFollowedAt}
use Rattle.krates_rules.proofs.Seen.{SeenBelow}
use Rattle.krates_text.specs.FeatureReference.{reference_of}
use Rattle.krates_search.specs.SearchState.{Advances}
use Rattle.krates_resolve.proofs.references.Referrer.follow_each.Given as goal

-- the reference has been followed at each referent so far
abbrev pub invariant-loop-referent : goal.invariant-loop-referent
invariant-loop-referent l =
    Advances l.self.context l.fn.found l.found
    × SeenBelow (λ (z : Referent). HasFollowedAt l.self l.found (reference_of l.reference) z.place) l.referent-items l.referent-index
