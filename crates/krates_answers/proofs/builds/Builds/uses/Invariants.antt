use Rattle.std.proofs.Common.{◌≡◌, All, map}
use Rattle.krates_queries.specs.KrateNodes.{match_view}
use Rattle.krates_rules.specs.Resolved.{id_of}
use Rattle.krates_answers.specs.CrateUses.{IsUse}
use Rattle.krates_answers.proofs.builds.Builds.uses.Given as goal

-- the crates so far, each with what it is used for
abbrev pub invariant-loop-krate : goal.invariant-loop-krate
invariant-loop-krate l =
    goal.iterator-loop-krate.can_next l.krate-iterator
    × goal.iterator-loop-krate.is_finite l.krate-iterator
    × (map (λ u. match_view u.krate) l.used.items ≡ map match_view l.yielded)
    × All (λ u. IsUse l.self.shipped l.self.without_dev (id_of u.krate.kid.now) u.usage) l.used.items
