use Rattle.std.proofs.Common.{map, take}
use Rattle.krates_cm.specs.Document.{dependency_view}
use Rattle.krates_questions.specs.Lookup.{resolved_view}
use Rattle.krates_rules.specs.Resolved.{id_of}
use Rattle.krates_build_tables.proofs.FeatureLemmas.{Implies}
use Rattle.krates_build_tables.proofs.Listing.{Lists}
use Rattle.krates_build_tables.proofs.features.implied_by.Given as goal

-- the names of those so far
abbrev pub invariant-loop-declared : goal.invariant-loop-declared
invariant-loop-declared l = Lists (Implies (resolved_view l.document) (id_of l.krate)) (map dependency_view (take l.declared-index l.declared-items)) (map (λ t. t.now) l.names.items)
