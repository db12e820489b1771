use Rattle.std.proofs.Common.{String, Global, string_bytes}
use Rattle.krates_questions.specs.NodeEntry.{krate_of}
use Rattle.krates_rules.proofs.Seen.{SeenBelow}
use Rattle.krates_resolve.specs.References.{HasFollowedText}
use Rattle.krates_resolve.proofs.ReferenceLemmas.{CountsSoFar}
use Rattle.krates_search.specs.SearchState.{Advances}
use Rattle.krates_resolve.proofs.references.follow_references.Given as goal

-- each reference so far has been followed and counted
abbrev pub invariant-loop-text : goal.invariant-loop-text
invariant-loop-text l =
    Advances l.context l.fn.found l.found
    × SeenBelow (λ (text : String Global). HasFollowedText l.context l.found (krate_of l.referrer.parts) (string_bytes text)) l.values l.text-index
    × CountsSoFar l.context (krate_of l.referrer.parts) l.values l.text-index l.references
