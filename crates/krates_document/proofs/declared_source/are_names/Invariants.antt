use Rattle.std.proofs.Common.{◌≡◌, ◌++◌, ℕ, List, map, Bor}
use Rattle.std.specs.Path.{components_remaining}
use Rattle.krates_text.specs.Path.{components}
use Rattle.krates_document.proofs.declared_source.are_names.Given as goal

-- the names so far are the components so far
abbrev pub invariant-loop-name : goal.invariant-loop-name
invariant-loop-name l =
    (goal.iterator-loop-name).can_next l.name-iterator
    × (goal.iterator-loop-name).is_finite l.name-iterator
    × (components l.directory ≡ map (λ (name : Bor (List ℕ)). name.now) l.yielded ++ components_remaining l.left)
