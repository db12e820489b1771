use Rattle.std.proofs.Common.{◌≡◌, Bor, map, string_bytes}
use Rattle.krates_cm.specs.Document.{Text}
use Rattle.krates_host.proofs.flags.between_separators.Given as goal

-- the parts so far are added
abbrev pub invariant-loop-flag : goal.invariant-loop-flag
invariant-loop-flag l =
    (goal.iterator-loop-flag).can_next l.flag-iterator
    × (goal.iterator-loop-flag).is_finite l.flag-iterator
    × (map string_bytes l.flags.items ≡ map (λ (flag : Bor Text). flag.now) l.yielded)
