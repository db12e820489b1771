use Rattle.std.proofs.Common.{◌≡◌, Bor, map, string_bytes}
use Rattle.std.specs.List.{flat_map}
use Rattle.krates_cm.specs.Document.{Text}
use Rattle.krates_host.specs.Flags.{flag_in}
use Rattle.krates_host.proofs.flags.plain.Given as goal

-- the flags in the parts so far are added
abbrev pub invariant-loop-part : goal.invariant-loop-part
invariant-loop-part l =
    (goal.iterator-loop-part).can_next l.part-iterator
    × (goal.iterator-loop-part).is_finite l.part-iterator
    × (map string_bytes l.flags.items ≡ flat_map flag_in (map (λ (part : Bor Text). part.now) l.yielded))
