use Rattle.std.proofs.Common.{ℕ, List, Bor, map, string_bytes}
use Rattle.krates_text.specs.RustcCfg.{AreValuesIn}
use Rattle.krates_text.proofs.rustc_cfg.values.Given as goal

-- the values of the lines so far
abbrev pub invariant-loop-line : goal.invariant-loop-line
invariant-loop-line l = goal.iterator-loop-line.can_next l.line-iterator
    × goal.iterator-loop-line.is_finite l.line-iterator
    × AreValuesIn l.key (map (λ (line : Bor (List ℕ)). line.now) l.yielded) (map string_bytes l.values.items)
