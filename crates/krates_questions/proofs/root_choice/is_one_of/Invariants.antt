use Rattle.std.proofs.Common.{◌≡◌, String}
use Rattle.std.specs.declared.alloc.Global.{Global}
use Rattle.krates_cm.specs.Document.{text_view}
use Rattle.krates_text.specs.Path.{components}
use Rattle.krates_rules.proofs.Seen.{SeenBelow}
use Rattle.krates_questions.proofs.root_choice.is_one_of.Given as goal

-- no path so far has the same components
abbrev pub invariant-loop-other : goal.invariant-loop-other
invariant-loop-other l = SeenBelow (λ (other : String Global). components (text_view other) ≡ components l.path → ⊥) l.paths l.other-index
