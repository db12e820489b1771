use Rattle.std.proofs.Common.{String, string_bytes}
use Rattle.std.specs.declared.alloc.Global.{Global}
use Rattle.krates_rules.proofs.Seen.{SeenBelow}
use Rattle.krates_units.specs.Answered.{NamesFeature}
use Rattle.krates_build_tables.specs.Unanswered.{model_taking, setting_taking}
use Rattle.krates_build_tables.proofs.unanswered.first_nameless.Given as goal

-- each text so far names a feature
abbrev pub invariant-loop-text : goal.invariant-loop-text
invariant-loop-text l = SeenBelow (λ (text : String Global). NamesFeature (model_taking l.taking) (setting_taking l.taking) (string_bytes text)) l.texts l.text-index
