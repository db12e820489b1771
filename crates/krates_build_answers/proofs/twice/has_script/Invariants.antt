use Rattle.std.proofs.Common.{All, take}
use Rattle.krates_built.specs.declared.places.ScriptPlace.{ScriptPlace}
use Rattle.krates_build_answers.specs.BuiltTwice.{IsScriptOn}
use Rattle.krates_build_answers.proofs.twice.has_script.Given as goal

-- none so far
abbrev pub invariant-loop-script : goal.invariant-loop-script
invariant-loop-script l = All (λ (x : ScriptPlace). IsScriptOn l.krate l.side x → ⊥) (take l.script-index l.scripts)
