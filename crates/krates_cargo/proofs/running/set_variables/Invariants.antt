use Rattle.std.proofs.Common.{◌≡◌, Some, false}
use Rattle.std.specs.Map.{lookup}
use Rattle.std.specs.Option.{option_map}
use Rattle.std.specs.Process.{SameDir, SameProgramAndArgs, clears_env, command_var}
use Rattle.std.specs.Str.{bytes_eq}
use Rattle.krates_cm.specs.Document.{Text}
use Rattle.krates_cargo.specs.Command.{variables_view}
use Rattle.krates_cargo.proofs.VariablesSet.{said_after}
use Rattle.krates_cargo.proofs.running.set_variables.Given as goal

abbrev pub invariant-loop-name : goal.invariant-loop-name
invariant-loop-name l =
    (clears_env l.command ≡ false)
    × ((name : Text) → said_after name (command_var l.command name) l.name-iterator ≡ option_map Some (lookup (bytes_eq name) (variables_view l.variables)))
    × SameProgramAndArgs l.initial.command l.command
    × SameDir l.initial.command l.command
