use Rattle.std.proofs.Common.{◌≡◌, ◌++◌, map, take}
use Rattle.std.specs.Process.{SameDir, SameEnv, command_args, command_program}
use Rattle.krates_cm.specs.Document.{text_view}
use Rattle.krates_cargo.proofs.running.add_words.Given as goal

abbrev pub invariant-loop-word : goal.invariant-loop-word
invariant-loop-word l =
    (command_args l.command ≡ command_args l.initial.command ++ map text_view (take l.word-index l.words))
    × (command_program l.command ≡ command_program l.initial.command)
    × SameEnv l.initial.command l.command
    × SameDir l.initial.command l.command
