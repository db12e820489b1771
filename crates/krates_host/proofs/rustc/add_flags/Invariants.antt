use Rattle.std.proofs.Common.{◌≡◌, ◌++◌, map, string_bytes, take}
use Rattle.std.specs.Process.{command_args, command_dir, command_program}
use Rattle.krates_host.proofs.rustc.add_flags.Given as goal

abbrev pub invariant-loop-flag : goal.invariant-loop-flag
invariant-loop-flag l =
    (command_program l.command ≡ command_program l.fn.command)
    × (command_args l.command ≡ command_args l.fn.command ++ map string_bytes (take l.flag-index l.flags))
    × (command_dir l.command ≡ command_dir l.fn.command)
