-- What is read of a program within a limit.
use Rattle.std.specs.Prelude.{◌≡◌, ◌≤◌, ℕ, Vec, vec_len}
use Rattle.std.specs.declared.alloc.Global.{Global}
use Rattle.std.specs.declared.process.status.Output.{Output}
use Rattle.krates_host.specs.declared.printed.Printed.{Printed}

-- neither of the two is longer than the limit
abbrev pub AreWithin : ℕ → Vec ℕ Global × Vec ℕ Global → Type 0
AreWithin max both = (vec_len both.0 ≤ max) × (vec_len both.1 ≤ max)

-- the same of what goes to standard output and to standard error
abbrev pub IsWithin : ℕ → Output Global → Type 0
IsWithin max output = (vec_len output.stdout ≤ max) × (vec_len output.stderr ≤ max)

-- the limit of each stream is this
abbrev pub HasLimit : ℕ → Printed → Type 0
HasLimit max printed = (printed.stdout.max ≡ max) × (printed.stderr.max ≡ max)
