-- Why what rustc printed isn't read.
use Rattle.std.specs.Prelude.{⊤}
use Rattle.krates_cm.specs.Document.{Text}
use Rattle.krates_units.specs.declared.machine.MachineError.{MachineError}
use Rattle.krates_units.specs.declared.machine.MachineError.TheVariants as errors
use Rattle.krates_units.specs.RustcLines.{IsFirstOther}

-- the refusal is true of the text
abbrev pub IsFaultOf : Text → MachineError → Type 0
IsFaultOf printed (errors.BadLine number) = IsFirstOther printed number
IsFaultOf printed errors.Memory = ⊤
