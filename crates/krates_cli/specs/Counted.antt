-- A reader or a writer, with the number of its failed calls.
use Rattle.std.specs.Prelude.{◌≡◌, ◌++◌, ℕ, ◌<◌, ◌-◌, ◌^◌, ◌⊎◌, List, Option, ⊤}
use Rattle.std.specs.Io.KnownBytes.{Appends}
use Rattle.krates_cli.specs.FailedCall.{end_of, number_of}
use Rattle.krates_cli.specs.declared.counted.Counted.{Counted}
use Rattle.krates_cli.specs.declared.run_error.RunError.{RunError}
use Rattle.krates_cli.specs.declared.run_error.RunError.TheVariants as errors

-- the reader or writer itself
abbrev pub inner_of : {T : Type 0} → Counted T → T
inner_of c = end_of c.inner

-- how many of its calls have failed
abbrev pub failures_of : {T : Type 0} → Counted T → ℕ
failures_of c = number_of c.failures

-- a call failed: the number grew, or is at its greatest value
abbrev pub HasFailed : {T : Type 0} → Counted T → Counted T → Type 0
HasFailed old new = (failures_of old < failures_of new) ⊎ (failures_of new ≡ 2 ^ 64 - 1)

-- why a reader isn't read to its end: one of its calls failed, or memory ran out
abbrev pub IsReadFailure : {R : Type 0} → Counted R → Counted R → RunError → Type 0
IsReadFailure old new errors.Read = HasFailed old new
IsReadFailure old new errors.Memory = ⊤
IsReadFailure old new _ = ⊥

-- the known bytes grew by some of these, from the first on
abbrev pub AppendsFront : Option (List ℕ) → Option (List ℕ) → List ℕ → Type 0
AppendsFront old new bytes = (front rest : List ℕ) × (bytes ≡ front ++ rest) × Appends old new front

-- why not all is written: a call of the writer failed
abbrev pub IsWriteFailure : {W : Type 0} → Counted W → Counted W → RunError → Type 0
IsWriteFailure old new errors.Write = HasFailed old new
IsWriteFailure old new _ = ⊥
