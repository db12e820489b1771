-- Calls that failed, and how many of them are counted. Only private functions cite this.
use Rattle.std.specs.Prelude.{◌≡◌, ◌↔◌, ℕ, Bool, true}
use Rattle.std.specs.IoError.{error_kind}
use Rattle.std.specs.declared.io.Error.{Error}
use Rattle.std.specs.declared.io.ErrorKind.TheVariants.{Interrupted}
use Rattle.krates_cli.specs.declared.failed_call.CountedCall.{CountedCall}
use Rattle.krates_cli.specs.declared.failed_call.Endpoint.{Endpoint}
use Rattle.krates_cli.specs.declared.failed_call.FailedCall.{FailedCall}
use Rattle.krates_cli.specs.declared.failed_call.Failures.{Failures}

-- the reader or writer itself
abbrev pub end_of : {T : Type 0} → Endpoint T → T
end_of e = e.inner

-- the call failed with this error
abbrev pub FailedWith : Error → FailedCall → Type 0
FailedWith error call = (call.is_interrupted ≡ true) ↔ (error_kind error ≡ Interrupted)

-- the counted call is this failed one
abbrev pub IsThatCall : FailedCall → CountedCall → Type 0
IsThatCall failed counted = counted.is_interrupted ≡ failed.is_interrupted

-- whether the call was interrupted
abbrev pub was_interrupted : CountedCall → Bool
was_interrupted call = call.is_interrupted

-- how many have failed
abbrev pub number_of : Failures → ℕ
number_of failures = failures.number
