-- The numbers by which other languages know how a call ended, and which refusal has which number.
use Rattle.std.specs.Prelude.{ℕ}
use Rattle.krates_foreign.specs.declared.refusal.CallRefusal.{CallRefusal}
use Rattle.krates_foreign.specs.declared.refusal.CallRefusal.TheVariants as refusals
use Rattle.krates_foreign.specs.declared.status.Status.{Status}
use Rattle.krates_foreign.specs.declared.status.Status.TheVariants as statuses

abbrev pub number_of : Status → ℕ
number_of statuses.Answered = 0
number_of statuses.Words = 1
number_of statuses.Id = 2
number_of statuses.Utf8 = 3
number_of statuses.Parse = 4
number_of statuses.Build = 5
number_of statuses.NotKept = 6
number_of statuses.Certificate = 7
number_of statuses.TooShort = 8
number_of statuses.Memory = 9

-- the status of a refusal
abbrev pub status_of : CallRefusal → Status
status_of refusals.Words = statuses.Words
status_of refusals.Id = statuses.Id
status_of refusals.Utf8 = statuses.Utf8
status_of (refusals.Parse cause) = statuses.Parse
status_of (refusals.Build cause) = statuses.Build
status_of (refusals.NotKept krate) = statuses.NotKept
status_of (refusals.Certificate cause) = statuses.Certificate
status_of refusals.Memory = statuses.Memory
