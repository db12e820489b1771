-- The status of an answer.
use Rattle.std.specs.Prelude.{ℕ, Bool, true, false, Result, Ok, Err, if◌then◌else◌}
use Rattle.std.specs.IoError.{error_kind}
use Rattle.std.specs.declared.io.Error.{Error}
use Rattle.std.specs.declared.io.ErrorKind.{ErrorKind}
use Rattle.std.specs.declared.io.ErrorKind.TheVariants.{BrokenPipe}

-- nobody reads any more
abbrev pub is_unread : ErrorKind → Bool
is_unread BrokenPipe = true
is_unread _ = false

-- all was written, or nobody reads any more
abbrev pub is_delivered : {T : Type 0} → Result T Error → Bool
is_delivered (Ok _) = true
is_delivered (Err cause) = is_unread (error_kind cause)

-- of an answer that was delivered 0 for a yes and 1 for a no, and 3 of one that couldn't be written
abbrev pub answer_status : {T : Type 0} → Result T Error → Bool → ℕ
answer_status written is_yes = if is_delivered written then (if is_yes then 0 else 1) else 3
