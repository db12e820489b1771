-- What the program leaves where it refuses.
use Rattle.std.proofs.Common.{◌≡◌, ◌⊎◌, ℕ, List, Option, refl, inl, inr, arith}
use Rattle.krates_cm.specs.Document.{Text}
use Rattle.krates_cli.specs.CommandLine.{Asking, IsCause, IsTold, LeavesEnds, TellsCause, WritesFront, no_memory_line, usage_line}
use Rattle.krates_cli.specs.Counted.{inner_of}
use Rattle.krates_cli.specs.Options.{OptionsModel, IsCommandLine, request_of}
use Rattle.krates_cli.specs.RunError.{run_error_text}
use Rattle.krates_cli.specs.declared.counted.Counted.{Counted}
use Rattle.krates_cli.specs.declared.options.OptionsError.{OptionsError}
use Rattle.krates_cli.specs.declared.options.OptionsError.TheVariants as unread
use Rattle.krates_cli.specs.declared.run_error.RunError.{RunError}
use Rattle.krates_cli.specs.declared.run_error.RunError.TheVariants as errors

-- words that aren't read end with the status 1 where memory ran out alone
pub refused_words : {R W E : Type 0} (contents : E → Option Text) (words : List Text) (remaining : Option Text) (input : Counted R) (output : Counted W) (old new : Counted E) (error : OptionsError) (status : ℕ)
    → (error ≡ unread.Unknown → (status ≡ 2) × IsTold contents old new usage_line) → (error ≡ unread.Memory → (status ≡ 1) × IsTold contents old new no_memory_line) → status ≡ 1
    → (cause : RunError) × IsCause words remaining cause × LeavesEnds input input output output cause × TellsCause contents old new (run_error_text cause)
refused_words contents words remaining input output old new unread.Unknown status unknown memory one = let two = (unknown refl).0 in absurd (omega (arith, one, two))
refused_words contents words remaining input output old new unread.Memory status unknown memory one = (
  errors.Memory,
  inl refl,
  record { read = λ e. absurd cc; write = λ e. absurd cc; unwritten = λ _. refl },
  inr (memory refl).1,
)

-- a beginning is written, or nothing
abbrev pub IsFrontOrNothing : {W : Type 0} → (W → Option Text) → List Text → Option Text → Counted W → Counted W → Type 0
IsFrontOrNothing contents words remaining output left =
    (left ≡ output) ⊎ Asking words (λ o. WritesFront o.cargo (request_of o) remaining (contents (inner_of output)) (contents (inner_of left)))

pub front_or_nothing : {R W : Type 0} (contents : W → Option Text) (words : List Text) (remaining : Option Text) (o : OptionsModel) (input after : Counted R) (output left : Counted W) (cause : RunError) → IsCommandLine words o → LeavesEnds input after output left cause
    → (cause ≡ errors.Write → WritesFront o.cargo (request_of o) remaining (contents (inner_of output)) (contents (inner_of left))) → IsFrontOrNothing contents words remaining output left
front_or_nothing contents words remaining o input after output left errors.Write line ends front = inr (o, line, front refl)
front_or_nothing contents words remaining o input after output left errors.Read line ends front = inl (ends.unwritten (λ e. absurd cc))
front_or_nothing contents words remaining o input after output left errors.Utf8 line ends front = inl (ends.unwritten (λ e. absurd cc))
front_or_nothing contents words remaining o input after output left (errors.Parse cause) line ends front = inl (ends.unwritten (λ e. absurd cc))
front_or_nothing contents words remaining o input after output left (errors.Build cause) line ends front = inl (ends.unwritten (λ e. absurd cc))
front_or_nothing contents words remaining o input after output left errors.Memory line ends front = inl (ends.unwritten (λ e. absurd cc))
front_or_nothing contents words remaining o input after output left (errors.NotKept krate) line ends front = inl (ends.unwritten (λ e. absurd cc))
