-- How an answer is put into the room that the caller lends.
use Rattle.std.specs.Prelude.{◌≡◌, ◌⊎◌, ◌++◌, ◌<◌, ◌≤◌, [], IfOk, IfSome, Ok, Err, Result, String, drop, length, string_bytes}
use Rattle.std.specs.declared.alloc.Global.{Global}
use Rattle.krates_cm.specs.Document.{Text}
use Rattle.krates_shown.specs.Shown.{shown_text}
use Rattle.krates_verdict.specs.declared.refusal.Refusal.TheVariants as verdicts
use Rattle.krates_foreign.specs.CallRefusalText.{refusal_text}
use Rattle.krates_foreign.specs.Status.{number_of, status_of}
use Rattle.krates_foreign.specs.declared.handing.Answer.{Answer}
use Rattle.krates_foreign.specs.declared.refusal.CallRefusal.{CallRefusal}
use Rattle.krates_foreign.specs.declared.refusal.CallRefusal.TheVariants as refusals
use Rattle.krates_foreign.specs.declared.status.Status.{Status}
use Rattle.krates_foreign.specs.declared.status.Status.TheVariants as statuses

-- ---- one text

-- The text is at the front of the room, and after it the room is as it was; the answer has its status and its length.
pub record Fits (status : Status) (text : Text) (answer : Answer) (old new : Text) : Type 0 where
  pub room : length text ≤ length old
  pub status_is : answer.status ≡ number_of status
  pub length_is : answer.length ≡ length text
  pub written : new ≡ text ++ drop (length text) old

-- There is no room for it: nothing was written, and the answer says so, with the room that it needs.
pub record FitsNot (text : Text) (answer : Answer) (old new : Text) : Type 0 where
  pub room : length old < length text
  pub status_is : answer.status ≡ number_of statuses.TooShort
  pub length_is : answer.length ≡ length text
  pub unwritten : new ≡ old

abbrev pub IsHanded : Status → Text → Answer → Text → Text → Type 0
IsHanded status text answer old new = Fits status text answer old new ⊎ FitsNot text answer old new

-- ---- one of several

-- A text was handed over that may be returned with its status.
abbrev pub Hands : (Status → Text → Type 0) → Answer → Text → Text → Type 0
Hands MayTell answer old new = (status : Status) × (text : Text) × MayTell status text × IsHanded status text answer old new

-- What is handed over for a refusal that prints this: what it prints, as it is shown. The words of another setting are printed as they are
-- shown already.
abbrev pub handed_text : CallRefusal → Text → Text
handed_text (refusals.Certificate (verdicts.Setting claimed)) printed = printed
handed_text _ printed = shown_text printed

-- The text of a refusal.
pub record TellsRefusal (refusal : CallRefusal) (text : Text) : Type 0 where
  pub not_memory : refusal ≡ refusals.Memory → ⊥
  pub printed : Text
  pub printed_is : IfSome (refusal_text refusal) (λ stated. printed ≡ stated)
  pub text_is : text ≡ handed_text refusal printed

-- An answer, or a refusal with its status; where memory runs out, no text.
pub data Tells (Answers : Text → Type 0) (Refuses : CallRefusal → Type 0) : Status → Text → Type 0 where
  answered : {text : Text} → Answers text → Tells Answers Refuses statuses.Answered text
  refused : {text : Text} {refusal : CallRefusal} → Refuses refusal → TellsRefusal refusal text → Tells Answers Refuses (status_of refusal) text
  no_memory : Tells Answers Refuses statuses.Memory []

-- the same for the result of a call
abbrev pub TellsOf : Result (String Global) CallRefusal → Status → Text → Type 0
TellsOf told = Tells (λ text. (s : String Global) × (told ≡ Ok s) × (string_bytes s ≡ text)) (λ refusal. told ≡ Err refusal)

-- Where a call has an answer, its text was handed over, and nothing else.
abbrev pub HandsText : Result (String Global) CallRefusal → Answer → Text → Text → Type 0
HandsText told answer old new = IfOk told (λ text. IsHanded statuses.Answered (string_bytes text) answer old new)
