-- What is said of the answer of a call follows from the call's clauses.
use Rattle.std.proofs.Common.{IfErr, IfOk, Result, String, Global, string_bytes, subst}
use Rattle.krates_cm.specs.Document.{Text}
use Rattle.krates_foreign.specs.Handing.{Hands, Tells, TellsOf, answered, no_memory, refused}
use Rattle.krates_foreign.specs.declared.handing.Answer.{Answer}
use Rattle.krates_foreign.specs.declared.refusal.CallRefusal.{CallRefusal}
use Rattle.krates_foreign.specs.declared.status.Status.{Status}

tells : {Answers : Text → Type 0} {Refuses : CallRefusal → Type 0} (told : Result (String Global) CallRefusal) (status : Status) (text : Text) → IfOk told (λ s. Answers (string_bytes s)) → IfErr told Refuses
    → TellsOf told status text → Tells Answers Refuses status text
tells {Answers} {Refuses} told _ _ ok err (answered (s, is, same)) = answered (subst Answers same (subst (λ r. IfOk r (λ s. Answers (string_bytes s))) is ok))
tells {Answers} {Refuses} told _ _ ok err (refused is says) = refused (subst (λ r. IfErr r Refuses) is err) says
tells told _ _ ok err no_memory = no_memory

-- so what was handed over is an answer, or a refusal
pub hands : {Answers : Text → Type 0} {Refuses : CallRefusal → Type 0} (told : Result (String Global) CallRefusal) (answer : Answer) (old new : Text) → IfOk told (λ s. Answers (string_bytes s)) → IfErr told Refuses
    → Hands (TellsOf told) answer old new → Hands (Tells Answers Refuses) answer old new
hands told answer old new ok err (status, text, may, handed) = (status, text, tells told status text ok err may, handed)
