-- When what was written for a part of a certificate reads as that part.
use Rattle.std.specs.Prelude.{◌≡◌, ◌<◌, map}
use Rattle.std.specs.List.{AllByRecursion}
use Rattle.serde_json.specs.Data.{Data}
use Rattle.krates_cm.specs.Document.{Text}
use Rattle.krates_cm_json.specs.Objects.{Writer}
use Rattle.krates_ids.specs.Identity.{Identity, Reads}
use Rattle.krates_certificate.specs.CertificateRefusals.{Fault}
use Rattle.krates_certificate.specs.CertificateViews.{ToldFact, told_crate, told_feature, told_kept, told_toggled, ToldStep, ToldCertificate, told_derivation, told_closed, said_fact, said_step}

-- ---- what can be written: parts whose ids were read of some text, and whose rules have numbers of a byte

abbrev pub WasRead : Identity → Type 0
WasRead id = (t : Text) × Reads t id

abbrev pub IsWritableFact : ToldFact → Type 0
IsWritableFact (told_crate krate) = WasRead krate
IsWritableFact (told_feature krate name) = WasRead krate
IsWritableFact (told_kept parent child kind cfg) = WasRead parent × WasRead child
IsWritableFact (told_toggled parent child name) = WasRead parent × WasRead child

abbrev pub IsWritableStep : ToldStep → Type 0
IsWritableStep x = IsWritableFact x.fact × (x.rule < 256)

abbrev pub IsWritable : ToldCertificate → Type 0
IsWritable (told_derivation setting steps) = AllByRecursion IsWritableStep steps
IsWritable (told_closed setting facts) = AllByRecursion IsWritableFact facts

-- ---- which parts are the same: those that say the same by the rules, so with the same name, version and source in each id

abbrev pub IsSameFact : ToldFact → ToldFact → Type 0
IsSameFact x y = said_fact x ≡ said_fact y

abbrev pub IsSameStep : ToldStep → ToldStep → Type 0
IsSameStep x y = said_step x ≡ said_step y

abbrev pub IsSameCertificate : ToldCertificate → ToldCertificate → Type 0
IsSameCertificate (told_derivation s xs) (told_derivation s' xs') = (s ≡ s') × (map said_step xs ≡ map said_step xs')
IsSameCertificate (told_closed s fs) (told_closed s' fs') = (s ≡ s') × (map said_fact fs ≡ map said_fact fs')
IsSameCertificate _ _ = ⊥

-- ---- the laws

-- Whatever is written for a part that can be written is read as the same part.
abbrev pub WrittenIsRead : {A : Type 0} → Writer A → Writer A → (A → Type 0) → (A → A → Type 0) → Type 0
WrittenIsRead {A} Written Is IsWritable IsSame = (x : A) (d : Data) → IsWritable x → Written x d → (y : A) × Is y d × IsSame y x

-- Data is read as at most one part.
abbrev pub ReadsOnce : {A : Type 0} → Writer A → Type 0
ReadsOnce {A} Is = (x y : A) (d : Data) → Is x d → Is y d → x ≡ y

-- No fault is true of data that is read.
abbrev pub NeverBoth : {A : Type 0} → Writer A → (Data → Fault → Type 0) → Type 0
NeverBoth {A} Is IsFault = (x : A) (d : Data) (fault : Fault) → Is x d → IsFault d fault → ⊥
