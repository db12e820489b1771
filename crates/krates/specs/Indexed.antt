-- The document that a build resolves: the one that it is given, or that with each package corrected by what an index answers.
use Rattle.std.specs.Prelude.{◌≡◌, List, Option, Some, None, IsSomeAnd, ⊤}
use Rattle.std.specs.BTreeSet.{contains_text}
use Rattle.std.specs.List.{list_any}
use Rattle.std.specs.Str.{bytes_eq}
use Rattle.krates_cm.specs.Document.{Text, text_view}
use Rattle.krates_cm.specs.declared.metadata.Metadata.{Metadata}
use Rattle.krates_cm.specs.declared.package.Package.{Package}
use Rattle.krates_ids.specs.declared.index.IndexAnswer.{IndexAnswer}
use Rattle.krates_ids.specs.declared.index.PackageNames.{PackageNames}
use Rattle.krates_document.specs.CorrectedDocument.{IsCorrectedDocument}

-- the set has exactly the names of the packages
abbrev pub HasNames : List Package → PackageNames → Type 0
HasNames packages s = (t : Text) → contains_text s.names t ≡ list_any (λ p. bytes_eq (text_view p.name) t) packages

-- Whether an index may be asked about a document: for a set of exactly the names of its packages. Without one nothing is asked.
abbrev pub IsAskable : {S : Type 0} → (S → PackageNames → Type 0) → Option S → Metadata → Type 0
IsAskable may_ask None m = ⊤
IsAskable may_ask (Some source) m = (names : PackageNames) → HasNames m.packages.items names → may_ask source names

-- which answers a source may give for which names
abbrev pub Answering : Type 0 → Type 1
Answering S = S → PackageNames → IndexAnswer → Type 0

-- the index may give this answer for the names of all packages; without an index there is none
abbrev pub MayAnswer : {S : Type 0} → Answering S → Option S → List Package → Option IndexAnswer → Type 0
MayAnswer may_answer None packages answer = answer ≡ None
MayAnswer may_answer (Some source) packages answer = (names : PackageNames) × HasNames packages names × IsSomeAnd answer (may_answer source names)

-- the document that is looked at: without an answer of an index the given one, with one that whose packages it corrects
abbrev pub IsSeenBy : Option IndexAnswer → Metadata → Metadata → Type 0
IsSeenBy None given seen = seen ≡ given
IsSeenBy (Some answer) given seen = IsCorrectedDocument answer given seen

-- this holds of the document that is resolved: of the given one, as it is seen by what the index answers
pub record Sees {S : Type 0} (may_answer : Answering S) (index : Option S) (given : Metadata) (P : Metadata → Type 0) : Type 0 where
  pub answer : Option IndexAnswer
  pub is_answer : MayAnswer may_answer index given.packages.items answer
  pub seen : Metadata
  pub is_seen : IsSeenBy answer given seen
  pub holds : P seen

-- this is the document that is resolved
abbrev pub IsSeen : {S : Type 0} → Answering S → Option S → Metadata → Metadata → Type 0
IsSeen may_answer index given seen = Sees may_answer index given (λ m. m ≡ seen)
