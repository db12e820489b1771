-- A word asks for at most one thing.
use Rattle.std.proofs.Common.{◌≡◌, ◌++◌, ◌∙◌, Bor, MatchOption, Option, None, Some, ap, codes, option_map, string_bytes, subst, sym}
use Rattle.krates_cm.specs.Document.{Text, VersionModel}
use Rattle.krates_ids.proofs.SpecificationLawLemmas.{IsSpec-no_fault, IsSpec-once}
use Rattle.krates_ids.specs.PackageSpecification.{Specification, IsSpec, IsSpecFault, spec_view, specification}
use Rattle.krates_ids.specs.SpecificationAnswers.{IsRefusedBy}
use Rattle.krates_ids.specs.declared.error.Error.{Error}
use Rattle.krates_ids.specs.declared.error.Error.TheVariants as errors
use Rattle.krates_ids.specs.declared.pkgspec.PkgSpec.{PkgSpec}
use Rattle.semver.specs.Identifiers.{parts_of}
use Rattle.semver.specs.declared.Version.{Version}
use Rattle.krates_answers.specs.WordSpecification.{AskedPackages, AsksFor, AsksForNothing, IsCompletedBy, IsNoSpec, IsNotCompletedBy, LacksNumbers, asked_view, but_for_numbers, the_last, the_last_two, whole}
use Rattle.krates_answers.specs.declared.word_specification.Completed.{Completed}
use Rattle.krates_answers.specs.declared.word_specification.WordSpecification.{WordSpecification}

pub no_spec : (word refusal : Text) → IsSpecFault word refusal → IsNoSpec word
no_spec word refusal fault spec is = IsSpec-no_fault word spec refusal is fault

abbrev given : VersionModel → Option VersionModel → VersionModel
given v None = v
given v (Some w) = w

-- what a word is completed to, with its version
abbrev full : Specification → VersionModel → Specification
full spec version = specification spec.name (Some version) spec.url

one_completion : (zeros word : Text) (s t : Specification) (v w : VersionModel) → IsCompletedBy zeros word s v → IsCompletedBy zeros word t w → (s ≡ t) × (v ≡ w)
one_completion zeros word s t v w a b =
    let same = IsSpec-once (word ++ zeros) (full s v) (full t w) a.is b.is in
    let version = a.versionless ∙ sym b.versionless in (
      λ i. record { name = (same i).name; version = version i; url = (same i).url },
      ap (λ (x : Specification). given v x.version) same,
    )

-- where one or two numbers are lacking
abbrev two : Specification → VersionModel → AskedPackages
two spec version = record { spec = spec; numbers = Some (record { major = version.0; minor = Some version.1 }) }

abbrev one : Specification → VersionModel → AskedPackages
one spec version = record { spec = spec; numbers = Some (record { major = version.0; minor = None }) }

lacks_once : (word : Text) (a b : AskedPackages) → LacksNumbers word a → LacksNumbers word b → a ≡ b
lacks_once word a b (the_last s v h) (the_last t w k) = let same = one_completion (codes ".0") word s t v w h k in λ i. two (same.0 i) (same.1 i)
lacks_once word a b (the_last s v h) (the_last_two t w n k) = absurd (n s v h)
lacks_once word a b (the_last_two s v n h) (the_last t w k) = absurd (n t w k)
lacks_once word a b (the_last_two s v n h) (the_last_two t w m k) = let same = one_completion (codes ".0.0") word s t v w h k in λ i. one (same.0 i) (same.1 i)

pub asks_once : (word : Text) (a b : AskedPackages) → AsksFor word a → AsksFor word b → a ≡ b
asks_once word a b (whole s h) (whole t k) = let same = IsSpec-once word s t h k in λ i. record { spec = same i; numbers = None }
asks_once word a b (whole s h) (but_for_numbers c n k) = absurd (n s h)
asks_once word a b (but_for_numbers c n h) (whole t k) = absurd (n t k)
asks_once word a b (but_for_numbers c n h) (but_for_numbers d m k) = lacks_once word a b h k

-- what has no such reading asks for nothing
asks_for_nothing : (word : Text) → IsNoSpec word → ((asked : AskedPackages) → LacksNumbers word asked → ⊥) → (asked : AskedPackages) → AsksFor word asked → ⊥
asks_for_nothing word none lacks asked (whole spec is) = none spec is
asks_for_nothing word none lacks asked (but_for_numbers other unread k) = lacks asked k

-- ---- with zeros

some_no_none : {A : Type 0} (a : A) → None ≡ Some a → ⊥
some_no_none a e = cc

-- a specification that is read of the word with zeros, and what is left of it without its version
pub completed : (zeros word text : Text) → text ≡ word ++ zeros → (spec : PkgSpec) → IsSpec text (string_bytes spec.name) (option_map parts_of spec.version) (option_map string_bytes spec.url)
    → (found : Option Completed) → MatchOption found (spec.version ≡ None) (λ one. (one.spec ≡ record spec { version = None }) × (spec.version ≡ Some one.version))
    → MatchOption found (IsNotCompletedBy zeros word) (λ one. IsCompletedBy zeros word (spec_view one.spec) (parts_of one.version))
completed zeros word text same spec read None lacks =
    let again = subst (λ (t : Text). IsSpec t (string_bytes spec.name) (option_map parts_of spec.version) (option_map string_bytes spec.url)) same read in
    λ other version by.
    let e = IsSpec-once (word ++ zeros) (spec_view spec) (full other version) again by.is in
    some_no_none version (ap (option_map parts_of) (sym lacks) ∙ ap (λ (x : Specification). x.version) e)
completed zeros word text same spec read (Some left_one) left = record {
  is = subst (λ (t : Text). IsSpec t (string_bytes left_one.spec.name) (Some (parts_of left_one.version)) (option_map string_bytes left_one.spec.url)) same
      (subst (λ (p : PkgSpec). IsSpec text (string_bytes p.name) (Some (parts_of left_one.version)) (option_map string_bytes p.url)) (sym left.0)
      (subst (λ (v : Option Version). IsSpec text (string_bytes spec.name) (option_map parts_of v) (option_map string_bytes spec.url)) left.1 read));
  versionless = ap (λ (p : PkgSpec). option_map parts_of p.version) left.0;
}

pub not_completed : (zeros word text : Text) → text ≡ word ++ zeros → (refusal : Text) → IsSpecFault text refusal → IsNotCompletedBy zeros word
not_completed zeros word text same refusal fault spec version by = IsSpec-no_fault (word ++ zeros) (full spec version) refusal by.is (subst (λ (t : Text). IsSpecFault t refusal) same fault)

-- the reason that a refusal tells
pub fault_told : (text : Text) (e : Error) (what : Bor Text) → e ≡ errors.InvalidPkgSpec what → IsRefusedBy (IsSpecFault text) e → IsSpecFault text what.now
fault_told text e what is refused = subst (IsRefusedBy (IsSpecFault text)) is refused

-- ---- which numbers a word lacks

-- what reading the word with zeros answers
abbrev Tells : Text → Text → Option Completed → Type 0
Tells zeros word found = MatchOption found (IsNotCompletedBy zeros word) (λ left. IsCompletedBy zeros word (spec_view left.spec) (parts_of left.version))

-- the last is lacking
pub lacks_the_last : (word : Text) (found : Option Completed) (left : Completed) (asked : AskedPackages) → Tells (codes ".0") word found → found ≡ Some left
    → asked ≡ record { spec = spec_view left.spec; numbers = Some (record { major = left.version.major; minor = Some left.version.minor }) } → LacksNumbers word asked
lacks_the_last word found left asked told is same = subst (LacksNumbers word) (sym same) (the_last (spec_view left.spec) (parts_of left.version) (subst (Tells (codes ".0") word) is told))

-- or the last two are
pub lacks_the_last_two : (word : Text) (found again : Option Completed) (left : Completed) (asked : AskedPackages) → Tells (codes ".0") word found → found ≡ None → Tells (codes ".0.0") word again → again ≡ Some left
    → asked ≡ record { spec = spec_view left.spec; numbers = Some (record { major = left.version.major; minor = None }) } → LacksNumbers word asked
lacks_the_last_two word found again left asked told none also is same =
    subst (LacksNumbers word) (sym same) (the_last_two (spec_view left.spec) (parts_of left.version) (subst (Tells (codes ".0") word) none told) (subst (Tells (codes ".0.0") word) is also))

-- or none is
lacks_none : (word : Text) → IsNotCompletedBy (codes ".0") word → IsNotCompletedBy (codes ".0.0") word → (asked : AskedPackages) → LacksNumbers word asked → ⊥
lacks_none word last last_two asked (the_last spec version by) = last spec version by
lacks_none word last last_two asked (the_last_two spec version none by) = last_two spec version by

pub lacks_no_number : (word : Text) (found again : Option Completed) → Tells (codes ".0") word found → found ≡ None → Tells (codes ".0.0") word again → again ≡ None → (asked : AskedPackages) → LacksNumbers word asked → ⊥
lacks_no_number word found again told none also neither = lacks_none word (subst (Tells (codes ".0") word) none told) (subst (Tells (codes ".0.0") word) neither also)

-- ---- what a word asks for

abbrev IsTold : Text → Option WordSpecification → Type 0
IsTold word found = MatchOption found ((asked : AskedPackages) → LacksNumbers word asked → ⊥) (λ asked. LacksNumbers word (asked_view asked))

pub asks_but_for_numbers : (word refusal : Text) → IsSpecFault word refusal → (found : Option WordSpecification) (asked : WordSpecification) → IsTold word found → found ≡ Some asked → AsksFor word (asked_view asked)
asks_but_for_numbers word refusal fault found asked told is = but_for_numbers (asked_view asked) (no_spec word refusal fault) (subst (IsTold word) is told)

pub asks_for_none : (word refusal : Text) → IsSpecFault word refusal → (found : Option WordSpecification) → IsTold word found → found ≡ None → AsksForNothing word refusal
asks_for_none word refusal fault found told is = record { fault = fault; nothing = asks_for_nothing word (no_spec word refusal fault) (subst (IsTold word) is told) }
