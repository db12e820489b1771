-- Which package of a document has the id of a crate.
use Rattle.std.proofs.Common.{◌≡◌, ◌↔◌, ◌<◌, ◌≤◌, ℕ, Bool, false, IsTrue, List, Contains, length, get_or, map, true, sym, ap, ◌∙◌, subst, Result, Ok, Err, IfOk, MatchResult}
use Rattle.std.proofs.lemmas.Bool.{false≢true}
use Rattle.std.proofs.lemmas.Simd.{map-map}
use Rattle.krates_cm.specs.Document.{Text, id_view, metadata_view, package_view}
use Rattle.krates_cm.specs.declared.metadata.Metadata.{Metadata}
use Rattle.krates_cm.specs.declared.package.Package.{Package}
use Rattle.krates_cm.specs.declared.package_id.PackageId.{PackageId}
use Rattle.krates_ids.specs.Identity.{Fault, Identity, IsFault, IsSameId, Reads, same_id}
use Rattle.krates_rules.specs.Admission.{package_texts}
use Rattle.krates_rules.specs.Facts.{Id}
use Rattle.krates_rules.specs.Resolved.{ReadsAs, id_of}
use Rattle.krates_verdict.specs.NamedFact.{IsOfPackage}
use Rattle.krates_rules.proofs.Elements.{contains_read}
use Rattle.krates_rules.proofs.Readings.{ReadsOnce}
use Rattle.krates_rules.proofs.Seen.{SeenBelow, each_seen}

-- ---- one text

-- the test of two ids tells whether they are the same
abbrev pub TestTellsSame : Type 0
TestTellsSame = (a b : Identity) → (same_id a b ≡ true) ↔ IsSameId a b

same_parts : (a b : Identity) → IsSameId a b → id_of a ≡ id_of b
same_parts a b same = λ i. record { name = same.name i; version = same.version i; source = same.source i }

of_parts : (a b : Identity) → id_of a ≡ id_of b → IsSameId a b
of_parts a b is = record { name = ap (λ (i : Id). i.name) is; version = ap (λ (i : Id). i.version) is; source = ap (λ (i : Id). i.source) is }

-- a text that was read has the id of the crate where the test says so
pub told : ReadsOnce → TestTellsSame → (t : Text) (own krate : Identity) (is : Bool) → Reads t own → is ≡ same_id own krate → IsTrue is ↔ ReadsAs t (id_of krate)
told once tells t own krate is reads test = (
  λ yes. record { read = own; reads = reads; same = same_parts own krate ((tells own krate).0 (sym test ∙ yes)) },
  λ h.
      let read : h.read ≡ own = once t h.read own h.reads reads in
      let same : id_of own ≡ id_of krate = sym (ap id_of read) ∙ h.same in
      test ∙ (tells own krate).1 (of_parts own krate same),
)

-- a text that isn't an id has none
pub none : (t : Text) (i : Id) (fault : Fault) → ((t : Text) (id : Identity) (fault : Fault) → Reads t id → IsFault t fault → ⊥) → IsFault t fault → IsTrue false ↔ ReadsAs t i
none t i fault never is = (λ yes. absurd (false≢true yes), λ h. absurd (never t h.read fault h.reads is))

-- ---- those of the packages

abbrev pub id_text : Package → Text
id_text p = id_view p.id

texts_of : (m : Metadata) → map id_text m.packages.items ≡ package_texts (metadata_view m)
texts_of m = sym (map-map (λ p. p.id) package_view m.packages.items)

-- the id text of a package that was read
pub among : (m : Metadata) (xs : List Package) (k : ℕ) (x : Package) → xs ≡ m.packages.items → k < length xs → x ≡ get_or xs k x → Contains (package_texts (metadata_view m)) (id_text x)
among m xs k x all lt is = subst (λ (texts : List Text). Contains texts (id_text x)) (ap (map id_text) all ∙ texts_of m) (contains_read id_text xs k x lt is)

-- what holds of an id text holds of its copy
pub copied : {X : Type 0} (F : X → Type 0) (id : PackageId) (r : Result PackageId X) (P : Text → Type 0) → P (id_view id) → MatchResult r (λ copy. id_view copy ≡ id_view id) F → IfOk r (λ copy. P (id_view copy))
copied F id (Ok copy) P h same = subst P (sym same) h
copied F id (Err e) P h other = tt

-- one of the packages has the id of the crate, so not all were passed
pub passed_none : (m : Metadata) (xs : List Package) (i : ℕ) (krate : Id) → xs ≡ m.packages.items → length xs ≤ i → IsOfPackage (metadata_view m) krate → SeenBelow (λ (p : Package). ReadsAs (id_text p) krate → ⊥) xs i → ⊥
passed_none m xs i krate is le (text, within, reads) seen =
    each_seen id_text (λ (t : Text). ReadsAs t krate → ⊥) xs m.packages.items i is le seen text (subst (λ (texts : List Text). Contains texts text) (sym (texts_of m)) within) reads
