-- The id as which a text is read, or none.
use Rattle.std.proofs.Common.{◌≡◌, ◌↔◌, ◌∙◌, Bool, true, Err, IfOk, IsTrue, None, Ok, Option, Result, Some, ap, subst, sym}
use Rattle.krates_cm.specs.Document.{Text, id_view}
use Rattle.krates_cm.specs.declared.package_id.PackageId.{PackageId}
use Rattle.krates_ids.proofs.ComparisonLemmas.{same_id-iff}
use Rattle.krates_ids.proofs.IdentityLemmas.{Reads-no_fault, Reads-once}
use Rattle.krates_ids.specs.IdRefusals.{IsRefusal}
use Rattle.krates_ids.specs.Identity.{Identity, IsSameId, Reads, bad_escape, no_opaque_form, no_stable_form, same_id}
use Rattle.krates_ids.specs.declared.id_error.IdError.{IdError}
use Rattle.krates_ids.specs.declared.id_error.IdError.TheVariants.{Escape, Memory, Opaque, Stable}
use Rattle.krates_rules.specs.Facts.{Id}
use Rattle.krates_rules.specs.Resolved.{ReadsAs, id_of}
use Rattle.krates_answers.specs.Meaning.{IsFaulty, ReadsIfAny}

no_reading : (id : PackageId) (e : IdError) → IsRefusal id e → IsFaulty e → (i : Identity) → Reads (id_view id) i → ⊥
no_reading id (Opaque back) refused faulty i reads = Reads-no_fault (id_view id) i no_opaque_form reads refused.1
no_reading id (Stable back) refused faulty i reads = Reads-no_fault (id_view id) i no_stable_form reads refused.1
no_reading id (Escape back) refused faulty i reads = Reads-no_fault (id_view id) i bad_escape reads refused.1
no_reading id (Memory back) refused faulty i reads = absurd faulty

pub reads_none : {E : Type 0} (id : PackageId) (e : IdError) (told : Result (Option Identity) E) → IsRefusal id e → IfOk told (λ found. (found ≡ None) × IsFaulty e) → IfOk told (ReadsIfAny (id_view id))
reads_none id e (Ok found) refused none = subst (ReadsIfAny (id_view id)) (sym none.0) (no_reading id e refused none.1)
reads_none id e (Err x) refused none = tt

-- ---- whether a text is read as a given id

parts_same : (a b : Identity) → IsSameId a b → id_of a ≡ id_of b
parts_same a b same = λ i. record { name = same.name i; version = same.version i; source = same.source i }

same_parts : (a b : Identity) → id_of a ≡ id_of b → IsSameId a b
same_parts a b e = record { name = ap (λ (i : Id). i.name) e; version = ap (λ (i : Id). i.version) e; source = ap (λ (i : Id). i.source) e }

read_as : (t : Text) (own kid : Identity) → Reads t own → (same_id own kid ≡ true) ↔ ReadsAs t (id_of kid)
read_as t own kid reads = (
  λ same. record { read = own; reads = reads; same = parts_same own kid ((same_id-iff own kid).0 same) },
  λ read. (same_id-iff own kid).1 (same_parts own kid (ap id_of (Reads-once t own read.read reads read.reads) ∙ read.same)),
)

pub tells_read_as : (t : Text) (found : Option Identity) (own kid : Identity) (b : Bool) → ReadsIfAny t found → found ≡ Some own → b ≡ same_id own kid → IsTrue b ↔ ReadsAs t (id_of kid)
tells_read_as t found own kid b told is same =
    subst (λ (x : Bool). IsTrue x ↔ ReadsAs t (id_of kid)) (sym same) (read_as t own kid (subst (ReadsIfAny t) is told))

pub never_read_as : (t : Text) (found : Option Identity) (id : Id) → ReadsIfAny t found → found ≡ None → ReadsAs t id → ⊥
never_read_as t found id told is read = subst (ReadsIfAny t) is told read.read read.reads
