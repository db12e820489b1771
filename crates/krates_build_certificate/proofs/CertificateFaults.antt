-- There is a fault exactly where nothing is read: for each way to combine readings, and so for each table of a certificate.
use Rattle.std.proofs.Common.{◌≡◌, ◌⊎◌, List, Option, Some, None, ℕ, refl, inl, inr, ◌∷◌, []}
use Rattle.std.specs.Prelude.{codes, option_and_then}
use Rattle.serde_json.specs.Data.{Data, Items, no_items, item}
use Rattle.serde_json.specs.Find.{get, as_number, as_u64, as_str, as_array}
use Rattle.krates_cm_json.specs.Faults.{Fault, missing, wrong_type}
use Rattle.krates_cm_json.specs.Reading.{Reading, Reader, IsExact, AlwaysExact, read_as, refused, applied, ◌<*>◌, found, typed, text, whole, items, list, required}
use Rattle.krates_build_certificate.specs.BuildCertificateTables.{machine, step, claim, certificate}

-- ---- the ways to combine readings

as_exact : {A : Type 0} (x : A) → IsExact (read_as x)
as_exact x = record { unread = λ fault h. absurd h; faulty = λ h. absurd cc }

refused_exact : {A : Type 0} (wrong : Fault) → IsExact (refused {A = A} wrong)
refused_exact wrong = record { unread = λ fault h. refl; faulty = λ h. (wrong, refl) }

applied_none : {A B : Type 0} (f : Option (A → B)) → applied f None ≡ None
applied_none None = refl
applied_none (Some f) = refl

none_applied : {A B : Type 0} (f : Option (A → B)) (x : Option A) → applied f x ≡ None → (f ≡ None) ⊎ (x ≡ None)
none_applied None x h = inl refl
none_applied (Some f) None h = inr refl
none_applied (Some f) (Some x) h = absurd cc

infixl 10 ◌and◌
◌and◌ : {A B : Type 0} {f : Reading (A → B)} {x : Reading A} → IsExact f → IsExact x → IsExact (f <*> x)
◌and◌ {f} {x} fs xs = record {
  unread = λ fault h. elim h [ inl here ↦ rw (fs.unread fault here) refl | inr there ↦ rw (xs.unread fault there) (applied_none f.value) ];
  faulty = λ h. elim (none_applied f.value x.value h) [ inl here ↦ (let w = fs.faulty here in (w.0, inl w.1)) | inr there ↦ (let w = xs.faulty there in (w.0, inr w.1)) ];
}

found_exact : {A B : Type 0} {absent : Reading A} {read : B → Reading A} (o : Option B) → IsExact absent → ((x : B) → IsExact (read x)) → IsExact (found absent read o)
found_exact None absent read = absent
found_exact (Some x) absent read = read x

typed_exact : {A B : Type 0} (key : List ℕ) {read : B → Reading A} (o : Option B) → ((x : B) → IsExact (read x)) → IsExact (typed key read o)
typed_exact key o read = found_exact o (refused_exact (wrong_type key)) read

-- ---- plain values, lists and fields

text_exact : AlwaysExact text
text_exact key d = typed_exact key (as_str d) as_exact

whole_exact : AlwaysExact whole
whole_exact key d = typed_exact key (option_and_then as_u64 (as_number d)) as_exact

items_exact : {A : Type 0} {read : Data → Reading A} → ((d : Data) → IsExact (read d)) → (ds : Items) → IsExact (items read ds)
items_exact read no_items = as_exact []
items_exact read (item d ds) = as_exact (λ x xs. x ∷ xs) and read d and items_exact read ds

list_exact : {A : Type 0} {read : Reader A} → AlwaysExact read → AlwaysExact (list read)
list_exact read key d = typed_exact key (as_array d) (items_exact (read key))

required_exact : {A : Type 0} {read : Reader A} → AlwaysExact read → AlwaysExact (required read)
required_exact read key d = found_exact (get key d) (refused_exact (missing key)) (read key)

-- ---- the tables

pub machine_exact : AlwaysExact machine
unfolding machine
machine_exact key d = as_exact _
    and required_exact text_exact (codes "triple") d
    and required_exact text_exact (codes "cfg") d

pub step_exact : AlwaysExact step
unfolding step
step_exact key d = as_exact _
    and required_exact (list_exact text_exact) (codes "fact") d
    and required_exact (list_exact whole_exact) (codes "uses") d

claim_exact : (d : Data) → IsExact (claim d)
claim_exact d = found_exact (get (codes "steps") d)
    (as_exact _ and required_exact (list_exact (list_exact text_exact)) (codes "facts") d)
    (λ steps. as_exact _ and list_exact step_exact (codes "steps") steps)

pub certificate_exact : AlwaysExact certificate
unfolding certificate
certificate_exact key d = as_exact _
    and required_exact (list_exact text_exact) (codes "setting") d
    and required_exact (list_exact machine_exact) (codes "machines") d
    and claim_exact d
