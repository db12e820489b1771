-- There is a fault exactly where nothing is named: for each way to combine namings, and so for each form of facts.
use Rattle.std.proofs.Common.{◌≡◌, ◌⊎◌, ◌+◌, ℕ, List, Bool, true, false, Option, Some, None, refl, inl, inr}
use Rattle.std.specs.Prelude.{codes, bytes_eq, length, nat_lt, option_and_then, slice_get}
use Rattle.krates_build_facts.specs.FactModels.{FactModel}
use Rattle.krates_cm.specs.Document.{Text}
use Rattle.krates_build_naming.specs.NamedFacts.{met, linked_reference, linked_feature, linked_name, linked, lost, activated, activated_reference, activated_feature, activated_name, used, available, compiled, needed, script_run, script_compiled, run_needed, building_of, activating_of, linking_of, ended, fact_of, fact_read, word_count}
use Rattle.krates_build_naming.specs.NamedParts.{word_at, crate_at, meeting_at, side_at, mode_at, platform_at, reference_words, reference_at, link_words, link_at, lacking_words, lacking_at, target_words, target_at, placement_at, unit_at}
use Rattle.krates_build_naming.specs.NamedPlaces.{crate_named, lacking_named, link_named, platform_named, target_named}
use Rattle.krates_build_naming.specs.Naming.{IsExact, Naming, ◌<*>◌, applied, by_word, choose, found_or, later_fault, name_of, refused, then_by}
use Rattle.krates_build_naming.specs.PartTexts.{meeting_named, mode_named, reference_named, side_named}
use Rattle.krates_build_naming.specs.declared.names.FactNames.{FactNames}
use Rattle.krates_build_naming.specs.declared.names.NameFault.{NameFault}
use Rattle.krates_build_naming.specs.declared.names.NameFault.TheVariants as faults

-- ---- the ways to combine namings

name_exact : {A : Type 0} (x : A) → IsExact (name_of x)
name_exact x = record { unnamed = λ fault h. absurd h; faulty = λ h. absurd cc }

refused_exact : {A : Type 0} (wrong : NameFault) → IsExact (refused {A = A} wrong)
refused_exact wrong = record { unnamed = λ fault h. refl; faulty = λ h. (wrong, refl) }

found_exact : {A : Type 0} (wrong : NameFault) (o : Option A) → IsExact (found_or wrong o)
found_exact wrong None = refused_exact wrong
found_exact wrong (Some x) = name_exact x

applied_none : {A B : Type 0} (f : Option (A → B)) → applied f None ≡ None
applied_none None = refl
applied_none (Some f) = refl

none_applied : {A B : Type 0} (f : Option (A → B)) (x : Option A) → applied f x ≡ None → (f ≡ None) ⊎ (x ≡ None)
none_applied None x h = inl refl
none_applied (Some f) None h = inr refl
none_applied (Some f) (Some x) h = absurd cc

infixl 10 ◌and◌
◌and◌ : {A B : Type 0} {f : Naming (A → B)} {x : Naming A} → IsExact f → IsExact x → IsExact (f <*> x)
◌and◌ {f} {x} fs xs = record {
  unnamed = λ fault h. elim h [ inl here ↦ rw (fs.unnamed fault here) refl | inr there ↦ rw (xs.unnamed fault there) (applied_none f.value) ];
  faulty = λ h. elim (none_applied f.value x.value h) [ inl here ↦ (let w = fs.faulty here in (w.0, inl w.1)) | inr there ↦ (let w = xs.faulty there in (w.0, inr w.1)) ];
}

unnamed_then : {A B : Type 0} (o : Option A) (f : A → Naming B) → ((a : A) → IsExact (f a)) → (fault : NameFault) → later_fault o f fault → option_and_then (λ a. (f a).value) o ≡ None
unnamed_then None f fs fault h = absurd h
unnamed_then (Some a) f fs fault h = (fs a).unnamed fault h

faulty_then : {A B : Type 0} (o : Option A) (f : A → Naming B) → ((a : A) → IsExact (f a)) → option_and_then (λ a. (f a).value) o ≡ None → (o ≡ None) ⊎ ((fault : NameFault) × later_fault o f fault)
faulty_then None f fs h = inl refl
faulty_then (Some a) f fs h = inr ((fs a).faulty h)

then_exact : {A B : Type 0} {x : Naming A} {f : A → Naming B} → IsExact x → ((a : A) → IsExact (f a)) → IsExact (then_by x f)
then_exact {A} {B} {x} {f} xs fs = record {
  unnamed = λ fault h. elim h [ inl here ↦ rw (xs.unnamed fault here) refl | inr there ↦ unnamed_then x.value f fs fault there ];
  faulty = λ h. elim (faulty_then x.value f fs h) [ inl here ↦ (let w = xs.faulty here in (w.0, inl w.1)) | inr there ↦ (there.0, inr there.1) ];
}

word_exact : {A B : Type 0} (missing : NameFault) {f : B → Naming A} (o : Option B) → ((w : B) → IsExact (f w)) → IsExact (by_word missing f o)
word_exact missing None fs = refused_exact missing
word_exact missing (Some w) fs = fs w

choose_exact : {A : Type 0} (b : Bool) {x y : Naming A} → IsExact x → IsExact y → IsExact (choose b x y)
choose_exact true xs ys = xs
choose_exact false xs ys = ys

-- ---- parts

words_exact : (k : ℕ) (ws : List Text) → IsExact (word_at k ws)
unfolding word_at
words_exact k ws = found_exact (faults.Missing k) (slice_get ws k)

crate_exact : (n : FactNames) (k : ℕ) (ws : List Text) → IsExact (crate_at n k ws)
unfolding crate_at
crate_exact n k ws = word_exact (faults.Missing k) (slice_get ws k) (λ w. found_exact (faults.Crate k) (crate_named n w))

meeting_exact : (k : ℕ) (ws : List Text) → IsExact (meeting_at k ws)
unfolding meeting_at
meeting_exact k ws = word_exact (faults.Missing k) (slice_get ws k) (λ w. found_exact (faults.Meeting k) (meeting_named w))

side_exact : (k : ℕ) (ws : List Text) → IsExact (side_at k ws)
unfolding side_at
side_exact k ws = word_exact (faults.Missing k) (slice_get ws k) (λ w. found_exact (faults.Side k) (side_named w))

mode_exact : (k : ℕ) (ws : List Text) → IsExact (mode_at k ws)
unfolding mode_at
mode_exact k ws = word_exact (faults.Missing k) (slice_get ws k) (λ w. found_exact (faults.Mode k) (mode_named w))

platform_exact : (n : FactNames) (k : ℕ) (ws : List Text) → IsExact (platform_at n k ws)
unfolding platform_at
platform_exact n k ws = word_exact (faults.Missing k) (slice_get ws k) (λ w. found_exact (faults.Platform k) (platform_named n w))

reference_exact : (k : ℕ) (ws : List Text) → IsExact (reference_at k ws)
unfolding reference_at
reference_exact k ws = then_exact (name_exact _ and words_exact k ws and words_exact (k + 1) ws and words_exact (k + 2) ws)
    (λ c. found_exact (faults.Reference k) (reference_named c.form c.name c.feature))

link_exact : (n : FactNames) (k : ℕ) (ws : List Text) → IsExact (link_at n k ws)
unfolding link_at link_words
link_exact n k ws = then_exact (name_exact _ and crate_exact n k ws and crate_exact n (k + 1) ws and words_exact (k + 2) ws and words_exact (k + 3) ws and words_exact (k + 4) ws)
    (λ c. found_exact (faults.Link k) (link_named n c))

lacking_exact : (n : FactNames) (k : ℕ) (ws : List Text) → IsExact (lacking_at n k ws)
unfolding lacking_at lacking_words
lacking_exact n k ws = then_exact (name_exact _ and crate_exact n k ws and words_exact (k + 1) ws and words_exact (k + 2) ws and words_exact (k + 3) ws)
    (λ c. name_exact _ and found_exact (faults.Lacking k) (lacking_named n c))

target_exact : (n : FactNames) (k : ℕ) (ws : List Text) → IsExact (target_at n k ws)
unfolding target_at target_words
target_exact n k ws = then_exact (name_exact _ and crate_exact n k ws and words_exact (k + 1) ws and words_exact (k + 2) ws)
    (λ c. found_exact (faults.Target k) (target_named n c))

placement_exact : (n : FactNames) (k : ℕ) (ws : List Text) → IsExact (placement_at n k ws)
unfolding placement_at
placement_exact n k ws = name_exact _ and platform_exact n k ws and side_exact (k + 1) ws

unit_exact : (n : FactNames) (k : ℕ) (ws : List Text) → IsExact (unit_at n k ws)
unfolding unit_at
unit_exact n k ws = name_exact _ and target_exact n k ws and mode_exact (k + 3) ws and placement_exact n (k + 4) ws

-- ---- facts

met_exact : (n : FactNames) (ws : List Text) → IsExact (met n ws)
unfolding met
met_exact n ws = name_exact _ and crate_exact n 1 ws and meeting_exact 2 ws

linked_reference_exact : (n : FactNames) (ws : List Text) → IsExact (linked_reference n ws)
unfolding linked_reference
linked_reference_exact n ws = name_exact _ and crate_exact n 1 ws and meeting_exact 2 ws and reference_exact 3 ws

linked_feature_exact : (n : FactNames) (ws : List Text) → IsExact (linked_feature n ws)
unfolding linked_feature
linked_feature_exact n ws = name_exact _ and crate_exact n 1 ws and meeting_exact 2 ws and words_exact 3 ws

linked_name_exact : (n : FactNames) (ws : List Text) → IsExact (linked_name n ws)
unfolding linked_name
linked_name_exact n ws = name_exact _ and crate_exact n 1 ws and meeting_exact 2 ws and words_exact 3 ws

linked_exact : (n : FactNames) (ws : List Text) → IsExact (linked n ws)
unfolding linked
linked_exact n ws = name_exact _ and link_exact n 1 ws

lost_exact : (n : FactNames) (ws : List Text) → IsExact (lost n ws)
unfolding lost
lost_exact n ws = name_exact _ and lacking_exact n 1 ws

activated_exact : (n : FactNames) (ws : List Text) → IsExact (activated n ws)
unfolding activated
activated_exact n ws = name_exact _ and crate_exact n 1 ws and side_exact 2 ws

activated_reference_exact : (n : FactNames) (ws : List Text) → IsExact (activated_reference n ws)
unfolding activated_reference
activated_reference_exact n ws = name_exact _ and crate_exact n 1 ws and side_exact 2 ws and reference_exact 3 ws

activated_feature_exact : (n : FactNames) (ws : List Text) → IsExact (activated_feature n ws)
unfolding activated_feature
activated_feature_exact n ws = name_exact _ and crate_exact n 1 ws and side_exact 2 ws and words_exact 3 ws

activated_name_exact : (n : FactNames) (ws : List Text) → IsExact (activated_name n ws)
unfolding activated_name
activated_name_exact n ws = name_exact _ and crate_exact n 1 ws and side_exact 2 ws and words_exact 3 ws

used_exact : (n : FactNames) (ws : List Text) → IsExact (used n ws)
unfolding used
used_exact n ws = name_exact _ and link_exact n 1 ws and side_exact 6 ws

available_exact : (n : FactNames) (ws : List Text) → IsExact (available n ws)
unfolding available
available_exact n ws = name_exact _ and crate_exact n 1 ws and words_exact 2 ws

compiled_exact : (n : FactNames) (ws : List Text) → IsExact (compiled n ws)
unfolding compiled
compiled_exact n ws = name_exact _ and unit_exact n 1 ws

needed_exact : (n : FactNames) (ws : List Text) → IsExact (needed n ws)
unfolding needed
needed_exact n ws = name_exact _ and link_exact n 1 ws and platform_exact n 6 ws and unit_exact n 7 ws

script_run_exact : (n : FactNames) (ws : List Text) → IsExact (script_run n ws)
unfolding script_run
script_run_exact n ws = name_exact _ and crate_exact n 1 ws and placement_exact n 2 ws

script_compiled_exact : (n : FactNames) (ws : List Text) → IsExact (script_compiled n ws)
unfolding script_compiled
script_compiled_exact n ws = name_exact _ and crate_exact n 1 ws and side_exact 2 ws

run_needed_exact : (n : FactNames) (ws : List Text) → IsExact (run_needed n ws)
unfolding run_needed
run_needed_exact n ws = name_exact _ and link_exact n 1 ws and placement_exact n 6 ws and placement_exact n 8 ws

building_exact : (form : Text) (n : FactNames) (ws : List Text) → IsExact (building_of form n ws)
unfolding building_of
building_exact form n ws =
    choose_exact (bytes_eq form (codes "compiled")) (compiled_exact n ws)
    (choose_exact (bytes_eq form (codes "needed")) (needed_exact n ws)
    (choose_exact (bytes_eq form (codes "script run")) (script_run_exact n ws)
    (choose_exact (bytes_eq form (codes "script compiled")) (script_compiled_exact n ws)
    (choose_exact (bytes_eq form (codes "run needed")) (run_needed_exact n ws)
    (refused_exact (faults.Form 0))))))

activating_exact : (form : Text) (n : FactNames) (ws : List Text) → IsExact (activating_of form n ws)
unfolding activating_of
activating_exact form n ws =
    choose_exact (bytes_eq form (codes "activated")) (activated_exact n ws)
    (choose_exact (bytes_eq form (codes "activated reference")) (activated_reference_exact n ws)
    (choose_exact (bytes_eq form (codes "activated feature")) (activated_feature_exact n ws)
    (choose_exact (bytes_eq form (codes "activated name")) (activated_name_exact n ws)
    (choose_exact (bytes_eq form (codes "used")) (used_exact n ws)
    (choose_exact (bytes_eq form (codes "available")) (available_exact n ws)
    (building_exact form n ws))))))

linking_exact : (form : Text) (n : FactNames) (ws : List Text) → IsExact (linking_of form n ws)
unfolding linking_of
linking_exact form n ws =
    choose_exact (bytes_eq form (codes "met")) (met_exact n ws)
    (choose_exact (bytes_eq form (codes "linked reference")) (linked_reference_exact n ws)
    (choose_exact (bytes_eq form (codes "linked feature")) (linked_feature_exact n ws)
    (choose_exact (bytes_eq form (codes "linked name")) (linked_name_exact n ws)
    (choose_exact (bytes_eq form (codes "linked")) (linked_exact n ws)
    (choose_exact (bytes_eq form (codes "lost")) (lost_exact n ws)
    (activating_exact form n ws))))))

read_exact : (n : FactNames) (ws : List Text) → IsExact (fact_read n ws)
unfolding fact_read
read_exact n ws = word_exact (faults.Missing 0) (slice_get ws 0) (λ form. linking_exact form n ws)

ended_exact : (ws : List Text) (f : FactModel) → IsExact (ended ws f)
unfolding ended
ended_exact ws f = choose_exact (nat_lt (word_count f) (length ws)) (refused_exact (faults.Further (word_count f))) (name_exact f)

pub facts_exact : (n : FactNames) (ws : List Text) → IsExact (fact_of n ws)
unfolding fact_of
facts_exact n ws = then_exact (read_exact n ws) (ended_exact ws)
