-- No fault is true of data that is read.
use Rattle.std.proofs.Common.{◌≡◌, ◌⊎◌, inl, inr, ℕ, zero, suc, List, [], ◌∷◌, Option, Some, None, refl, subst, arith}
use Rattle.std.specs.Prelude.{codes, MatchOption}
use Rattle.serde_json.specs.Data.{Data, null, boolean, number, string, array, object, unsigned, negative, float, Items, no_items, item}
use Rattle.serde_json.specs.Find.{get, get_item}
use Rattle.krates_cm.specs.Document.{Text}
use Rattle.krates_cm_json.specs.Faults as document
use Rattle.krates_cm_json.specs.Objects.{Writer, EachWritten, ListWritten}
use Rattle.krates_cm_json.specs.Reading.{Reader, applied, items, found, refused, text, whole, list, nullable}
use Rattle.krates_ids.specs.Identity.{Identity, Reads}
use Rattle.krates_certificate.specs.CertificateFields.{Field, IdField, NameField, RuleField, PartField, ListField, FieldFault, IdFault, NameFault, RuleFault, PartFault, ItemsFault, ListFault}
use Rattle.krates_certificate.specs.CertificateRefusals.{Fault, not_json, read, bad_id, unknown_name, too_large}
use Rattle.krates_certificate.specs.CertificateRoundTrip.{NeverBoth}
use Rattle.krates_certificate.specs.CertificateTables.{IsFact, FactFault, in_name, in_crate, in_feature, in_kept, in_toggled, IsStep, StepFault, IsCertificate, CertificateFault, in_kind, in_setting, in_steps, in_facts}
use Rattle.krates_certificate.specs.CertificateViews.{ToldFact, told_crate, told_feature, told_kept, told_toggled, ToldCertificate, told_derivation, told_closed, fact_name, kind_name, certificate_name}
use Rattle.krates_certificate.proofs.OneReading.{apart, one_field, fact_named, certificate_named}

-- ---- what the document's readers refuse isn't read

-- of each data with a fault nothing is read
abbrev Refuses : {A : Type 0} → Reader A → Type 0
Refuses reader = (key : Text) (d : Data) (fault : document.Fault) → (reader key d).IsFault fault → (reader key d).value ≡ None

text_refuses : Refuses text
text_refuses key null fault h = refl
text_refuses key (boolean b) fault h = refl
text_refuses key (number n) fault h = refl
text_refuses key (string s) fault h = absurd h
text_refuses key (array ds) fault h = refl
text_refuses key (object ms) fault h = refl

whole_refuses : Refuses whole
whole_refuses key null fault h = refl
whole_refuses key (boolean b) fault h = refl
whole_refuses key (number (unsigned n)) fault h = absurd h
whole_refuses key (number (negative z)) fault h = refl
whole_refuses key (number (float x)) fault h = refl
whole_refuses key (string s) fault h = refl
whole_refuses key (array ds) fault h = refl
whole_refuses key (object ms) fault h = refl

none_applied : {A B : Type 0} (f : Option (A → B)) → applied f None ≡ None
none_applied None = refl
none_applied (Some f) = refl

items_refuse : {A : Type 0} (reader : Reader A) → Refuses reader → (key : Text) (ds : Items) (fault : document.Fault) → (items (reader key) ds).IsFault fault → (items (reader key) ds).value ≡ None
items_refuse reader refuses key no_items fault h = absurd h
items_refuse reader refuses key (item d ds) fault (inl (inl h)) = absurd h
items_refuse reader refuses key (item d ds) fault (inl (inr h)) = rw (refuses key d fault h) refl
items_refuse reader refuses key (item d ds) fault (inr h) = rw (items_refuse reader refuses key ds fault h) (none_applied _)

list_refuses : {A : Type 0} (reader : Reader A) → Refuses reader → Refuses (list reader)
list_refuses reader refuses key null fault h = refl
list_refuses reader refuses key (boolean b) fault h = refl
list_refuses reader refuses key (number n) fault h = refl
list_refuses reader refuses key (string s) fault h = refl
list_refuses reader refuses key (array ds) fault h = items_refuse reader refuses key ds fault h
list_refuses reader refuses key (object ms) fault h = refl

cfg_refuses : Refuses (nullable text)
cfg_refuses key null fault h = absurd h
cfg_refuses key (boolean b) fault h = refl
cfg_refuses key (number n) fault h = refl
cfg_refuses key (string s) fault (inl h) = absurd h
cfg_refuses key (string s) fault (inr h) = absurd h
cfg_refuses key (array ds) fault h = refl
cfg_refuses key (object ms) fault h = refl

found_never : {A : Type 0} (reader : Reader A) → Refuses reader → (key : Text) (x : A) (o : Option Data) (fault : document.Fault)
    → (found (refused (document.missing key)) (reader key) o).value ≡ Some x → (found (refused (document.missing key)) (reader key) o).IsFault fault → ⊥
found_never reader refuses key x None fault h k = absurd cc
found_never reader refuses key x (Some e) fault h k = let nothing = refuses key e fault k in absurd cc

-- ---- fields

never_field : {A : Type 0} (reader : Reader A) → Refuses reader → (key : Text) (x : A) (d : Data) (fault : Fault) → Field reader key x d → FieldFault reader key d fault → ⊥
never_field reader refuses key x d (read fault) h k = found_never reader refuses key x (get key d) fault h k
never_field reader refuses key x d not_json h k = k
never_field reader refuses key x d (bad_id other) h k = k
never_field reader refuses key x d (unknown_name other) h k = k
never_field reader refuses key x d (too_large other) h k = k

never_id : (key : Text) (x : Identity) (d : Data) (fault : Fault) → IdField key x d → IdFault key d fault → ⊥
never_id key x d fault (s, here, reads) (inl k) = never_field text text_refuses key s d fault here k
never_id key x d fault (s, here, reads) (inr (t, there, none, is)) = none x (subst (λ (u : Text). Reads u x) (one_field text key s t d here there) reads)

never_name : {A : Type 0} (name : A → Text) (key : Text) (x : A) (d : Data) (fault : Fault) → NameField key (name x) d → NameFault name key d fault → ⊥
never_name name key x d fault h (inl k) = never_field text text_refuses key (name x) d fault h k
never_name name key x d fault h (inr (s, here, none, is)) = none x (one_field text key s (name x) d here h)

never_rule : (rule : ℕ) (d : Data) (fault : Fault) → RuleField rule d → RuleFault d fault → ⊥
never_rule rule d fault h (inl k) = never_field whole whole_refuses (codes "rule") rule d fault h.0 k
never_rule rule d fault h (inr (n, here, large, is)) = let same = one_field whole (codes "rule") n rule d here h.0 in let small = h.1 in omega arith

never_there : {A : Type 0} (Is : Writer A) (IsFault : Data → Fault → Type 0) → NeverBoth Is IsFault → (x : A) (o : Option Data) (fault : Fault) → MatchOption o ⊥ (Is x) → MatchOption o ⊥ (λ e. IsFault e fault) → ⊥
never_there Is IsFault never x None fault h k = h
never_there Is IsFault never x (Some e) fault h k = never x e fault h k

never_part : {A : Type 0} (Is : Writer A) (IsFault : Data → Fault → Type 0) → NeverBoth Is IsFault → (key : Text) (x : A) (d : Data) (fault : Fault) → PartField (Is x) key d → PartFault IsFault key d fault → ⊥
never_part Is IsFault never key x d fault h (inl (none, is)) = rw none at h
never_part Is IsFault never key x d fault h (inr k) = never_there Is IsFault never x (get key d) fault h k

never_item : {A : Type 0} (Is : Writer A) (IsFault : Data → Fault → Type 0) → NeverBoth Is IsFault → (n : ℕ) (xs : List A) (ds : Items) (fault : Fault) → EachWritten Is xs ds
    → MatchOption (get_item n ds) ⊥ (λ i. IsFault i fault) → ⊥
never_item Is IsFault never zero xs no_items fault h k = k
never_item Is IsFault never (suc n) xs no_items fault h k = k
never_item Is IsFault never zero [] (item d ds) fault h k = h
never_item Is IsFault never zero (x ∷ xs) (item d ds) fault h k = never x d fault h.0 k
never_item Is IsFault never (suc n) [] (item d ds) fault h k = h
never_item Is IsFault never (suc n) (x ∷ xs) (item d ds) fault h k = never_item Is IsFault never n xs ds fault h.1 k

never_items : {A : Type 0} (Is : Writer A) (IsFault : Data → Fault → Type 0) → NeverBoth Is IsFault → (key : Text) → NeverBoth (ListWritten Is) (ItemsFault IsFault key)
never_items Is IsFault never key xs (array ds) fault h (inl (none, is)) = absurd cc
never_items Is IsFault never key xs (array ds) fault h (inr (n, k)) = never_item Is IsFault never n xs ds fault h k
never_items Is IsFault never key xs null fault h k = h
never_items Is IsFault never key xs (boolean b) fault h k = h
never_items Is IsFault never key xs (number n) fault h k = h
never_items Is IsFault never key xs (string s) fault h k = h
never_items Is IsFault never key xs (object ms) fault h k = h

never_list : {A : Type 0} (Is : Writer A) (IsFault : Data → Fault → Type 0) → NeverBoth Is IsFault → (key : Text) (xs : List A) (d : Data) (fault : Fault) → ListField Is key xs d → ListFault IsFault key d fault → ⊥
never_list Is IsFault never key xs d fault h k = never_part (ListWritten Is) (ItemsFault IsFault key) (never_items Is IsFault never key) key xs d fault h k

-- ---- the tables

-- a fact of a form has its name
of_form : (x : ToldFact) (name : Text) (d : Data) → IsFact x d → NameField (codes "fact") name d → fact_name x ≡ name
of_form x name d h named = one_field text (codes "fact") (fact_name x) name d (fact_named x d h) named

never_crate : (x : ToldFact) (d : Data) (fault : Fault) → fact_name x ≡ codes "crate" → IsFact x d → IdFault (codes "krate") d fault → ⊥
never_crate (told_crate krate) d fault is h k = never_id (codes "krate") krate d fault h.1 k
never_crate (told_feature krate name) d fault is h k = apart (codes "feature") (codes "crate") refl is
never_crate (told_kept parent child kind cfg) d fault is h k = apart (codes "kept") (codes "crate") refl is
never_crate (told_toggled parent child name) d fault is h k = apart (codes "toggled") (codes "crate") refl is

never_feature : (x : ToldFact) (d : Data) (fault : Fault) → fact_name x ≡ codes "feature" → IsFact x d → IdFault (codes "krate") d fault ⊎ FieldFault text (codes "name") d fault → ⊥
never_feature (told_feature krate name) d fault is h (inl k) = never_id (codes "krate") krate d fault h.1 k
never_feature (told_feature krate name) d fault is h (inr k) = never_field text text_refuses (codes "name") name d fault h.2 k
never_feature (told_crate krate) d fault is h k = apart (codes "crate") (codes "feature") refl is
never_feature (told_kept parent child kind cfg) d fault is h k = apart (codes "kept") (codes "feature") refl is
never_feature (told_toggled parent child name) d fault is h k = apart (codes "toggled") (codes "feature") refl is

never_kept : (x : ToldFact) (d : Data) (fault : Fault) → fact_name x ≡ codes "kept" → IsFact x d
    → IdFault (codes "parent") d fault ⊎ IdFault (codes "child") d fault ⊎ NameFault kind_name (codes "kind") d fault ⊎ FieldFault (nullable text) (codes "cfg") d fault → ⊥
never_kept (told_kept parent child kind cfg) d fault is h (inl k) = never_id (codes "parent") parent d fault h.1 k
never_kept (told_kept parent child kind cfg) d fault is h (inr (inl k)) = never_id (codes "child") child d fault h.2 k
never_kept (told_kept parent child kind cfg) d fault is h (inr (inr (inl k))) = never_name kind_name (codes "kind") kind d fault h.3 k
never_kept (told_kept parent child kind cfg) d fault is h (inr (inr (inr k))) = never_field (nullable text) cfg_refuses (codes "cfg") cfg d fault h.4 k
never_kept (told_crate krate) d fault is h k = apart (codes "crate") (codes "kept") refl is
never_kept (told_feature krate name) d fault is h k = apart (codes "feature") (codes "kept") refl is
never_kept (told_toggled parent child name) d fault is h k = apart (codes "toggled") (codes "kept") refl is

never_toggled : (x : ToldFact) (d : Data) (fault : Fault) → fact_name x ≡ codes "toggled" → IsFact x d
    → IdFault (codes "parent") d fault ⊎ IdFault (codes "child") d fault ⊎ FieldFault text (codes "name") d fault → ⊥
never_toggled (told_toggled parent child name) d fault is h (inl k) = never_id (codes "parent") parent d fault h.1 k
never_toggled (told_toggled parent child name) d fault is h (inr (inl k)) = never_id (codes "child") child d fault h.2 k
never_toggled (told_toggled parent child name) d fault is h (inr (inr k)) = never_field text text_refuses (codes "name") name d fault h.3 k
never_toggled (told_crate krate) d fault is h k = apart (codes "crate") (codes "toggled") refl is
never_toggled (told_feature krate name) d fault is h k = apart (codes "feature") (codes "toggled") refl is
never_toggled (told_kept parent child kind cfg) d fault is h k = apart (codes "kept") (codes "toggled") refl is

pub never_fact : NeverBoth IsFact FactFault
never_fact x d fault h (in_name k) = never_name fact_name (codes "fact") x d fault (fact_named x d h) k
never_fact x d fault h (in_crate named k) = never_crate x d fault (of_form x (codes "crate") d h named) h k
never_fact x d fault h (in_feature named k) = never_feature x d fault (of_form x (codes "feature") d h named) h k
never_fact x d fault h (in_kept named k) = never_kept x d fault (of_form x (codes "kept") d h named) h k
never_fact x d fault h (in_toggled named k) = never_toggled x d fault (of_form x (codes "toggled") d h named) h k

pub never_step : NeverBoth IsStep StepFault
never_step x d fault h (inl k) = never_rule x.rule d fault h.0 k
never_step x d fault h (inr (inl k)) = never_part IsFact FactFault never_fact (codes "fact") x.fact d fault h.1 k
never_step x d fault h (inr (inr k)) = never_field (list whole) (list_refuses whole whole_refuses) (codes "uses") x.uses d fault h.2 k

-- a certificate of a kind has its name
of_kind : (x : ToldCertificate) (name : Text) (d : Data) → IsCertificate x d → NameField (codes "kind") name d → certificate_name x ≡ name
of_kind x name d h named = one_field text (codes "kind") (certificate_name x) name d (certificate_named x d h) named

never_setting : (x : ToldCertificate) (d : Data) (fault : Fault) → IsCertificate x d → FieldFault (list text) (codes "setting") d fault → ⊥
never_setting (told_derivation setting steps) d fault h k = never_field (list text) (list_refuses text text_refuses) (codes "setting") setting d fault h.1 k
never_setting (told_closed setting facts) d fault h k = never_field (list text) (list_refuses text text_refuses) (codes "setting") setting d fault h.1 k

never_steps : (x : ToldCertificate) (d : Data) (fault : Fault) → certificate_name x ≡ codes "derivation" → IsCertificate x d → ListFault StepFault (codes "steps") d fault → ⊥
never_steps (told_derivation setting steps) d fault is h k = never_list IsStep StepFault never_step (codes "steps") steps d fault h.2 k
never_steps (told_closed setting facts) d fault is h k = apart (codes "closed") (codes "derivation") refl is

never_facts : (x : ToldCertificate) (d : Data) (fault : Fault) → certificate_name x ≡ codes "closed" → IsCertificate x d → ListFault FactFault (codes "facts") d fault → ⊥
never_facts (told_derivation setting steps) d fault is h k = apart (codes "derivation") (codes "closed") refl is
never_facts (told_closed setting facts) d fault is h k = never_list IsFact FactFault never_fact (codes "facts") facts d fault h.2 k

pub never_certificate : NeverBoth IsCertificate CertificateFault
never_certificate x d fault h (in_kind k) = never_name certificate_name (codes "kind") x d fault (certificate_named x d h) k
never_certificate x d fault h (in_setting k) = never_setting x d fault h k
never_certificate x d fault h (in_steps named k) = never_steps x d fault (of_kind x (codes "derivation") d h named) h k
never_certificate x d fault h (in_facts named k) = never_facts x d fault (of_kind x (codes "closed") d h named) h k
