-- Data is read as one part of a certificate at most.
use Rattle.std.proofs.Common.{◌≡◌, ℕ, List, [], ◌∷◌, Option, Some, None, refl, sym, ◌∙◌, subst}
use Rattle.std.specs.Prelude.{codes, false, MatchOption}
use Rattle.std.specs.Str.{bytes_eq}
use Rattle.std.proofs.lemmas.Option.{same_Some}
use Rattle.serde_json.specs.Data.{Data, null, boolean, number, string, array, object, Items, no_items, item}
use Rattle.serde_json.specs.Find.{get}
use Rattle.krates_cm.specs.Document.{Text}
use Rattle.krates_cm_json.specs.Objects.{Writer, EachWritten, ListWritten}
use Rattle.krates_cm_json.specs.Reading.{Reader, text, whole, list, nullable}
use Rattle.krates_ids.specs.Identity.{Identity, Reads}
use Rattle.krates_ids.proofs.CorrectionLemmas.{true_from_eq}
use Rattle.krates_ids.proofs.IdentityLemmas.{Reads-once}
use Rattle.krates_rules.specs.declared.kind.DepKind.{DepKind}
use Rattle.krates_rules.specs.declared.kind.DepKind.TheVariants as kinds
use Rattle.krates_certificate.specs.CertificateFields.{Field, IdField, NameField}
use Rattle.krates_certificate.specs.CertificateTables.{IsFact, IsStep, IsCertificate}
use Rattle.krates_certificate.specs.CertificateViews.{ToldFact, told_crate, told_feature, told_kept, told_toggled, ToldStep, ToldCertificate, told_derivation, told_closed, fact_name, kind_name, certificate_name}

-- ---- fields

pub one_field : {A : Type 0} (reader : Reader A) (key : Text) (x y : A) (d : Data) → Field reader key x d → Field reader key y d → x ≡ y
one_field reader key x y d h k = same_Some x y (sym h ∙ k)

one_id : (key : Text) (x y : Identity) (d : Data) → IdField key x d → IdField key y d → x ≡ y
one_id key x y d (s, here, reads) (t, there, reads_too) =
    Reads-once t x y (subst (λ (u : Text). Reads u x) (one_field text key s t d here there) reads) reads_too

one_kind_name : (j k : DepKind) → kind_name j ≡ kind_name k → j ≡ k
one_kind_name kinds.Normal kinds.Normal h = refl
one_kind_name kinds.Normal kinds.Build h = absurd cc
one_kind_name kinds.Normal kinds.Dev h = absurd cc
one_kind_name kinds.Build kinds.Normal h = absurd cc
one_kind_name kinds.Build kinds.Build h = refl
one_kind_name kinds.Build kinds.Dev h = absurd cc
one_kind_name kinds.Dev kinds.Normal h = absurd cc
one_kind_name kinds.Dev kinds.Build h = absurd cc
one_kind_name kinds.Dev kinds.Dev h = refl

one_there : {A : Type 0} (Is : Writer A) → ((x y : A) (d : Data) → Is x d → Is y d → x ≡ y) → (x y : A) (o : Option Data) → MatchOption o ⊥ (Is x) → MatchOption o ⊥ (Is y) → x ≡ y
one_there Is one x y None h k = absurd h
one_there Is one x y (Some d) h k = one x y d h k

each_one : {A : Type 0} (Is : Writer A) → ((x y : A) (d : Data) → Is x d → Is y d → x ≡ y) → (xs ys : List A) (ds : Items) → EachWritten Is xs ds → EachWritten Is ys ds → xs ≡ ys
each_one Is one [] [] no_items h k = refl
each_one Is one [] (y ∷ ys) no_items h k = absurd k
each_one Is one (x ∷ xs) ys no_items h k = absurd h
each_one Is one [] ys (item d ds) h k = absurd h
each_one Is one (x ∷ xs) [] (item d ds) h k = absurd k
each_one Is one (x ∷ xs) (y ∷ ys) (item d ds) h k = rw (one x y d h.0 k.0, each_one Is one xs ys ds h.1 k.1) refl

list_one : {A : Type 0} (Is : Writer A) → ((x y : A) (d : Data) → Is x d → Is y d → x ≡ y) → (xs ys : List A) (d : Data) → ListWritten Is xs d → ListWritten Is ys d → xs ≡ ys
list_one Is one xs ys (array ds) h k = each_one Is one xs ys ds h k
list_one Is one xs ys null h k = absurd h
list_one Is one xs ys (boolean b) h k = absurd h
list_one Is one xs ys (number n) h k = absurd h
list_one Is one xs ys (string s) h k = absurd h
list_one Is one xs ys (object ms) h k = absurd h

-- ---- the tables

-- a fact has the name of its form
pub fact_named : (x : ToldFact) (d : Data) → IsFact x d → NameField (codes "fact") (fact_name x) d
fact_named (told_crate krate) d h = h.0
fact_named (told_feature krate name) d h = h.0
fact_named (told_kept parent child kind cfg) d h = h.0
fact_named (told_toggled parent child name) d h = h.0

-- two texts that differ aren't equal
pub apart : (s t : Text) → bytes_eq s t ≡ false → s ≡ t → ⊥
apart s t differ is = let same = true_from_eq s t is in absurd cc

one_form : (x y : ToldFact) (d : Data) → fact_name x ≡ fact_name y → IsFact x d → IsFact y d → x ≡ y
one_form (told_crate k) (told_crate k') d same h h' = rw (one_id (codes "krate") k k' d h.1 h'.1) refl
one_form (told_crate k) (told_feature k' n') d same h h' = absurd (apart (codes "crate") (codes "feature") refl same)
one_form (told_crate k) (told_kept p' c' j' g') d same h h' = absurd (apart (codes "crate") (codes "kept") refl same)
one_form (told_crate k) (told_toggled p' c' n') d same h h' = absurd (apart (codes "crate") (codes "toggled") refl same)
one_form (told_feature k n) (told_crate k') d same h h' = absurd (apart (codes "feature") (codes "crate") refl same)
one_form (told_feature k n) (told_feature k' n') d same h h' = rw (one_id (codes "krate") k k' d h.1 h'.1, one_field text (codes "name") n n' d h.2 h'.2) refl
one_form (told_feature k n) (told_kept p' c' j' g') d same h h' = absurd (apart (codes "feature") (codes "kept") refl same)
one_form (told_feature k n) (told_toggled p' c' n') d same h h' = absurd (apart (codes "feature") (codes "toggled") refl same)
one_form (told_kept p c j g) (told_crate k') d same h h' = absurd (apart (codes "kept") (codes "crate") refl same)
one_form (told_kept p c j g) (told_feature k' n') d same h h' = absurd (apart (codes "kept") (codes "feature") refl same)
one_form (told_kept p c j g) (told_kept p' c' j' g') d same h h' =
    let kind = one_kind_name j j' (one_field text (codes "kind") (kind_name j) (kind_name j') d h.3 h'.3) in
    rw (one_id (codes "parent") p p' d h.1 h'.1, one_id (codes "child") c c' d h.2 h'.2, kind, one_field (nullable text) (codes "cfg") g g' d h.4 h'.4) refl
one_form (told_kept p c j g) (told_toggled p' c' n') d same h h' = absurd (apart (codes "kept") (codes "toggled") refl same)
one_form (told_toggled p c n) (told_crate k') d same h h' = absurd (apart (codes "toggled") (codes "crate") refl same)
one_form (told_toggled p c n) (told_feature k' n') d same h h' = absurd (apart (codes "toggled") (codes "feature") refl same)
one_form (told_toggled p c n) (told_kept p' c' j' g') d same h h' = absurd (apart (codes "toggled") (codes "kept") refl same)
one_form (told_toggled p c n) (told_toggled p' c' n') d same h h' =
    rw (one_id (codes "parent") p p' d h.1 h'.1, one_id (codes "child") c c' d h.2 h'.2, one_field text (codes "name") n n' d h.3 h'.3) refl

pub one_fact : (x y : ToldFact) (d : Data) → IsFact x d → IsFact y d → x ≡ y
one_fact x y d h k = one_form x y d (one_field text (codes "fact") (fact_name x) (fact_name y) d (fact_named x d h) (fact_named y d k)) h k

abbrev step_of : ℕ → ToldFact → List ℕ → ToldStep
step_of rule fact uses = record { rule = rule; fact = fact; uses = uses }

same_step : (r r' : ℕ) (f f' : ToldFact) (u u' : List ℕ) → r ≡ r' → f ≡ f' → u ≡ u' → step_of r f u ≡ step_of r' f' u'
same_step r r' f f' u u' rule fact uses = rw (rule, fact, uses) refl

pub one_step : (x y : ToldStep) (d : Data) → IsStep x d → IsStep y d → x ≡ y
one_step x y d h k =
    same_step x.rule y.rule x.fact y.fact x.uses y.uses
    (one_field whole (codes "rule") x.rule y.rule d h.0.0 k.0.0)
    (one_there IsFact one_fact x.fact y.fact (get (codes "fact") d) h.1 k.1)
    (one_field (list whole) (codes "uses") x.uses y.uses d h.2 k.2)

-- a certificate has the name of its kind
pub certificate_named : (x : ToldCertificate) (d : Data) → IsCertificate x d → NameField (codes "kind") (certificate_name x) d
certificate_named (told_derivation setting steps) d h = h.0
certificate_named (told_closed setting facts) d h = h.0

one_of_kind : (x y : ToldCertificate) (d : Data) → certificate_name x ≡ certificate_name y → IsCertificate x d → IsCertificate y d → x ≡ y
one_of_kind (told_derivation s xs) (told_derivation s' xs') d same h h' =
    rw (one_field (list text) (codes "setting") s s' d h.1 h'.1, one_there (ListWritten IsStep) (list_one IsStep one_step) xs xs' (get (codes "steps") d) h.2 h'.2) refl
one_of_kind (told_derivation s xs) (told_closed s' fs') d same h h' = absurd (apart (codes "derivation") (codes "closed") refl same)
one_of_kind (told_closed s fs) (told_derivation s' xs') d same h h' = absurd (apart (codes "closed") (codes "derivation") refl same)
one_of_kind (told_closed s fs) (told_closed s' fs') d same h h' =
    rw (one_field (list text) (codes "setting") s s' d h.1 h'.1, one_there (ListWritten IsFact) (list_one IsFact one_fact) fs fs' (get (codes "facts") d) h.2 h'.2) refl

pub one_certificate : (x y : ToldCertificate) (d : Data) → IsCertificate x d → IsCertificate y d → x ≡ y
one_certificate x y d h k =
    one_of_kind x y d (one_field text (codes "kind") (certificate_name x) (certificate_name y) d (certificate_named x d h) (certificate_named y d k)) h k
