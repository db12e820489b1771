-- What is written for a part of a certificate reads as the same part.
use Rattle.std.proofs.Common.{◌≡◌, List, [], ◌∷◌, Option, Some, None, map, refl}
use Rattle.std.specs.Prelude.{codes, MatchOption}
use Rattle.std.specs.List.{AllByRecursion}
use Rattle.serde_json.specs.Data.{Data, null, boolean, number, string, array, object, Items, no_items, item}
use Rattle.serde_json.specs.Find.{get}
use Rattle.krates_cm.specs.Document.{Text}
use Rattle.krates_cm_json.specs.Objects.{Writer, TextWritten, WholeWritten, OptionWritten, EachWritten, ListWritten}
use Rattle.krates_cm_json.specs.Reading.{text, whole, list, nullable}
use Rattle.krates_cm_json.proofs.ReadAgain.{text_again, whole_again, list_again, nullable_again, text_never_null, required_again, told}
use Rattle.krates_ids.specs.Identity.{Identity}
use Rattle.krates_rules.specs.Resolved.{id_of}
use Rattle.krates_certificate.specs.CertificateFields.{Field, IdField, PartField}
use Rattle.krates_certificate.specs.CertificateRoundTrip.{WasRead, IsWritableFact, IsWritableStep, IsWritable, IsSameFact, IsSameStep, IsSameCertificate, WrittenIsRead}
use Rattle.krates_certificate.specs.CertificateTables.{IsFact, IsStep, IsCertificate}
use Rattle.krates_certificate.specs.CertificateViews.{told_crate, told_feature, told_kept, told_toggled, told_derivation, told_closed, kind_name, said_fact, said_step}
use Rattle.krates_certificate.specs.Written.{IdWritten, IsTextFor, fact_table, FactWritten, step_table, StepWritten, certificate_table, CertificateWritten}

-- ---- fields

text_there : (key s : Text) (d : Data) → PartField (TextWritten s) key d → Field text key s d
text_there key s d h = required_again text TextWritten text_again key s d h

texts_there : (key : Text) (ss : List Text) (d : Data) → PartField (ListWritten TextWritten ss) key d → Field (list text) key ss d
texts_there key ss d h = required_again (list text) (ListWritten TextWritten) (list_again text TextWritten text_again) key ss d h

cfg_there : (key : Text) (cfg : Option Text) (d : Data) → PartField (OptionWritten TextWritten cfg) key d → Field (nullable text) key cfg d
cfg_there key cfg d h = required_again (nullable text) (OptionWritten TextWritten) (nullable_again text TextWritten text_never_null text_again) key cfg d h

-- the text that represents an id
text_for : (id : Identity) (o : Option Data) → MatchOption o ⊥ (IdWritten id) → (s : Text) × MatchOption o ⊥ (TextWritten s) × IsTextFor id s
text_for id None h = absurd h
text_for id (Some e) h = h

-- the same id is read there
abbrev SameId : Text → Identity → Data → Type 0
SameId key id d = (read : Identity) × IdField key read d × (id_of read ≡ id_of id)

id_there : (key : Text) (id : Identity) (d : Data) → PartField (IdWritten id) key d → WasRead id → SameId key id d
id_there key id d h (t, reads) =
    let (s, here, fits) = text_for id (get key d) h in
    let again = fits.again t reads in
    (again.read, (s, text_there key s d here, again.reads), again.same)

-- ---- parts that are there

abbrev Again : {A B : Type 0} → (A → B) → (A → Data → Type 0) → A → Data → Type 0
Again {A} said Is x d = (y : A) × Is y d × (said y ≡ said x)

so_there : {A B : Type 0} (said : A → B) (V W : Writer A) (x : A) (o : Option Data) → ((e : Data) → V x e → Again said W x e) → MatchOption o ⊥ (V x)
    → (y : A) × MatchOption o ⊥ (W y) × (said y ≡ said x)
so_there said V W x None more h = absurd h
so_there said V W x (Some e) more h = more e h

each_so : {A B : Type 0} (said : A → B) (Can : A → Type 0) (V W : Writer A) → ((x : A) (d : Data) → Can x → V x d → Again said W x d) → (xs : List A) (ds : Items) → AllByRecursion Can xs → EachWritten V xs ds
    → (ys : List A) × EachWritten W ys ds × (map said ys ≡ map said xs)
each_so said Can V W more [] no_items all h = ([], tt, refl)
each_so said Can V W more [] (item d ds) all h = absurd h
each_so said Can V W more (x ∷ xs) no_items all h = absurd h
each_so said Can V W more (x ∷ xs) (item d ds) all h =
    let (y, w, same) = more x d all.0 h.0 in
    let (ys, ws, sames) = each_so said Can V W more xs ds all.1 h.1 in
    (y ∷ ys, (w, ws), rw (same, sames) refl)

list_so : {A B : Type 0} (said : A → B) (Can : A → Type 0) (V W : Writer A) → ((x : A) (d : Data) → Can x → V x d → Again said W x d) → (xs : List A) → AllByRecursion Can xs → (d : Data) → ListWritten V xs d
    → Again (map said) (ListWritten W) xs d
list_so said Can V W more xs all (array ds) h = each_so said Can V W more xs ds all h
list_so said Can V W more xs all null h = absurd h
list_so said Can V W more xs all (boolean b) h = absurd h
list_so said Can V W more xs all (number n) h = absurd h
list_so said Can V W more xs all (string s) h = absurd h
list_so said Can V W more xs all (object ms) h = absurd h

-- ---- the tables

pub fact_again : WrittenIsRead FactWritten IsFact IsWritableFact IsSameFact
fact_again (told_crate krate) d can w =
    let table = fact_table (told_crate krate) in
    let (k, here, same) = id_there (codes "krate") krate d (told table d (codes "krate") w) can in
    (told_crate k, (text_there (codes "fact") (codes "crate") d (told table d (codes "fact") w), here), rw same refl)
fact_again (told_feature krate name) d can w =
    let table = fact_table (told_feature krate name) in
    let (k, here, same) = id_there (codes "krate") krate d (told table d (codes "krate") w) can in (
      told_feature k name,
      (
        text_there (codes "fact") (codes "feature") d (told table d (codes "fact") w),
        here,
        text_there (codes "name") name d (told table d (codes "name") w),
      ),
      rw same refl,
    )
fact_again (told_kept parent child kind cfg) d can w =
    let table = fact_table (told_kept parent child kind cfg) in
    let (p, p_here, p_same) = id_there (codes "parent") parent d (told table d (codes "parent") w) can.0 in
    let (c, c_here, c_same) = id_there (codes "child") child d (told table d (codes "child") w) can.1 in (
      told_kept p c kind cfg,
      (
        text_there (codes "fact") (codes "kept") d (told table d (codes "fact") w),
        p_here,
        c_here,
        text_there (codes "kind") (kind_name kind) d (told table d (codes "kind") w),
        cfg_there (codes "cfg") cfg d (told table d (codes "cfg") w),
      ),
      rw (p_same, c_same) refl,
    )
fact_again (told_toggled parent child name) d can w =
    let table = fact_table (told_toggled parent child name) in
    let (p, p_here, p_same) = id_there (codes "parent") parent d (told table d (codes "parent") w) can.0 in
    let (c, c_here, c_same) = id_there (codes "child") child d (told table d (codes "child") w) can.1 in (
      told_toggled p c name,
      (
        text_there (codes "fact") (codes "toggled") d (told table d (codes "fact") w),
        p_here,
        c_here,
        text_there (codes "name") name d (told table d (codes "name") w),
      ),
      rw (p_same, c_same) refl,
    )

pub step_again : WrittenIsRead StepWritten IsStep IsWritableStep IsSameStep
step_again x d can w =
    let table = step_table x in
    let (f, here, same) = so_there said_fact FactWritten IsFact x.fact (get (codes "fact") d) (λ e h. fact_again x.fact e can.0 h) (told table d (codes "fact") w) in (
      record { rule = x.rule; fact = f; uses = x.uses },
      (
        (required_again whole WholeWritten whole_again (codes "rule") x.rule d (told table d (codes "rule") w), can.1),
        here,
        required_again (list whole) (ListWritten WholeWritten) (list_again whole WholeWritten whole_again) (codes "uses") x.uses d (told table d (codes "uses") w),
      ),
      rw same refl,
    )

pub certificate_again : WrittenIsRead CertificateWritten IsCertificate IsWritable IsSameCertificate
certificate_again (told_derivation setting steps) d can w =
    let table = certificate_table (told_derivation setting steps) in
    let (xs, here, same) = so_there (map said_step) (ListWritten StepWritten) (ListWritten IsStep) steps (get (codes "steps") d) (list_so said_step IsWritableStep StepWritten IsStep step_again steps can) (told table d (codes "steps") w) in (
      told_derivation setting xs,
      (
        text_there (codes "kind") (codes "derivation") d (told table d (codes "kind") w),
        texts_there (codes "setting") setting d (told table d (codes "setting") w),
        here,
      ),
      (refl, same),
    )
certificate_again (told_closed setting facts) d can w =
    let table = certificate_table (told_closed setting facts) in
    let (fs, here, same) = so_there (map said_fact) (ListWritten FactWritten) (ListWritten IsFact) facts (get (codes "facts") d) (list_so said_fact IsWritableFact FactWritten IsFact fact_again facts can) (told table d (codes "facts") w) in (
      told_closed setting fs,
      (
        text_there (codes "kind") (codes "closed") d (told table d (codes "kind") w),
        texts_there (codes "setting") setting d (told table d (codes "setting") w),
        here,
      ),
      (refl, same),
    )
