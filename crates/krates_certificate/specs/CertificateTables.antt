-- The tables of a certificate: which data is which fact, step and certificate, and which fault is true of other data. One row per key.
use Rattle.std.specs.Prelude.{◌≡◌, ◌⊎◌, Some, None, codes}
use Rattle.serde_json.specs.Data.{Data}
use Rattle.serde_json.specs.Read as json
use Rattle.krates_cm.specs.Document.{Text}
use Rattle.krates_cm_json.specs.Reading.{text, whole, list, nullable}
use Rattle.krates_certificate.specs.CertificateFields.{Field, IdField, NameField, RuleField, PartField, ListField, FieldFault, IdFault, NameFault, RuleFault, PartFault, ListFault}
use Rattle.krates_certificate.specs.CertificateRefusals.{Fault, not_json}
use Rattle.krates_certificate.specs.CertificateViews.{ToldFact, told_crate, told_feature, told_kept, told_toggled, ToldStep, ToldCertificate, told_derivation, told_closed, fact_name, kind_name, certificate_name}

-- ---- facts

abbrev pub IsFact : ToldFact → Data → Type 0
IsFact (told_crate krate) d =
    NameField (codes "fact") (codes "crate") d
    × IdField (codes "krate") krate d
IsFact (told_feature krate name) d =
    NameField (codes "fact") (codes "feature") d
    × IdField (codes "krate") krate d
    × Field text (codes "name") name d
IsFact (told_kept parent child kind cfg) d =
    NameField (codes "fact") (codes "kept") d
    × IdField (codes "parent") parent d
    × IdField (codes "child") child d
    × NameField (codes "kind") (kind_name kind) d
    × Field (nullable text) (codes "cfg") cfg d
IsFact (told_toggled parent child name) d =
    NameField (codes "fact") (codes "toggled") d
    × IdField (codes "parent") parent d
    × IdField (codes "child") child d
    × Field text (codes "name") name d

pub data FactFault (d : Data) (fault : Fault) : Type 0 where
  in_name : NameFault fact_name (codes "fact") d fault → FactFault d fault
  in_crate : NameField (codes "fact") (codes "crate") d
      → IdFault (codes "krate") d fault → FactFault d fault
  in_feature : NameField (codes "fact") (codes "feature") d
      → IdFault (codes "krate") d fault ⊎ FieldFault text (codes "name") d fault → FactFault d fault
  in_kept : NameField (codes "fact") (codes "kept") d
      → IdFault (codes "parent") d fault ⊎ IdFault (codes "child") d fault ⊎ NameFault kind_name (codes "kind") d fault
      ⊎ FieldFault (nullable text) (codes "cfg") d fault → FactFault d fault
  in_toggled : NameField (codes "fact") (codes "toggled") d
      → IdFault (codes "parent") d fault ⊎ IdFault (codes "child") d fault ⊎ FieldFault text (codes "name") d fault → FactFault d fault

-- ---- steps

abbrev pub IsStep : ToldStep → Data → Type 0
IsStep x d =
    RuleField x.rule d
    × PartField (IsFact x.fact) (codes "fact") d
    × Field (list whole) (codes "uses") x.uses d

abbrev pub StepFault : Data → Fault → Type 0
StepFault d fault =
    RuleFault d fault
    ⊎ PartFault FactFault (codes "fact") d fault
    ⊎ FieldFault (list whole) (codes "uses") d fault

-- ---- whole certificates

abbrev pub IsCertificate : ToldCertificate → Data → Type 0
IsCertificate (told_derivation setting steps) d =
    NameField (codes "kind") (codes "derivation") d
    × Field (list text) (codes "setting") setting d
    × ListField IsStep (codes "steps") steps d
IsCertificate (told_closed setting facts) d =
    NameField (codes "kind") (codes "closed") d
    × Field (list text) (codes "setting") setting d
    × ListField IsFact (codes "facts") facts d

-- the data isn't a certificate
abbrev pub IsNoCertificate : Data → Type 0
IsNoCertificate d = (m : ToldCertificate) → IsCertificate m d → ⊥

pub data CertificateFault (d : Data) (fault : Fault) : Type 0 where
  in_kind : NameFault certificate_name (codes "kind") d fault → CertificateFault d fault
  in_setting : FieldFault (list text) (codes "setting") d fault → CertificateFault d fault
  in_steps : NameField (codes "kind") (codes "derivation") d → ListFault StepFault (codes "steps") d fault → CertificateFault d fault
  in_facts : NameField (codes "kind") (codes "closed") d → ListFault FactFault (codes "facts") d fault → CertificateFault d fault

-- ---- texts

-- the text is JSON, and its data is the certificate
abbrev pub IsCertificateText : Text → ToldCertificate → Type 0
IsCertificateText s m = (d : Data) × (json.read s ≡ Some d) × IsCertificate m d

-- the text isn't JSON, or its data isn't a certificate
abbrev pub IsNoCertificateText : Text → Type 0
IsNoCertificateText s = (m : ToldCertificate) → IsCertificateText s m → ⊥

-- the text isn't JSON, or the fault is true of its data
pub data TextFault (s : Text) (fault : Fault) : Type 0 where
  no_data : json.read s ≡ None → fault ≡ not_json → TextFault s fault
  in_data : (d : Data) → json.read s ≡ Some d → CertificateFault d fault → TextFault s fault
