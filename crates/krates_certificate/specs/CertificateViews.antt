-- Facts, steps and certificates as clauses see them: an id is all that it keeps, a text its bytes.
use Rattle.std.specs.Prelude.{ℕ, List, Option, map, option_map, codes}
use Rattle.krates_cm.specs.Document.{Text, text_view, texts_view}
use Rattle.krates_ids.specs.Identity.{Identity}
use Rattle.krates_rules.specs.declared.derivation.Fact.{Fact}
use Rattle.krates_rules.specs.declared.derivation.Fact.TheVariants as facts
use Rattle.krates_rules.specs.declared.derivation.Step.{Step}
use Rattle.krates_rules.specs.declared.kind.DepKind.{DepKind}
use Rattle.krates_rules.specs.declared.kind.DepKind.TheVariants as kinds
use Rattle.krates_rules.specs.Facts as rules
use Rattle.krates_rules.specs.Kind.{written_of}
use Rattle.krates_rules.specs.Resolved.{id_of}
use Rattle.krates_rules.specs.Steps.{StepModel}
use Rattle.krates_certificate.specs.declared.certificate.Certificate.{Certificate}
use Rattle.krates_certificate.specs.declared.certificate.Certificate.TheVariants as certificates

pub data ToldFact : Type 0 where
  told_crate : (krate : Identity) → ToldFact
  told_feature : (krate : Identity) (name : Text) → ToldFact
  told_kept : (parent child : Identity) (kind : DepKind) (cfg : Option Text) → ToldFact
  told_toggled : (parent child : Identity) (name : Text) → ToldFact

pub record ToldStep : Type 0 where
  pub rule : ℕ
  pub fact : ToldFact
  pub uses : List ℕ

pub data ToldCertificate : Type 0 where
  told_derivation : (setting : List Text) (steps : List ToldStep) → ToldCertificate
  told_closed : (setting : List Text) (facts : List ToldFact) → ToldCertificate

-- ---- how a value is represented

abbrev pub fact_told : Fact → ToldFact
fact_told (facts.Crate krate) = told_crate krate
fact_told (facts.Feature krate name) = told_feature krate (text_view name)
fact_told (facts.Kept parent child kind cfg) = told_kept parent child kind (option_map text_view cfg)
fact_told (facts.Toggled parent child name) = told_toggled parent child (text_view name)

abbrev pub step_told : Step → ToldStep
step_told x = record { rule = x.rule; fact = fact_told x.fact; uses = x.uses.items }

abbrev pub certificate_told : Certificate → ToldCertificate
certificate_told (certificates.Derivation setting derivation) = told_derivation (texts_view setting) (map step_told derivation.steps.items)
certificate_told (certificates.Closed setting listed) = told_closed (texts_view setting) (map fact_told listed.items)

-- ---- what is said by the rules' own words, which see an id by its name, version and source

abbrev pub said_fact : ToldFact → rules.Fact
said_fact (told_crate krate) = rules.Crate (id_of krate)
said_fact (told_feature krate name) = rules.Feature (id_of krate) name
said_fact (told_kept parent child kind cfg) =
    rules.Kept (record { parent = id_of parent; child = id_of child; kind = written_of kind; cfg = cfg })
said_fact (told_toggled parent child name) = rules.Toggled (id_of parent) (id_of child) name

abbrev pub said_step : ToldStep → StepModel
said_step x = record { rule = x.rule; fact = said_fact x.fact; uses = x.uses }

-- ---- names

-- the name of a fact's form
abbrev pub fact_name : ToldFact → Text
fact_name (told_crate krate) = codes "crate"
fact_name (told_feature krate name) = codes "feature"
fact_name (told_kept parent child kind cfg) = codes "kept"
fact_name (told_toggled parent child name) = codes "toggled"

-- the name of a kind of dependencies
abbrev pub kind_name : DepKind → Text
kind_name kinds.Normal = codes "normal"
kind_name kinds.Build = codes "build"
kind_name kinds.Dev = codes "dev"

-- the name of a certificate's kind
abbrev pub certificate_name : ToldCertificate → Text
certificate_name (told_derivation setting steps) = codes "derivation"
certificate_name (told_closed setting facts) = codes "closed"
