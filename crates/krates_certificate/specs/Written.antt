-- The tables of a certificate as it is written: which keys each part has, in their order, and the data under each. One row per key.
use Rattle.std.specs.Prelude.{◌≡◌, [], ◌∷◌, ◌++◌, codes}
use Rattle.serde_json.specs.Data.{string, Members}
use Rattle.serde_json.specs.View.{members_view}
use Rattle.krates_cm_json.specs.Objects.{Writer, TextWritten, WholeWritten, OptionWritten, ListWritten, Table, ObjectWritten, ◌also◌, always, no_more}
use Rattle.krates_cm.specs.Document.{Text}
use Rattle.krates_ids.specs.Identity.{Identity, Reads}
use Rattle.krates_ids.specs.Separators.{blank, hash_sign, opening, closing}
use Rattle.krates_rules.specs.Resolved.{id_of, ReadsAs}
use Rattle.krates_certificate.specs.CertificateViews.{ToldFact, told_crate, told_feature, told_kept, told_toggled, ToldStep, ToldCertificate, told_derivation, told_closed, kind_name}
use Rattle.krates_certificate.specs.declared.write.object.Object.{Object}

abbrev pub members_of : Object → Members
members_of object = members_view object.members.entries

-- the text is the id's own where that reads as the same id, and it reads as the same id if any text does
pub record IsTextFor (id : Identity) (s : Text) : Type 0 where
  pub own : ReadsAs id.text (id_of id) → s ≡ id.text
  pub again : (t : Text) → Reads t id → ReadsAs s (id_of id)

-- name, version and source of an id in the opaque form, with no commit
abbrev pub parts_text : Identity → Text
parts_text id = id.name ++ blank ∷ (id.version ++ blank ∷ opening ∷ (id.source ++ hash_sign ∷ closing ∷ []))

-- an id, as such a text
abbrev pub IdWritten : Writer Identity
IdWritten id d = (s : Text) × (d ≡ string s) × IsTextFor id s

abbrev pub fact_table : ToldFact → Table
fact_table (told_crate krate) =
    always (codes "fact") (TextWritten (codes "crate"))
    also always (codes "krate") (IdWritten krate)
    also no_more
fact_table (told_feature krate name) =
    always (codes "fact") (TextWritten (codes "feature"))
    also always (codes "krate") (IdWritten krate)
    also always (codes "name") (TextWritten name)
    also no_more
fact_table (told_kept parent child kind cfg) =
    always (codes "cfg") (OptionWritten TextWritten cfg)
    also always (codes "child") (IdWritten child)
    also always (codes "fact") (TextWritten (codes "kept"))
    also always (codes "kind") (TextWritten (kind_name kind))
    also always (codes "parent") (IdWritten parent)
    also no_more
fact_table (told_toggled parent child name) =
    always (codes "child") (IdWritten child)
    also always (codes "fact") (TextWritten (codes "toggled"))
    also always (codes "name") (TextWritten name)
    also always (codes "parent") (IdWritten parent)
    also no_more

abbrev pub FactWritten : Writer ToldFact
FactWritten m = ObjectWritten (fact_table m)

abbrev pub step_table : ToldStep → Table
step_table m =
    always (codes "fact") (FactWritten m.fact)
    also always (codes "rule") (WholeWritten m.rule)
    also always (codes "uses") (ListWritten WholeWritten m.uses)
    also no_more

abbrev pub StepWritten : Writer ToldStep
StepWritten m = ObjectWritten (step_table m)

abbrev pub certificate_table : ToldCertificate → Table
certificate_table (told_derivation setting steps) =
    always (codes "kind") (TextWritten (codes "derivation"))
    also always (codes "setting") (ListWritten TextWritten setting)
    also always (codes "steps") (ListWritten StepWritten steps)
    also no_more
certificate_table (told_closed setting facts) =
    always (codes "facts") (ListWritten FactWritten facts)
    also always (codes "kind") (TextWritten (codes "closed"))
    also always (codes "setting") (ListWritten TextWritten setting)
    also no_more

abbrev pub CertificateWritten : Writer ToldCertificate
CertificateWritten m = ObjectWritten (certificate_table m)
