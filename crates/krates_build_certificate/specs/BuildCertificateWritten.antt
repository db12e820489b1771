-- The tables of a certificate as it is written: which keys each part has, in their order, and the data under each. One row per key.
use Rattle.std.specs.Prelude.{List, codes}
use Rattle.serde_json.specs.Data.{Members}
use Rattle.serde_json.specs.View.{members_view}
use Rattle.krates_cm.specs.Document.{Text}
use Rattle.krates_cm_json.specs.Objects.{Writer, TextWritten, WholeWritten, ListWritten, Table, ObjectWritten, ◌also◌, always, no_more}
use Rattle.krates_build_certificate.specs.BuildCertificateViews.{ToldMachine, ToldStep, ToldClaim, told_steps, told_closed, ToldCertificate}
use Rattle.krates_build_certificate.specs.declared.object.Object.{Object}

abbrev pub members_of : Object → Members
members_of object = members_view object.members.entries

abbrev pub TextsWritten : Writer (List Text)
TextsWritten = ListWritten TextWritten

abbrev pub machine_table : ToldMachine → Table
machine_table m =
    always (codes "cfg") (TextWritten m.cfg)
    also always (codes "triple") (TextWritten m.triple)
    also no_more

abbrev pub MachineWritten : Writer ToldMachine
MachineWritten m = ObjectWritten (machine_table m)

abbrev pub step_table : ToldStep → Table
step_table m =
    always (codes "fact") (TextsWritten m.fact)
    also always (codes "uses") (ListWritten WholeWritten m.uses)
    also no_more

abbrev pub StepWritten : Writer ToldStep
StepWritten m = ObjectWritten (step_table m)

abbrev pub certificate_table : List Text → List ToldMachine → ToldClaim → Table
certificate_table setting machines (told_steps steps) =
    always (codes "machines") (ListWritten MachineWritten machines)
    also always (codes "setting") (TextsWritten setting)
    also always (codes "steps") (ListWritten StepWritten steps)
    also no_more
certificate_table setting machines (told_closed facts) =
    always (codes "facts") (ListWritten TextsWritten facts)
    also always (codes "machines") (ListWritten MachineWritten machines)
    also always (codes "setting") (TextsWritten setting)
    also no_more

abbrev pub CertificateWritten : Writer ToldCertificate
CertificateWritten m = ObjectWritten (certificate_table m.setting m.machines m.claim)
