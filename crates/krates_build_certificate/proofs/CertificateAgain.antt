-- What is written for a certificate is read as it.
use Rattle.std.proofs.Common.{◌≡◌, List, Some, None, refl}
use Rattle.std.specs.Prelude.{codes, MatchOption}
use Rattle.serde_json.specs.Data.{Data}
use Rattle.serde_json.specs.Find.{get}
use Rattle.krates_cm.specs.Document.{Text}
use Rattle.krates_cm_json.specs.Objects.{TextWritten, WholeWritten, ListWritten}
use Rattle.krates_cm_json.specs.Reading.{read_as, ◌<*>◌, text, whole, list, required}
use Rattle.krates_cm_json.proofs.ReadAgain.{ReadsBack, text_again, whole_again, list_again, found_again, required_again, told}
use Rattle.krates_build_certificate.specs.BuildCertificateTables.{machine, step, claim, certificate}
use Rattle.krates_build_certificate.specs.BuildCertificateViews.{ToldMachine, ToldStep, ToldClaim, told_steps, told_closed}
use Rattle.krates_build_certificate.specs.BuildCertificateWritten.{TextsWritten, machine_table, MachineWritten, step_table, StepWritten, certificate_table, CertificateWritten}

texts_again : ReadsBack (list text) TextsWritten
texts_again = list_again text TextWritten text_again

pub machine_again : ReadsBack machine MachineWritten
unfolding machine
machine_again key m d w =
    let table = machine_table m in
    rw (
      required_again text TextWritten text_again (codes "triple") m.triple d (told table d (codes "triple") w),
      required_again text TextWritten text_again (codes "cfg") m.cfg d (told table d (codes "cfg") w),
    ) refl

pub step_again : ReadsBack step StepWritten
unfolding step
step_again key m d w =
    let table = step_table m in
    rw (
      required_again (list text) TextsWritten texts_again (codes "fact") m.fact d (told table d (codes "fact") w),
      required_again (list whole) (ListWritten WholeWritten) (list_again whole WholeWritten whole_again) (codes "uses") m.uses d (told table d (codes "uses") w),
    ) refl

-- steps are read where there are some
steps_again : (steps : List ToldStep) (d : Data) → MatchOption (get (codes "steps") d) ⊥ (ListWritten StepWritten steps) → (claim d).value ≡ Some (told_steps steps)
steps_again steps d w = found_again (read_as (λ facts. told_closed facts) <*> required (list (list text)) (codes "facts") d)
    (λ e. read_as (λ told. told_steps told) <*> list step (codes "steps") e)
    (ListWritten StepWritten steps) (told_steps steps) (get (codes "steps") d)
    (λ e written. rw (list_again step StepWritten step_again (codes "steps") steps e written) refl) w

-- and otherwise facts
facts_again : (facts : List (List Text)) (d : Data) → get (codes "steps") d ≡ None → MatchOption (get (codes "facts") d) ⊥ (ListWritten TextsWritten facts) → (claim d).value ≡ Some (told_closed facts)
facts_again facts d none w =
    let here = required_again (list (list text)) (ListWritten TextsWritten) (list_again (list text) TextsWritten texts_again) (codes "facts") facts d w in
    rw (none, here) refl

so_again : (setting : List Text) (machines : List ToldMachine) (c : ToldClaim) (key : Text) (d : Data) → CertificateWritten record { setting = setting; machines = machines; claim = c } d
    → (certificate key d).value ≡ Some record { setting = setting; machines = machines; claim = c }
unfolding certificate
so_again setting machines (told_steps steps) key d w =
    let table = certificate_table setting machines (told_steps steps) in
    rw (
      required_again (list text) TextsWritten texts_again (codes "setting") setting d (told table d (codes "setting") w),
      required_again (list machine) (ListWritten MachineWritten) (list_again machine MachineWritten machine_again) (codes "machines") machines d (told table d (codes "machines") w),
      steps_again steps d (told table d (codes "steps") w),
    ) refl
so_again setting machines (told_closed facts) key d w =
    let table = certificate_table setting machines (told_closed facts) in
    rw (
      required_again (list text) TextsWritten texts_again (codes "setting") setting d (told table d (codes "setting") w),
      required_again (list machine) (ListWritten MachineWritten) (list_again machine MachineWritten machine_again) (codes "machines") machines d (told table d (codes "machines") w),
      facts_again facts d (told table d (codes "steps") w) (told table d (codes "facts") w),
    ) refl

pub certificate_again : ReadsBack certificate CertificateWritten
certificate_again key m d w = so_again m.setting m.machines m.claim key d w
