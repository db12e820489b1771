-- When a certificate is of a build: it has its words, and describes its machines.
use Rattle.std.specs.Prelude.{◌≡◌, ⊤, ℕ, List, ◌∷◌, Some, length, slice_get, take}
use Rattle.std.specs.List.{AllZip}
use Rattle.krates_cm.specs.Document.{Text, text_view, texts_view}
use Rattle.krates_units.specs.BuildSetting.{BuildSettingModel}
use Rattle.krates_units.specs.MachineFaults.{IsFaultOf}
use Rattle.krates_units.specs.Machines.{MachineModel}
use Rattle.krates_units.specs.RustcLines.{IsPrinted}
use Rattle.krates_units.specs.declared.machine.MachineError.TheVariants as machine_errors
use Rattle.krates_words.specs.BuildSettingWords.{words_of_build}
use Rattle.krates_build_certificate.specs.BuildCertificateViews.{ToldCertificate, ToldMachine}
use Rattle.krates_build_verdict.specs.declared.refusal.BuildRefusal.{BuildRefusal}
use Rattle.krates_build_verdict.specs.declared.refusal.BuildRefusal.TheVariants as refusals

-- the texts describe the machine
abbrev pub Describes : ToldMachine → MachineModel → Type 0
Describes x m = IsPrinted x.triple x.cfg m

-- the machine that builds, and then each that the build is for
abbrev pub machines_asked : BuildSettingModel → List MachineModel
machines_asked s = s.host ∷ s.targets

-- the certificate has the words of the build, and describes its machines, one for each
pub record IsOfBuild (s : BuildSettingModel) (c : ToldCertificate) : Type 0 where
  pub words : c.setting ≡ words_of_build s
  pub machines : AllZip Describes c.machines (machines_asked s)

-- ---- why it isn't; memory may always run out

-- these are other words than those of the build, and they are told
abbrev pub OtherWords : BuildSettingModel → List Text → BuildRefusal → Type 0
OtherWords s words (refusals.Setting claimed) = (texts_view claimed ≡ words) × ¬ words ≡ words_of_build s
OtherWords s words refusals.Memory = ⊤
OtherWords s words _ = ⊥

-- the texts describe another machine than this, or none
abbrev pub MachineRefusal : ToldMachine → MachineModel → BuildRefusal → Type 0
MachineRefusal x m (refusals.Machine triple) =
    (text_view triple ≡ m.triple) × ((other : MachineModel) × Describes x other × ¬ other ≡ m)
MachineRefusal x m (refusals.NoMachine triple cause) =
    (text_view triple ≡ m.triple) × IsFaultOf x.cfg cause × ¬ cause ≡ machine_errors.Memory
MachineRefusal x m refusals.Memory = ⊤
MachineRefusal x m _ = ⊥

-- the texts at a place don't describe the machine there, and those before it do
pub record MachineFails (texts : List ToldMachine) (ms : List MachineModel) (e : BuildRefusal) : Type 0 where
  pub place : ℕ
  pub before : AllZip Describes (take place texts) (take place ms)
  pub told : ToldMachine
  pub machine : MachineModel
  pub text_here : slice_get texts place ≡ Some told
  pub machine_here : slice_get ms place ≡ Some machine
  pub refused : MachineRefusal told machine e

-- why the texts don't describe the machines, one for each
abbrev pub MachinesRefusal : List ToldMachine → List MachineModel → BuildRefusal → Type 0
MachinesRefusal texts ms (refusals.Count found wanted) =
    (found ≡ length texts) × (wanted ≡ length ms) × ¬ found ≡ wanted
MachinesRefusal texts ms e = MachineFails texts ms e

-- why a certificate is of another build
abbrev pub OtherBuildRefusal : BuildSettingModel → ToldCertificate → BuildRefusal → Type 0
OtherBuildRefusal s c (refusals.Setting claimed) = OtherWords s c.setting (refusals.Setting claimed)
OtherBuildRefusal s c refusals.Memory = ⊤
OtherBuildRefusal s c e = (c.setting ≡ words_of_build s) × MachinesRefusal c.machines (machines_asked s) e
