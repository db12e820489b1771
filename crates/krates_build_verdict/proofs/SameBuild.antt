-- Machines that texts describe, one after another, and certificates of other builds.
use Rattle.std.proofs.Common.{◌≡◌, ℕ, ◌+◌, ◌-◌, ◌<◌, ◌≤◌, suc, List, [], ◌∷◌, ◌++◌, arith, drop, get_or, length, map, take, refl, subst, sym}
use Rattle.std.proofs.lemmas.List.{take-map, take_all}
use Rattle.std.proofs.lemmas.Slice.Zip.{all_zipped_more}
use Rattle.std.specs.List.{AllZip}
use Rattle.krates_units.specs.BuildSetting.{BuildSettingModel}
use Rattle.krates_units.specs.Machines.{MachineModel, machine_view}
use Rattle.krates_units.specs.declared.machine.Machine.{Machine}
use Rattle.krates_words.specs.BuildSettingWords.{words_of_build}
use Rattle.krates_build_certificate.specs.BuildCertificateViews.{ToldCertificate, ToldMachine, machine_told}
use Rattle.krates_build_certificate.specs.declared.machine_text.MachineText.{MachineText}
use Rattle.krates_build_verdict.proofs.NamedClaims.{seen_here, seen_more}
use Rattle.krates_build_verdict.specs.SameBuild.{Describes, MachineFails, MachineRefusal, MachinesRefusal, OtherBuildRefusal, OtherWords, machines_asked}
use Rattle.krates_build_verdict.specs.declared.refusal.BuildRefusal.{BuildRefusal}
use Rattle.krates_build_verdict.specs.declared.refusal.BuildRefusal.TheVariants as refusals

-- the text of the first machine describes another
pub first_fails : (texts : List MachineText) (x : MachineText) (m : MachineModel) (ms : List MachineModel) (e : BuildRefusal) → 1 ≤ length texts → x ≡ get_or texts 0 x → MachineRefusal (machine_told x) m e
    → MachineFails (map machine_told texts) (m ∷ ms) e
first_fails texts x m ms e some is h = record {
  place = 0;
  before = tt;
  told = machine_told x;
  machine = m;
  text_here = seen_here machine_told texts 0 x (omega (arith, some)) is;
  machine_here = refl;
  refused = h;
}

behind_first : (text : ToldMachine) (texts : List ToldMachine) (m : MachineModel) (ms : List MachineModel) (e : BuildRefusal) → Describes text m → MachineFails texts ms e → MachineFails (text ∷ texts) (m ∷ ms) e
behind_first text texts m ms e here h = record {
  place = suc h.place;
  before = (here, h.before);
  told = h.told;
  machine = h.machine;
  text_here = h.text_here;
  machine_here = h.machine_here;
  refused = h.refused;
}

-- or that of a later one
pub later_fails : (texts : List MachineText) (x : MachineText) (m : MachineModel) (ms : List MachineModel) (e : BuildRefusal) → 1 ≤ length texts → x ≡ get_or texts 0 x → Describes (machine_told x) m
    → MachineFails (map machine_told (take (length texts - 1) (drop 1 texts))) ms e → MachineFails (map machine_told texts) (m ∷ ms) e
later_fails [] x m ms e some is here h = absurd (omega arith)
later_fails (y ∷ texts) x m ms e some is here h =
    let all : take (suc (length texts) - 1) texts ≡ texts = take_all _ texts (omega arith) in
    let rest = subst (λ (xs : List MachineText). MachineFails (map machine_told xs) ms e) all h in
    behind_first (machine_told y) (map machine_told texts) m ms e (subst (λ (z : MachineText). Describes (machine_told z) m) is here) rest

pub machines_fail : (texts : List ToldMachine) (ms : List MachineModel) (e : BuildRefusal) → MachineFails texts ms e → MachinesRefusal texts ms e
machines_fail texts ms refusals.Utf8 h = h
machines_fail texts ms (refusals.Certificate _) h = h
machines_fail texts ms (refusals.Setting _) h = h
machines_fail texts ms (refusals.Count _ _) h = absurd h.refused
machines_fail texts ms (refusals.Machine _) h = h
machines_fail texts ms (refusals.NoMachine _ _) h = h
machines_fail texts ms (refusals.Document _) h = h
machines_fail texts ms (refusals.Unanswered _) h = h
machines_fail texts ms (refusals.Unnamed _ _ _) h = h
machines_fail texts ms (refusals.Later _ _) h = h
machines_fail texts ms (refusals.Lost _) h = h
machines_fail texts ms (refusals.Check _) h = h
machines_fail texts ms refusals.Memory h = h

-- ---- certificates

pub other_words : (s : BuildSettingModel) (c : ToldCertificate) (e : BuildRefusal) → OtherWords s c.setting e → OtherBuildRefusal s c e
other_words s c refusals.Utf8 h = absurd h
other_words s c (refusals.Certificate _) h = absurd h
other_words s c (refusals.Setting _) h = h
other_words s c (refusals.Count _ _) h = absurd h
other_words s c (refusals.Machine _) h = absurd h
other_words s c (refusals.NoMachine _ _) h = absurd h
other_words s c (refusals.Document _) h = absurd h
other_words s c (refusals.Unanswered _) h = absurd h
other_words s c (refusals.Unnamed _ _ _) h = absurd h
other_words s c (refusals.Later _ _) h = absurd h
other_words s c (refusals.Lost _) h = absurd h
other_words s c (refusals.Check _) h = absurd h
other_words s c refusals.Memory h = tt

pub other_machines : (s : BuildSettingModel) (c : ToldCertificate) (e : BuildRefusal) → c.setting ≡ words_of_build s → MachinesRefusal c.machines (machines_asked s) e → OtherBuildRefusal s c e
other_machines s c refusals.Utf8 same h = (same, h)
other_machines s c (refusals.Certificate _) same h = (same, h)
other_machines s c (refusals.Setting _) same h = absurd h.refused
other_machines s c (refusals.Count _ _) same h = (same, h)
other_machines s c (refusals.Machine _) same h = (same, h)
other_machines s c (refusals.NoMachine _ _) same h = (same, h)
other_machines s c (refusals.Document _) same h = (same, h)
other_machines s c (refusals.Unanswered _) same h = (same, h)
other_machines s c (refusals.Unnamed _ _ _) same h = (same, h)
other_machines s c (refusals.Later _ _) same h = (same, h)
other_machines s c (refusals.Lost _) same h = (same, h)
other_machines s c (refusals.Check _) same h = (same, h)
other_machines s c refusals.Memory same h = tt

-- ---- machines one after another

-- one text more describes one machine more
pub described_more : (texts : List MachineText) (ms : List Machine) (i : ℕ) (x : MachineText) (m : Machine) → i < length texts → i < length ms → x ≡ get_or texts i x → m ≡ get_or ms i m
    → AllZip Describes (map machine_told (take i texts)) (map machine_view (take i ms)) → Describes (machine_told x) (machine_view m)
    → AllZip Describes (map machine_told (take (i + 1) texts)) (map machine_view (take (i + 1) ms))
described_more texts ms i x m lt less is are so_far here =
    let told = seen_more machine_told texts i x lt is in
    let seen = seen_more machine_view ms i m less are in
    subst (λ (xs : List ToldMachine). AllZip Describes xs (map machine_view (take (i + 1) ms))) (sym told)
    (subst (AllZip Describes (map machine_told (take i texts) ++ machine_told x ∷ [])) (sym seen)
    (all_zipped_more Describes (map machine_told (take i texts)) (map machine_view (take i ms)) (machine_told x) (machine_view m) so_far here))

pub described_all : (texts : List MachineText) (ms : List Machine) (i : ℕ) → length texts ≤ i → length ms ≤ i → AllZip Describes (map machine_told (take i texts)) (map machine_view (take i ms))
    → AllZip Describes (map machine_told texts) (map machine_view ms)
described_all texts ms i past over h =
    subst (λ (xs : List MachineText). AllZip Describes (map machine_told xs) (map machine_view ms)) (take_all i texts past)
    (subst (λ (ys : List Machine). AllZip Describes (map machine_told (take i texts)) (map machine_view ys)) (take_all i ms over) h)

-- the next text describes another machine
pub next_fails : (texts : List MachineText) (ms : List Machine) (i : ℕ) (x : MachineText) (m : Machine) (e : BuildRefusal) → i < length texts → i < length ms → x ≡ get_or texts i x → m ≡ get_or ms i m
    → AllZip Describes (map machine_told (take i texts)) (map machine_view (take i ms)) → MachineRefusal (machine_told x) (machine_view m) e → MachineFails (map machine_told texts) (map machine_view ms) e
next_fails texts ms i x m e lt less is are so_far refused = record {
  place = i;
  before = subst (λ (xs : List ToldMachine). AllZip Describes xs (take i (map machine_view ms))) (sym (take-map machine_told i texts))
      (subst (AllZip Describes (map machine_told (take i texts))) (sym (take-map machine_view i ms)) so_far);
  told = machine_told x;
  machine = machine_view m;
  text_here = seen_here machine_told texts i x lt is;
  machine_here = seen_here machine_view ms i m less are;
  refused = refused;
}
