-- The tables of a certificate: which keys each part has, how the data under each is read, and so which fault data has that isn't read. One
-- row per key.
use Rattle.std.specs.Prelude.{codes}
use Rattle.serde_json.specs.Data.{Data}
use Rattle.serde_json.specs.Find.{get}
use Rattle.krates_cm_json.specs.Reading.{Reader, Reading, ◌<*>◌, read_as, found, text, whole, list, required}
use Rattle.krates_build_certificate.specs.BuildCertificateViews.{ToldMachine, ToldStep, ToldClaim, told_steps, told_closed, ToldCertificate}

unfoldable pub machine : Reader ToldMachine
machine key d = read_as (λ triple cfg. record { triple = triple; cfg = cfg })
    <*> required text (codes "triple") d
    <*> required text (codes "cfg") d

unfoldable pub step : Reader ToldStep
step key d = read_as (λ fact uses. record { fact = fact; uses = uses })
    <*> required (list text) (codes "fact") d
    <*> required (list whole) (codes "uses") d

-- steps where there is the key of steps, and otherwise facts
abbrev pub claim : Data → Reading ToldClaim
claim d = found (read_as (λ facts. told_closed facts) <*> required (list (list text)) (codes "facts") d)
    (λ steps. read_as (λ told. told_steps told) <*> list step (codes "steps") steps)
    (get (codes "steps") d)

unfoldable pub certificate : Reader ToldCertificate
certificate key d = read_as (λ setting machines claim. record { setting = setting; machines = machines; claim = claim })
    <*> required (list text) (codes "setting") d
    <*> required (list machine) (codes "machines") d
    <*> claim d
