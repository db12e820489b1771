-- A part of a list of steps, from the chosen steps and what they use.
use Rattle.std.proofs.Common.{◌≡◌, ℕ, ◌+◌, ◌<◌, List, [], ◌∷◌, Some, None, Contains, length, get_or, map, option_map, arith, sym, ap, ◌∙◌, subst}
use Rattle.std.proofs.lemmas.List.{length-map}
use Rattle.std.proofs.lemmas.Option.{slice_get-map, slice_get-get_or, slice_get_within, same_Some}
use Rattle.std.specs.List.{AllZip, slice_get}
use Rattle.krates_rules.specs.StepParts.{HaveOwnFacts, IsPart, IsRenumbered, IsUsedLater, StandsFor}
use Rattle.krates_rules.specs.Steps.{EndsIn, StepModel}
use Rattle.krates_rules.specs.Uses.{numbers_used}
use Rattle.krates_rules.specs.declared.uses.Uses.{Uses}
use Rattle.krates_selection.specs.PartOfSteps.{AreUsedBehind, EndsAt, HaveOwnNumbers, IsNewNumber, IsPartBy, SameFact, SameNumber, ArePicked, HaveTheseFacts, UseThese}
use Rattle.krates_selection.proofs.NeededParts.{one_place}

-- steps that are the same by number have the same fact
abbrev pub TellsFacts : (ℕ → ℕ → Type 0) → List StepModel → Type 0
TellsFacts Same whole = (j k : ℕ) (x y : StepModel) → Same j k → slice_get whole j ≡ Some x → slice_get whole k ≡ Some y → x.fact ≡ y.fact

as_long : (whole : List StepModel) (steps : List Uses) → UseThese whole steps → length whole ≡ length steps
as_long whole steps these = sym (length-map whole (λ (x : StepModel). x.uses)) ∙ ap length these ∙ length-map steps numbers_used

uses_at : (whole : List StepModel) (steps : List Uses) (k : ℕ) (x : StepModel) (u : Uses) → UseThese whole steps → slice_get whole k ≡ Some x → slice_get steps k ≡ Some u → numbers_used u ≡ x.uses
uses_at whole steps k x u these at there =
    let one : slice_get (map (λ (y : StepModel). y.uses) whole) k ≡ Some x.uses = slice_get-map (λ (y : StepModel). y.uses) whole k ∙ ap (option_map (λ (y : StepModel). y.uses)) at in
    let other : slice_get (map numbers_used steps) k ≡ Some (numbers_used u) = slice_get-map numbers_used steps k ∙ ap (option_map numbers_used) there in
    same_Some (numbers_used u) x.uses (sym other ∙ ap (λ (xs : List (List ℕ)). slice_get xs k) (sym these) ∙ one)

-- a chosen number is a place of the whole list
chosen_within : (Same : ℕ → ℕ → Type 0) (whole : List StepModel) (steps part : List Uses) (chosen : List ℕ) (now number : ℕ) → UseThese whole steps → IsPartBy Same steps chosen part → slice_get chosen now ≡ Some number → number < length whole
chosen_within Same whole steps part chosen now number these p at =
    let none : Uses = record { first = None; second = None } in
    let within : now < length part = omega (arith, p.long, slice_get_within chosen now number at) in
    let r = p.each now (get_or part now none) (slice_get-get_or part now none within) in
    let is : r.before ≡ number = same_Some r.before number (sym r.chosen_at ∙ at) in
    omega (arith, is, as_long whole steps these, slice_get_within steps r.before r.old r.at)

stand_for : (Same : ℕ → ℕ → Type 0) (whole : List StepModel) (steps part : List Uses) (chosen : List ℕ) → TellsFacts Same whole → UseThese whole steps → IsPartBy Same steps chosen part → (x : StepModel) (before now : List ℕ)
    → AllZip (IsNewNumber Same chosen) before now → AllZip (StandsFor whole chosen) before now
stand_for Same whole steps part chosen tells these p x [] [] z = tt
stand_for Same whole steps part chosen tells these p x [] (v ∷ vs) z = absurd z
stand_for Same whole steps part chosen tells these p x (u ∷ us) [] z = absurd z
stand_for Same whole steps part chosen tells these p x (u ∷ us) (v ∷ vs) z =
    let s = z.0 in
    let within = chosen_within Same whole steps part chosen v s.number these p s.chosen_at in
    let step = get_or whole s.number x in
    let at : slice_get whole s.number ≡ Some step = slice_get-get_or whole s.number x within in (
      record { number = s.number; chosen_at = s.chosen_at; earlier = s.earlier; step = step; at = at; same = λ old there. tells s.number u step old s.same at there },
      stand_for Same whole steps part chosen tells these p x us vs z.1,
    )

-- the picked steps are a part
pub part_picked : (Same : ℕ → ℕ → Type 0) (whole small : List StepModel) (steps part : List Uses) (chosen : List ℕ) → TellsFacts Same whole → UseThese whole steps → IsPartBy Same steps chosen part → ArePicked whole chosen part small → IsPart whole chosen small
part_picked Same whole small steps part chosen tells these p picked = record { increase = p.increase; long = picked.long; each = each }
  where
    each : (k : ℕ) (x : StepModel) → slice_get small k ≡ Some x → IsRenumbered whole chosen k x
    each k x at =
        let q = picked.each k x at in
        let r = p.each k q.uses q.here in
        let is : r.before ≡ q.before = same_Some r.before q.before (sym r.chosen_at ∙ q.chosen_at) in
        let same = uses_at whole steps q.before q.old r.old these q.at (ap (slice_get steps) (sym is) ∙ r.at) in
        let zip = stand_for Same whole steps part chosen tells these p q.old (numbers_used r.old) (numbers_used q.uses) r.uses in
        let one = subst (λ (us : List ℕ). AllZip (StandsFor whole chosen) us (numbers_used q.uses)) same zip in
        record {
          before = q.before;
          chosen_at = q.chosen_at;
          old = q.old;
          at = q.at;
          rule = q.rule;
          fact = q.fact;
          uses = subst (λ (us : List ℕ). AllZip (StandsFor whole chosen) q.old.uses us) (sym q.used) one;
        }

-- one number has one fact
pub same_number_tells : (whole : List StepModel) → TellsFacts SameNumber whole
same_number_tells whole j k x y e at there = ap (λ (z : StepModel). z.fact) (same_Some x y (sym at ∙ ap (slice_get whole) e ∙ there))

pub same_fact_tells : (whole : List StepModel) (facts : List ℕ) → HaveTheseFacts whole facts → TellsFacts (SameFact facts) whole
same_fact_tells whole facts h j k x y e at there = (h j k x y at there).0 e

-- ---- each fact once

pub own_picked : (whole small : List StepModel) (steps part : List Uses) (chosen : List ℕ) → IsPartBy SameNumber steps chosen part → ArePicked whole chosen part small → HaveOwnFacts whole → HaveOwnFacts small
own_picked whole small steps part chosen p picked own j k x y one other same =
    let a = picked.each j x one in
    let b = picked.each k y other in
    let e : a.before ≡ b.before = own a.before b.before a.old b.old a.at b.at (sym a.fact ∙ same ∙ b.fact) in
    one_place chosen p.increase j k b.before (a.chosen_at ∙ ap (λ n. Some n) e) b.chosen_at

pub own_firsts : (whole small : List StepModel) (part : List Uses) (facts chosen : List ℕ) → HaveTheseFacts whole facts → HaveOwnNumbers facts chosen → ArePicked whole chosen part small → HaveOwnFacts small
own_firsts whole small part facts chosen these own picked j k x y one other same =
    let a = picked.each j x one in
    let b = picked.each k y other in
    own j k a.before b.before a.chosen_at b.chosen_at ((these a.before b.before a.old b.old a.at b.at).1 (sym a.fact ∙ same ∙ b.fact))

-- ---- the end of the part

pub end_picked : (whole small : List StepModel) (part : List Uses) (chosen : List ℕ) (last : ℕ) (x : StepModel) → EndsAt chosen last → ArePicked whole chosen part small → slice_get whole last ≡ Some x → EndsIn small x.fact
end_picked whole small part chosen last x e picked at =
    let within : e.number < length small = omega (arith, picked.long, e.count) in
    let y = get_or small e.number x in
    let here : slice_get small e.number ≡ Some y = slice_get-get_or small e.number x within in
    let q = picked.each e.number y here in
    let is : q.before ≡ last = same_Some q.before last (sym q.chosen_at ∙ e.at) in
    let old : q.old ≡ x = same_Some q.old x (sym q.at ∙ ap (slice_get whole) is ∙ at) in
    record { number = e.number; count = picked.long ∙ e.count; last = y; at = here; is = q.fact ∙ ap (λ (z : StepModel). z.fact) old }

pub used_picked : (whole small : List StepModel) (part : List Uses) (chosen : List ℕ) → length part ≡ length chosen → AreUsedBehind part → ArePicked whole chosen part small → (k : ℕ) → k + 1 < length small → IsUsedLater small k
used_picked whole small part chosen long used picked k lt =
    let u = used k (omega (arith, lt, long, picked.long)) in
    let within : u.user < length small = omega (arith, long, picked.long, slice_get_within part u.user u.step u.at) in
    let d : StepModel = get_or small u.user (first_of small within) in
    let here : slice_get small u.user ≡ Some d = slice_get-get_or small u.user (first_of small within) within in
    let q = picked.each u.user d here in
    let step : u.step ≡ q.uses = same_Some u.step q.uses (sym u.at ∙ q.here) in
    record { user = u.user; later = u.later; step = d; at = here; among = subst (λ (us : List ℕ). Contains us k) (ap numbers_used step ∙ sym q.used) u.among }
  where
    first_of : (xs : List StepModel) {n : ℕ} → n < length xs → StepModel
    first_of [] lt = absurd (omega (arith, lt))
    first_of (x ∷ xs) lt = x
