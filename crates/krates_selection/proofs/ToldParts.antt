-- Parts of the kept steps, with ids in place of numbers.
use Rattle.std.proofs.Common.{◌≡◌, ℕ, ◌+◌, ◌<◌, List, [], ◌∷◌, ◌++◌, All, None, length, get_or, take, refl, sym, ap, ◌∙◌, subst, arith}
use Rattle.std.proofs.lemmas.List.{map-append, take_more}
use Rattle.std.proofs.lemmas.Option.{slice_get-get_or, slice_get_within, get_or_from_slice_get}
use Rattle.krates_rules.specs.StepViews.{fact_view, facts_view}
use Rattle.krates_rules.specs.declared.derivation.Fact.{Fact as ToldFact}
use Rattle.krates_selection.specs.KeptFacts.{uses_in, fact_in, facts_in, kept_view, step_in, steps_in}
use Rattle.krates_selection.specs.declared.kept.KeptStep.{KeptStep}
use Rattle.krates_ids.specs.Identity.{Identity}
use Rattle.krates_rules.specs.Facts.{Fact}
use Rattle.krates_rules.specs.Steps.{StepModel}
use Rattle.krates_rules.specs.Uses.{numbers_used}
use Rattle.krates_rules.specs.declared.uses.Uses.{Uses}
use Rattle.krates_selection.specs.PartOfSteps.{IsPartBy, UseThese}

-- the steps use what their numbers stand for
pub use_these : (kids : List Identity) (steps : List KeptStep) → UseThese (steps_in kids steps) (uses_in steps)
use_these kids [] = refl
use_these kids (x ∷ xs) = ap (λ us. numbers_used x.uses ∷ us) (use_these kids xs)

-- what is chosen is a place of the whole list
pub chosen_low : (Same : ℕ → ℕ → Type 0) (steps part : List Uses) (chosen : List ℕ) → IsPartBy Same steps chosen part → All (λ n. n < length steps) chosen
chosen_low Same steps part chosen p k d lt =
    let none : Uses = record { first = None; second = None } in
    let within : k < length part = omega (arith, lt, p.long) in
    let r = p.each k (get_or part k none) (slice_get-get_or part k none within) in
    subst (λ n. n < length steps) (sym (get_or_from_slice_get chosen k r.before d r.chosen_at)) (slice_get_within steps r.before r.old r.at)

-- one more fact
pub facts_more : (kids : List Identity) (xs : List KeptStep) (i : ℕ) (x : KeptStep) (old : List ToldFact) (y : ToldFact) → i < length xs → x ≡ get_or xs i x → fact_view y ≡ fact_in kids (kept_view x.fact)
    → facts_view old ≡ facts_in (steps_in kids (take i xs)) → facts_view (old ++ y ∷ []) ≡ facts_in (steps_in kids (take (i + 1) xs))
facts_more kids xs i x old y lt is told h =
    let more : take (i + 1) xs ≡ take i xs ++ x ∷ [] = take_more xs i x lt ∙ ap (λ z. take i xs ++ z ∷ []) (sym is) in
    let fact : StepModel → Fact = λ s. s.fact in
    map-append fact_view old (y ∷ []) ∙ ap (λ fs. fs ++ fact_view y ∷ []) h ∙ ap (λ f. facts_in (steps_in kids (take i xs)) ++ f ∷ []) told
    ∙ sym (ap (λ zs. facts_in (steps_in kids zs)) more ∙ ap facts_in (map-append (step_in kids) (take i xs) (x ∷ [])) ∙ map-append fact (steps_in kids (take i xs)) (step_in kids x ∷ []))
