-- What accepted steps and closed facts say.
use Rattle.std.proofs.Common.{◌≡◌, ◌∙◌, ◌-◌, ℕ, List, Some, length, map, option_map, slice_get, ap, subst, sym}
use Rattle.std.proofs.lemmas.List.{length-map}
use Rattle.std.proofs.lemmas.Option.{slice_get-map}
use Rattle.std.specs.BTreeSet.{BTreeSet}
use Rattle.krates_cm.specs.Document.{Text}
use Rattle.krates_build_certificate.specs.BuildCertificateViews.{ToldStep}
use Rattle.krates_build_checkers.specs.Acceptance.{AreAccepted}
use Rattle.krates_build_checkers.specs.Closedness.{IsClosed}
use Rattle.krates_build_facts.specs.FactModels.{RuleModel, fact_view}
use Rattle.krates_build_facts.specs.Steps.{step_view}
use Rattle.krates_build_facts.specs.declared.facts.BuildFact.{BuildFact}
use Rattle.krates_build_facts.specs.declared.steps.BuildStep.{BuildStep}
use Rattle.krates_build_naming.specs.declared.names.FactNames.{FactNames}
use Rattle.krates_build_tables.specs.declared.tables.Tables.{Tables}
use Rattle.krates_build_verdict.specs.BuildVerdicts.{HasBuilt, NoneLost}
use Rattle.krates_build_verdict.specs.NamedClaims.{NamesFacts, NamesSteps}
use Rattle.krates_build_verdict.specs.SaidClaims.{SaysCrates, SaysFact}

-- the last of the steps gives the fact
pub says_fact : (t : Tables) (n : FactNames) (told : List ToldStep) (made checked looked : List BuildStep) (last : BuildStep) (count : ℕ) → checked ≡ made → looked ≡ made → count ≡ length made
    → NamesSteps n told (map step_view made) → AreAccepted t (map step_view checked) → slice_get looked (length looked - 1) ≡ Some last → SaysFact t n told (fact_view last.fact) count
says_fact t n told made checked looked last count same alike counted named accepted there =
    let here = subst (λ (xs : List BuildStep). slice_get xs (length xs - 1) ≡ Some last) alike there in
    let at = subst (λ (k : ℕ). slice_get made (k - 1) ≡ Some last) (sym counted) here in
    let seen : slice_get (map step_view made) (count - 1) ≡ Some (step_view last) = slice_get-map step_view made (count - 1) ∙ ap (option_map step_view) at in
    record {
      steps = map step_view made;
      named = named;
      accepted = subst (λ (xs : List BuildStep). AreAccepted t (map step_view xs)) same accepted;
      counted = counted ∙ sym (length-map made step_view);
      last = slice_get-map (λ (step : RuleModel). step.fact) (map step_view made) (count - 1) ∙ ap (option_map (λ (step : RuleModel). step.fact)) seen;
    }

-- the facts say that these crates are built
pub says_crates : (t : Tables) (n : FactNames) (words : List (List Text)) (made whole checked counted : List BuildFact) (krates : BTreeSet ℕ) → whole ≡ made → checked ≡ made → counted ≡ made
    → NamesFacts n words (map fact_view made) → NoneLost (map fact_view whole) → IsClosed t (map fact_view checked) → HasBuilt krates (map fact_view counted) → SaysCrates t n words krates
says_crates t n words made whole checked counted krates one two three named none closed built = record {
  facts = map fact_view made;
  named = named;
  closed = subst (λ (xs : List BuildFact). IsClosed t (map fact_view xs)) two closed;
  whole = subst (λ (xs : List BuildFact). NoneLost (map fact_view xs)) one none;
  built = subst (λ (xs : List BuildFact). HasBuilt krates (map fact_view xs)) three built;
}
