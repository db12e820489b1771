use Rattle.std.proofs.Common.{◌≡◌, ◌∙◌, ℕ, ap, length, refl, rules}
use Rattle.krates_rules.specs.StepViews.{fact_view}
use Rattle.krates_verdict.specs.Holding.{said_last}
use Rattle.krates_verdict.specs.Subject.{subject_view}
use Rattle.krates_verdict.proofs.SpokenOf.{is_about}
use Rattle.krates_verdict.proofs.Truth.{last_true}
use Rattle.krates_verdict.proofs.subject.CertificateSubject.said_by_steps.Goals as goal

pub of-requires : goal.of-requires
of-requires c =
    let s = subject_view c.args.self.now in
    let last = c.in-Some.last in
    is_about s (fact_view last.fact) (last_true c.accepted_lists.ensures.last s c.args.steps.items c.pop.new.self.items last (fact_view last.fact) c.requires c.in-Some.ensures.items refl)

pub returns-clause-says : goal.returns-clause-says
returns-clause-says c =
    let long : c.len-count.result ≡ length c.args.steps.items = search rules in record {
      before = c.pop.new.self.items;
      last = c.in-Some.last;
      ends = c.in-Some.ensures.items;
      fact = c.in_ok-fact-in-Some.fact;
      is_named = c.in_ok-fact-in-Some.ensures;
      says = c.of_last.ensures ∙ ap (λ (n : ℕ). said_last c.in_ok-fact-in-Some.fact n) long;
    }
