use Rattle.krates_verdict.proofs.CountedCrates.{crates_put, crates_same}
use Rattle.krates_verdict.proofs.crates_of_facts.put_crate.Goals as goal

pub returns-in_ok-insert-in-Crate : goal.returns-in_ok-insert-in-Crate
returns-in_ok-insert-in-Crate c =
    λ fs h. rw c.in-Crate.is (crates_put c.comparison.ensures.order c.args.krates.now c.insert.new.self fs c.in-Crate.krate c.in_ok-insert-in-Crate.ensures.updates.0 h)

pub returns-in-Feature : goal.returns-in-Feature
returns-in-Feature c = λ fs h. rw c.in-Feature.is (crates_same c.args.krates.now fs _ (λ i same. absurd cc) h)

pub returns-in-Kept : goal.returns-in-Kept
returns-in-Kept c = λ fs h. rw c.in-Kept.is (crates_same c.args.krates.now fs _ (λ i same. absurd cc) h)

pub returns-in-Toggled : goal.returns-in-Toggled
returns-in-Toggled c = λ fs h. rw c.in-Toggled.is (crates_same c.args.krates.now fs _ (λ i same. absurd cc) h)
