use Rattle.std.proofs.Common.{◌≡◌, ◌≤◌, All, length, arith, subst}
use Rattle.std.proofs.lemmas.List.{take_all}
use Rattle.std.proofs.lemmas.List.Elements.{All-contains}
use Rattle.krates_rules.proofs.Members.{contains_of, mapped_of, member_of}
use Rattle.krates_rules.specs.Facts.{Crate}
use Rattle.krates_rules.specs.Resolved.{id_of}
use Rattle.krates_rules.specs.StepViews.{fact_view, facts_view}
use Rattle.krates_rules.specs.declared.derivation.Fact.{Fact}
use Rattle.krates_answers.proofs.unreachable.has_crate.Goals as goal

pub returns : goal.returns
returns c =
    let facts = c.args.facts.now in
    let says = Crate (id_of c.args.kid.now) in
    let past : length facts ≤ c.loop-fact.fact-index = omega arith in
    let each = subst (All (λ (fact : Fact). fact_view fact ≡ says → ⊥)) (take_all c.loop-fact.fact-index facts past) c.loop-fact.invariant in (
      λ t. absurd cc,
      λ h.
          (let w = mapped_of fact_view facts says (member_of (facts_view facts) says h) in
          absurd (All-contains (λ (fact : Fact). fact_view fact ≡ says → ⊥) facts w.from each (contains_of facts w.from w.member) w.is)),
    )
