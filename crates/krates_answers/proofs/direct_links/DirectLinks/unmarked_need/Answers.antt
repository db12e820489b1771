use Rattle.std.proofs.Common.{◌∙◌, ◌<◌, ℕ, List, Contains, arith, length, subst, sym}
use Rattle.std.proofs.lemmas.List.{take_all}
use Rattle.std.proofs.lemmas.List.Elements.{Contains-get_or}
use Rattle.krates_answers.proofs.OrderLemmas.{among_of, listed_of}
use Rattle.krates_answers.proofs.direct_links.DirectLinks.unmarked_need.Goals as goal

pub returns-then-not-is_marked : goal.returns-then-not-is_marked
returns-then-not-is_marked c =
    let l = c.loop-need in
    let needs = c.list-needs.result.now in
    let need = c.need-item.result in
    let lt : l.need-index < length needs = omega (arith, c.loop-need-test.true) in
    let among : Contains needs need = subst (Contains needs) (sym c.need-item.is) (Contains-get_or needs l.need-index need lt) in
    record {
      need = listed_of c.args.self.now c.args.number need (subst (λ (ns : List ℕ). Contains ns need) c.list-needs.ensures among);
      unmarked = sym c.is_marked.ensures ∙ c.if-not-is_marked.true;
    }

pub returns : goal.returns
returns c = λ m need.
    let l = c.loop-need in
    let needs = c.list-needs.result.now in
    let among : Contains needs m = subst (λ (ns : List ℕ). Contains ns m) (sym c.list-needs.ensures) (among_of c.args.self.now c.args.number m need) in
    l.invariant m (subst (λ (ns : List ℕ). Contains ns m) (sym (take_all l.need-index needs c.loop-need-test.false)) among)
