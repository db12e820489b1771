use Rattle.std.proofs.Common.{rules, ◌≡◌, ◌∙◌, ◌++◌, ℕ, List, [], Bor, append-nil, map, reverse, sym, ap}
use Rattle.std.proofs.lemmas.Iterator.Adapters.{YieldsList-from_rev_slice}
use Rattle.std.proofs.lemmas.Iterator.Consumers.{YieldsList-end}
use Rattle.krates_answers.specs.Tree.{line_below, list_of}
use Rattle.krates_answers.proofs.TreeNumbers.{list_of-none, list_of-some}
use Rattle.krates_answers.proofs.direct_links.DirectLinks.push_below.Goals as goal

pub returns-in_default : goal.returns-in_default
returns-in_default c =
    let none : list_of c.args.self.now c.args.line.now.krate ≡ [] = list_of-none c.args.self.now c.args.line.now.krate (sym (rw c.in_default.is at c.of.ensures.list)) in
    sym
    (ap (λ (ns : List ℕ). c.args.waiting.now.items ++ map (line_below c.args.line.now) (reverse ns)) none ∙ append-nil c.args.waiting.now.items)

pub returns : goal.returns
returns c =
    let lists = c.args.self.now in
    let all : map (λ (number : Bor ℕ). number.now) c.loop-number.yielded ≡ reverse c.in-Some.numbers.now =
    (YieldsList-end (YieldsList-from_rev_slice c.in-Some.numbers.now (search rules)) c.loop-number.yielded _ c.loop-number.yielded_by _ _ c.in-None.is c.next.ensures.steps).0 in
    c.loop-number.invariant
    ∙ ap (λ (ns : List ℕ). c.args.waiting.now.items ++ map (line_below c.args.line.now) ns) (all ∙ ap reverse (sym (list_of-some lists c.args.line.now.krate c.in-Some.numbers.now (sym c.in-Some.ensures.list))))
