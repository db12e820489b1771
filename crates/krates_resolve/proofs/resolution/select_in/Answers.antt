use Rattle.std.proofs.Common.{ℕ, ◌<◌, List, length, subst, sym}
use Rattle.krates_questions.specs.Lookup.{resolved_view}
use Rattle.krates_selection.specs.Trace.{HasSomeStep, IsTrace}
use Rattle.krates_selection.specs.declared.trace.NumberedStep.{NumberedStep}
use Rattle.krates_rules.proofs.Elements.{has_element}
use Rattle.krates_resolve.proofs.resolution.select_in.Goals as goal

pub selection_of-requires-clause-some : goal.selection_of-requires-clause-some
selection_of-requires-clause-some c = subst (λ (ps : List ℕ). 0 < length ps) c.numbers.ensures.put (has_element c.numbers.result.now c.if-is_empty.ensures)

pub returns-clause-selected : goal.returns-clause-selected
returns-clause-selected c =
    let x = c.in_ok-numbered.ensures.selected in
    record {
      facts = x.facts;
      some = x.some;
      krates = x.krates;
      edges = x.edges;
      ends = x.ends;
      placed = x.placed;
      features = x.features;
      homes = x.homes;
      toggled = x.toggled;
      toggled_crates = x.toggled_crates;
      work = x.work;
    }

pub returns-clause-explained : goal.returns-clause-explained
returns-clause-explained c =
    let exact = c.in_ok-found.ensures.exact in
    let sound = c.in_ok-found.ensures.sound in
    let chosen = c.in_ok-numbered.ensures.selected in
    let r = resolved_view c.args.document.now in
    let same = sym c.trace_of.ensures in
    record {
      trace = subst (λ (steps : List NumberedStep). IsTrace r c.args.setting.now steps) same sound.trace;
      stepped = λ f among. subst (λ (steps : List NumberedStep). HasSomeStep r steps f) same (sound.stepped f ((exact f).0 ((chosen.facts f).1 among)));
    }
