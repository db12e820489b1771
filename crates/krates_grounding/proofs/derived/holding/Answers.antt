use Rattle.std.proofs.Common.{◌≡◌, ℕ, ◌+◌, List, map, length, get_or, option_map, Some, refl, sym, ap, ◌∙◌, subst, arith}
use Rattle.std.proofs.lemmas.Bool.{false≢true}
use Rattle.std.proofs.lemmas.Option.{slice_get-map, slice_get-get_or}
use Rattle.std.specs.Global.{Global, Vec}
use Rattle.std.specs.List.{slice_get}
use Rattle.krates_closure.specs.Closure.{Derivable}
use Rattle.krates_build_facts.specs.FactModels.{FactModel, fact_view}
use Rattle.krates_grounding.specs.Grounding.{AreToldUpTo}
use Rattle.krates_build_facts.specs.declared.facts.BuildFact.{BuildFact}
use Rattle.krates_grounding.proofs.ToldFacts.{none_told, not_told, one_told}
use Rattle.krates_grounding.proofs.derived.holding.Goals as goal
use Rattle.krates_grounding.proofs.derived.holding.Goals.{then-holds+in_ok-push, else-holds}

pub loop-number-init : goal.loop-number-init
loop-number-init c = none_told _ _ _ c.new-told.ensures.items

pub loop-number-preserved : goal.loop-number-preserved
loop-number-preserved c =
    let n = c.loop-number.number in
    let facts = c.args.facts.now in
    let all = map fact_view facts in
    let clauses = c.args.closure.now.clauses.list in
    let here : slice_get all n ≡ Some (fact_view (get_or facts n _))
    = slice_get-map fact_view facts n ∙ ap (option_map fact_view) (slice_get-get_or facts n _ c.loop-number-test.true) in
    elim c.if-holds.branch [
      | then-holds+in_ok-push w ↦ (
          let pushed = ap (λ (v : Vec BuildFact). v.items) w.told-is ∙ w.in_ok-push.ensures.items in
          let d = subst (λ (k : ℕ). Derivable clauses k) c.new.ensures (w.if-holds.ensures.0 refl) in
          one_told clauses all c.loop-number.told.items _ _ n pushed here d c.loop-number.invariant)
      | else-holds w ↦ (
          let never : Derivable clauses n → ⊥ = λ d. false≢true (w.if-holds.ensures.1 (subst (λ (k : ℕ). Derivable clauses k) (sym c.new.ensures) d)) in
          subst (λ (v : Vec BuildFact). AreToldUpTo clauses all (map fact_view v.items) (n + 1)) (sym w.told-is)
          (not_told clauses all (map fact_view c.loop-number.told.items) n never c.loop-number.invariant))
    ]

pub returns : goal.returns
returns c =
    let end : c.loop-number.number ≡ length c.args.facts.now = omega arith in
    subst (λ (n : ℕ). AreToldUpTo c.args.closure.now.clauses.list (map fact_view c.args.facts.now) (map fact_view c.loop-number.told.items) n) end c.loop-number.invariant
