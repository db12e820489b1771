use Rattle.std.proofs.Common.{◌≡◌, ℕ, List, All, Contains, length, map, subst, arith}
use Rattle.std.proofs.lemmas.List.{length-map}
use Rattle.krates_build_tables.specs.declared.tables.Tables.{Tables}
use Rattle.krates_build_facts.specs.FactModels.{FactModel, fact_view}
use Rattle.krates_grounding.specs.Grounding.{AreToldUpTo}
use Rattle.krates_build_facts.specs.Mattering.{MayMatter}
use Rattle.krates_build_facts.specs.Meanings.{Follows}
use Rattle.krates_build_facts.specs.declared.facts.BuildFact.{BuildFact}
use Rattle.krates_grounding.proofs.ToldFacts.{told_all, told_follow, told_in_order}
use Rattle.krates_grounding.proofs.derived.Derived.facts.Goals as goal

pub returns-clause-sound : goal.returns-clause-sound
returns-clause-sound c =
    let own = c.self.inside in
    let clauses = own.closure.clauses.list in
    let all = map fact_view own.facts.items in
    let n = length own.facts.items in
    let found = subst (λ (fs : List BuildFact). AreToldUpTo clauses (map fact_view fs) (map fact_view c.in_ok-told.told.items) (length fs)) c.deref.ensures.value c.in_ok-told.ensures in
    let sorted = c.in_ok-sorted.sorted.items in
    let are = told_in_order clauses all c.in_ok-told.told.items sorted n c.in_ok-sorted.ensures.from c.in_ok-sorted.ensures.kept found in
    subst (λ (t : Tables). All (Follows t) (map fact_view sorted)) c.self.view_is (told_follow own.tables all own.numbers own.closure.clauses c.self.invariant (map fact_view sorted) n are)

pub returns-clause-complete : goal.returns-clause-complete
returns-clause-complete c =
    let own = c.self.inside in
    let clauses = own.closure.clauses.list in
    let all = map fact_view own.facts.items in
    let n = length own.facts.items in
    let found = subst (λ (fs : List BuildFact). AreToldUpTo clauses (map fact_view fs) (map fact_view c.in_ok-told.told.items) (length fs)) c.deref.ensures.value c.in_ok-told.ensures in
    let sorted = c.in_ok-sorted.sorted.items in
    let are = told_in_order clauses all c.in_ok-told.told.items sorted n c.in_ok-sorted.ensures.from c.in_ok-sorted.ensures.kept found in
    subst (λ (t : Tables). (f : FactModel) → MayMatter t f → Follows t f → Contains (map fact_view sorted) f) c.self.view_is
    (told_all own.tables all own.numbers own.closure.clauses c.self.invariant (map fact_view sorted) n (omega (arith, length-map own.facts.items fact_view)) are)

pub returns-clause-ordered : goal.returns-clause-ordered
returns-clause-ordered c = c.in_ok-sorted.ensures.ascending
