use Rattle.std.proofs.Common.{ℕ, MatchOption}
use Rattle.krates_cm.specs.Document.{DependencyModel, dep_kind_info_view}
use Rattle.krates_rules.specs.Questions.{Declares}
use Rattle.krates_rules.specs.Facts.{Edge}
use Rattle.krates_questions.specs.Lookup.{resolved_view}
use Rattle.krates_rules.specs.Resolved.{id_of}
use Rattle.krates_questions.proofs.Asked.{between, declared_told, undeclared_without}
use Rattle.krates_questions.proofs.questions.Document.declared.Goals as goal

pub declared_for-requires : goal.declared_for-requires
declared_for-requires c = record { entry = c.in-Some.ensures.entry }

pub returns-in-Some : goal.returns-in-Some
returns-in-Some c =
    (let r = resolved_view c.args.self.now in
    let x = c.in-Some.entry in
    let k = dep_kind_info_view c.args.info.now in
    let b = c.in-Some.ensures in
    let answer = c.declared_for.result in
    between (λ (e : Edge). MatchOption answer ((place : ℕ) (d : DependencyModel) → Declares r e place d → ⊥) (λ place. (d : DependencyModel) × Declares r e place d)) r (id_of c.args.parent.now) (id_of c.args.child.now) x k b
    (declared_told r x k answer c.agrees.ensures.distinct b.entry c.declared_for.ensures))

pub returns-in-None : goal.returns-in-None
returns-in-None c = (undeclared_without (resolved_view c.args.self.now) (id_of c.args.parent.now) (id_of c.args.child.now) (dep_kind_info_view c.args.info.now) c.in-None.ensures)
