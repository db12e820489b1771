use Rattle.std.proofs.Common.{None}
use Rattle.krates_cm.specs.Document.{DependencyModel, dep_kind_info_view, dependency_view}
use Rattle.krates_questions.specs.Lookup.{resolved_view}
use Rattle.krates_questions.specs.Availability.{IsDeclaredOnly}
use Rattle.krates_rules.specs.Questions.{IsDeclaredAs}
use Rattle.krates_rules.specs.Resolved.{id_of}
use Rattle.krates_questions.proofs.Asked.{between, declared_told, undeclared_without}
use Rattle.krates_questions.proofs.Needs.{declaration_here, declared_below}
use Rattle.krates_questions.proofs.questions.Document.declaration.Goals as goal

pub returns-in_default : goal.returns-in_default
returns-in_default c d h = undeclared_without (resolved_view c.args.self.now) (id_of c.args.parent.now) (id_of c.args.child.now) (dep_kind_info_view c.args.info.now) c.in_default.ensures h.0 d h.1

pub returns-in_default-declared_for : goal.returns-in_default-declared_for
returns-in_default-declared_for c =
    let r = resolved_view c.args.self.now in
    let x = c.in-Some.entry in
    let k = dep_kind_info_view c.args.info.now in
    between (λ e. (d : DependencyModel) → IsDeclaredAs r e d → ⊥) r (id_of c.args.parent.now) (id_of c.args.child.now) x k c.in-Some.ensures
    (λ d h. declared_told r x k None c.agrees.ensures.distinct c.in-Some.ensures.entry c.in_default-declared_for.ensures h.0 d h.1)

pub declared_at-requires : goal.declared_at-requires
declared_at-requires c =
    let told = c.in-Some-declared_for.ensures in
    declared_below c.in-Some.entry (dep_kind_info_view c.args.info.now) c.in-Some-declared_for.place told.dependency told.declared

pub returns : goal.returns
returns c =
    let r = resolved_view c.args.self.now in
    let x = c.in-Some.entry in
    let k = dep_kind_info_view c.args.info.now in
    let d = c.declared_at.result.now in
    between (λ e. IsDeclaredOnly r e (dependency_view d)) r (id_of c.args.parent.now) (id_of c.args.child.now) x k c.in-Some.ensures
    (declaration_here r x k c.in-Some-declared_for.place d c.agrees.ensures.distinct c.in-Some.ensures.entry c.in-Some-declared_for.ensures c.declared_at.ensures)
