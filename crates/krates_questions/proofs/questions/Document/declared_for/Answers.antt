use Rattle.std.proofs.Common.{ℕ, Contains, MatchOption, None, Option, Some}
use Rattle.krates_cm.specs.Document.{DependencyModel, DepKindInfoModel, dep_kind_info_view, node_dep_view}
use Rattle.krates_questions.specs.DocumentAnswers.{TellsDeclared}
use Rattle.krates_questions.specs.NodeEntry.{declared_in, entry_of}
use Rattle.krates_questions.specs.declared.node_entry.NodeEntry.{NodeEntry}
use Rattle.krates_rules.specs.DeclaredDependency.{IsDeclared, IsUndeclared}
use Rattle.krates_questions.proofs.questions.Document.declared_for.Goals as goal

-- what is told of the kind and target, which the dependency lists
told : (x : NodeEntry) (k : DepKindInfoModel) (o : Option ℕ) → Contains (node_dep_view x.dep.now).dep_kinds k
    → MatchOption o (IsUndeclared (declared_in x) (entry_of x) k) (λ place. (d : DependencyModel) × IsDeclared (declared_in x) (entry_of x) k place d) → TellsDeclared x k o
told x k (Some place) listed is = record { among = listed; dependency = is.0; declared = is.1 }
told x k None listed none = λ l. none

pub returns : goal.returns
returns c = told c.args.entry.now (dep_kind_info_view c.args.info.now) c.declared.result (c.lists.ensures.0 c.if-not-lists.false) c.declared.ensures.declared
