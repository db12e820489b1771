use Rattle.std.proofs.Common.{subst, sym}
use Rattle.krates_questions.specs.Lookup.{resolved_view}
use Rattle.krates_rules.specs.Resolved.{id_of}
use Rattle.krates_rules.specs.Roots.{IsRoot}
use Rattle.krates_questions.proofs.questions.Document.is_root.Goals as goal

pub returns-in-Root : goal.returns-in-Root
returns-in-Root c =
    let root = c.in-Root.ensures in (
      λ t. subst (IsRoot (resolved_view c.args.self.now) c.args.setting.now) (c.is_same.ensures.0 t) root.0,
      λ is. c.is_same.ensures.1 (sym (root.1 (id_of c.args.krate.now) is)),
    )
