use Rattle.std.proofs.lemmas.Result.{IfOk-weaker}
use Rattle.krates_cm.specs.Document.{dep_kind_info_view}
use Rattle.krates_questions.specs.Lookup.{resolved_view}
use Rattle.krates_questions.specs.Availability.{TellsNeed}
use Rattle.krates_rules.specs.Resolved.{id_of}
use Rattle.krates_questions.proofs.Asked.{between}
use Rattle.krates_questions.proofs.Needs.{absent_need}
use Rattle.krates_questions.proofs.questions.Document.need.Goals as goal

pub returns-in-Some : goal.returns-in-Some
returns-in-Some c =
    (let r = resolved_view c.args.self.now in
    IfOk-weaker c.entry_need.result _ _ (λ answer told.
    between (λ e. TellsNeed r c.args.setting.now e answer) r (id_of c.args.parent.now) (id_of c.args.child.now) c.in-Some.entry (dep_kind_info_view c.args.info.now) c.in-Some.ensures told) c.entry_need.ensures)

pub returns-in-None : goal.returns-in-None
returns-in-None c = (absent_need (resolved_view c.args.self.now) c.args.setting.now (id_of c.args.parent.now) (id_of c.args.child.now) (dep_kind_info_view c.args.info.now) c.in-None.ensures)
