use Rattle.std.proofs.Common.{map, subst}
use Rattle.std.proofs.lemmas.Result.{IfOk-weaker}
use Rattle.krates_questions.specs.Lookup.{resolved_view}
use Rattle.krates_questions.specs.ReferentPlace.{referent_id}
use Rattle.krates_rules.specs.Facts.{Id}
use Rattle.krates_rules.specs.Referent.{AreReferents}
use Rattle.krates_rules.specs.Resolved.{id_of}
use Rattle.krates_questions.proofs.AllReferents.{none_meant}
use Rattle.krates_questions.proofs.questions.Document.referents.Goals as goal

pub returns-in-Some : goal.returns-in-Some
returns-in-Some c =
    let r = resolved_view c.args.self.now in
    rw (← c.is_all_named-all.ensures)
    (IfOk-weaker c.referents_of.result _ _ (λ xs told. subst (λ (i : Id). AreReferents r c.is_all_named-all.result i c.args.name.now (map referent_id xs.items)) c.in-Some.ensures.parent told.are) c.referents_of.ensures)

pub returns-in-None : goal.returns-in-None
returns-in-None c =
    let r = resolved_view c.args.self.now in
    rw (c.new.ensures.items) (none_meant r c.args.setting.now.all_named (id_of c.args.krate.now) c.args.name.now (λ child is. c.in-None.ensures is.is_named.node is.is_named.has_node))
