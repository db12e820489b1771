use Rattle.std.proofs.Common.{◌≡◌, List, map, sym, subst, arith}
use Rattle.std.proofs.lemmas.Grind.{common_steps}
use Rattle.krates_questions.specs.Context.{document_of}
use Rattle.krates_questions.specs.ReferentPlace.{referent_id}
use Rattle.krates_rules.specs.Facts.{Id}
use Rattle.krates_rules.specs.Referent.{AreReferents}
use Rattle.krates_rules.specs.Resolved.{id_of}
use Rattle.krates_drawing.proofs.gather.meant_by.Goals as goal

pub loop-referent-preserved : goal.loop-referent-preserved
loop-referent-preserved c = grind (arith, common_steps)

pub returns : goal.returns
returns c =
    let same : map id_of c.loop-referent.ids.items ≡ map referent_id c.in_ok-referents.referents.items = grind (arith, common_steps) in
    subst (λ (js : List Id). AreReferents (document_of c.args.context) c.args.context.setting.now.all_named (id_of c.args.krate.now) c.args.name.now js) (sym same) c.in_ok-referents.ensures
