use Rattle.std.proofs.Common.{List, map, subst}
use Rattle.krates_ids.specs.Identity.{Identity}
use Rattle.krates_document.specs.CrateTable.{IsNumberOf}
use Rattle.krates_rules.specs.Resolved.{id_of}
use Rattle.krates_questions.proofs.questions.Document.crate_number.Goals as goal

pub returns : goal.returns
returns c = rw (← c.self.view_is) (subst (λ (ks : List Identity). IsNumberOf (map id_of ks) (id_of c.args.id.now) c.number_of.result) c.deref.ensures.value c.number_of.ensures)
