use Rattle.std.proofs.Common.{◌∙◌, ap}
use Rattle.krates_questions.specs.declared.lookup.Lookup.{Lookup}
use Rattle.krates_questions.proofs.questions.Document.crate_ids.Goals as goal

pub returns : goal.returns
returns c = c.deref.ensures.value ∙ ap (λ (d : Lookup). d.ids.now.table.ids.items) c.self.view_is
