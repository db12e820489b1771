use Rattle.std.proofs.Common.{◌∙◌, ap}
use Rattle.krates_questions.specs.declared.lookup.Lookup.{Lookup}
use Rattle.krates_questions.proofs.questions.Document.packages.Goals as goal

pub returns : goal.returns
returns c = c.deref.ensures.value ∙ ap (λ (d : Lookup). d.metadata.now.packages.items) c.self.view_is
