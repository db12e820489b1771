use Rattle.std.proofs.Common.{◌∙◌, ap}
use Rattle.krates_questions.specs.declared.lookup.Lookup.{Lookup}
use Rattle.krates_questions.proofs.questions.Document.nodes.Goals as goal

pub returns : goal.returns
returns c = c.deref.ensures.value ∙ ap (λ (d : Lookup). d.resolve.now.nodes.items) c.self.view_is
