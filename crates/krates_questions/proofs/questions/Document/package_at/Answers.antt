use Rattle.std.proofs.Common.{arith}
use Rattle.std.proofs.lemmas.Grind.{elements}
use Rattle.krates_questions.proofs.questions.Document.package_at.Goals as goal

pub returns : goal.returns
returns c = λ i numbered. grind (arith, elements)

pub index-requires : goal.index-requires
index-requires c = grind (arith, elements)
