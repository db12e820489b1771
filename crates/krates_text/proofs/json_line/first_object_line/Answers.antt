use Rattle.std.proofs.Common.{rules}
use Rattle.std.proofs.lemmas.Iterator.Search.{find_from_yields_List}
use Rattle.std.proofs.lemmas.Iterator.Splits.{YieldsList-from_lines}
use Rattle.krates_text.specs.JsonLine.{begins_object}
use Rattle.krates_text.proofs.json_line.first_object_line.Goals as goal

pub returns : goal.returns
returns c = find_from_yields_List begins_object _ _ _ c.find.ensures.ran (YieldsList-from_lines c.args.output.now c.lines.ensures.rest) (λ x b q k. search rules)
