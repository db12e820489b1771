use Rattle.std.proofs.Common.{◌∙◌, ap}
use Rattle.std.specs.Path.{path_components}
use Rattle.krates_text.proofs.PathLemmas.{components_is}
use Rattle.krates_text.proofs.path.components.Goals as goal

pub returns : goal.returns
returns c = c.components.ensures ∙ ap path_components c.new.ensures ∙ components_is c.args.path.now
