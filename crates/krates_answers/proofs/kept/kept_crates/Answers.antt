use Rattle.std.proofs.Common.{List}
use Rattle.std.proofs.lemmas.Iterator.Consumers.{YieldsList-from_first, map_from_collect}
use Rattle.krates_cm.specs.declared.package.Package.{Package}
use Rattle.krates_queries.specs.KrateNodes.{Match, crates_of, match_view}
use Rattle.krates_answers.proofs.kept.kept_crates.Goals as goal

pub returns : goal.returns
returns c = map_from_collect c.collect.result c.collect.ensures.ran (YieldsList-from_first match_view (λ (left : List (Match Package)). left) (crates_of c.args.krates.now) c.krate_nodes.ensures.all)
